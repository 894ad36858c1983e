use Rattle.std.proofs.Common.{append_assoc, ◌≡◌, ◌++◌, string_bytes, codes, IfOk}
use Rattle.dq_test_data_sets.proofs.trial.answer_text.Goals as goal

pub returns-in_ok-implicit-in-Spelled : goal.returns-in_ok-implicit-in-Spelled
returns-in_ok-implicit-in-Spelled c =
    let h : IfOk c.format-in-Spelled.result (λ s. string_bytes s ≡ string_bytes c.in_ok-explicit-in-Spelled.explicit
    ++ (codes " " ++ string_bytes c.in_ok-implicit-in-Spelled.implicit)) = c.format-in-Spelled.ensures.ok in
    simp (c.in-Spelled.is, append_assoc)
    (simp (
      c.in_ok-explicit-in-Spelled.ensures,
      c.in_ok-implicit-in-Spelled.ensures,
      c.as_slice.ensures.value,
      c.inner.ensures,
      c.as_slice-in-Spelled.ensures.value,
      c.inner-in-Spelled.ensures,
    ) at h)
