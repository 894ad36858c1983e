use Rattle.std.proofs.Common.{◌≡◌, ℕ, List, true, false, Option, Some, None, Bor, drop, codes, is_some, option_copied, inl, inr, sym, subst, refl, ◌∙◌}
use Rattle.std.proofs.lemmas.Bool.{false≢true}
use Rattle.dq_web.specs.Requests.{IsSole}
use Rattle.dq_web.proofs.cutting.head_at.Goals as goal

option_copied-none : (value : Option (Bor (List ℕ))) → is_some value ≡ false → option_copied value ≡ None
option_copied-none None none = refl
option_copied-none (Some x) none = cc

pub returns-clause-head : goal.returns-clause-head
returns-clause-head c =
    let at = c.requires.head.1 in
    record {
      parts = c.requires.head.0;
      reads = at.reads;
      method = c.of.ensures ∙ at.method;
      target = c.of-2.ensures ∙ at.path;
      fields = rw (← at.fields) c.in_ok-fields.ensures;
      coding = option_copied-none _ (sym c.is_some.ensures ∙ c.if-is_some.false);
      body = c.in_ok-body_length.ensures;
      old = rw (← at.version) refl;
      last = rw (← at.version) c.ends_here-is_last.ensures;
      extent = at.len;
      bound = c.requires.bound;
    }

-- the field that is there, of the fields of a head
there : (name : List ℕ) (pairs others : List (List ℕ × List ℕ)) (value : Option (Bor (List ℕ))) → is_some value ≡ true → pairs ≡ others
    → IsSole name pairs (option_copied value) → (text : List ℕ) × IsSole name others (Some text)
there name pairs others None is same sole = absurd (false≢true is)
there name pairs others (Some text) is same sole =
    (text.now, subst (λ (them : List (List ℕ × List ℕ)). IsSole name them (Some text.now)) same sole)

pub returns-then-is_some-clause-bad : goal.returns-then-is_some-clause-bad
returns-then-is_some-clause-bad c =
    let at = c.requires.head.1 in (
      c.requires.head.0,
      drop c.args.spans.len c.args.octets.now,
      at.reads,
      inr (inr (inl (
        refl,
        there (codes "transfer-encoding") _ _ c.in_ok-fields.fields.transfer_encoding (sym c.is_some.ensures ∙ c.if-is_some.true) at.fields
            c.in_ok-fields.ensures.transfer_encoding,
      ))),
    )
