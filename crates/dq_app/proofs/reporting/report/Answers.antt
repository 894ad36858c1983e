use Rattle.dq_app.proofs.Inputs.{if_error}
use Rattle.dq_app.proofs.reporting.report.Goals as goal

pub returns-in_err-put_whole-clause-cut : goal.returns-in_err-put_whole-clause-cut
returns-in_err-put_whole-clause-cut g c =
    let told = c.in_ok-text.ensures in
    if_error _ c.from_residual-in_err-put_whole.result _ c.from_residual-in_err-put_whole.ensures.1 (
      c.in_ok-text.kept,
      λ honest. (told.was_honest honest, rw (told.text honest) at (rw c.as_slice.ensures.value at c.in_err-put_whole.ensures.cut)),
    )
