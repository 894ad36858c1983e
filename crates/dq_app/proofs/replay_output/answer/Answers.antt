use Rattle.dq_app.proofs.Inputs.{if_error}
use Rattle.dq_app.proofs.Cutting.{cuts-given}
use Rattle.dq_app.proofs.replay_output.answer.Goals as goal

pub returns-in_err-print_all-clause-cut : goal.returns-in_err-print_all-clause-cut
returns-in_err-print_all-clause-cut g c =
    let made = c.in_ok-outcome in
    if_error _ c.from_residual-in_err-print_all.result _ c.from_residual-in_err-print_all.ensures.1 (
      made.outcome.tables,
      λ honest. (
        made.ensures.was_honest honest,
        cuts-given _ _ _ _ _ _ _ _ (made.ensures.given honest) (rw c.as_slice.ensures at c.in_err-print_all.ensures.cut),
      ),
    )

pub returns-clause-done : goal.returns-clause-done
returns-clause-done g c = λ honest.
    rw (← (c.in_ok-outcome.ensures.given honest).whole c.in_ok-print_all.ensures.unfaulted) (rw c.as_slice.ensures at c.in_ok-print_all.ensures.done)
