use Rattle.dq_console.proofs.Outcomes.{if_error}
use Rattle.dq_console.proofs.requests.back_up.Goals as goal

pub returns-in_err-made-clause-cut : goal.returns-in_err-made-clause-cut
returns-in_err-made-clause-cut g c =
    if_error _ c.from_residual.result _ c.from_residual.ensures.1
    (_, c.looks_are_one_look.ensures.no_look _, c.in_err-made.ensures.fails)
