use Rattle.std.proofs.Common.{refl}
use Rattle.dq_console.proofs.Outcomes.{if_error}
use Rattle.dq_console.proofs.searching.search.Goals as goal

pub returns-in_err-look-clause-cut : goal.returns-in_err-look-clause-cut
returns-in_err-look-clause-cut g c =
    if_error _ c.from_residual.result _ c.from_residual.ensures.1
    (_, c.looks_are_one_look.ensures.no_look _, c.in_err-look.ensures.fails)

pub returns-in_err-steps-clause-cut : goal.returns-in_err-steps-clause-cut
returns-in_err-steps-clause-cut g c =
    if_error _ c.from_residual-in_err-steps.result _ c.from_residual-in_err-steps.ensures.1 (_, c.in_ok-look.ensures.looked, refl)
