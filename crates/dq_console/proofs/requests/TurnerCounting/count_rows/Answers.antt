use Rattle.std.proofs.Common.{refl}
use Rattle.dq_core.proofs.Looking.{looked-none}
use Rattle.dq_console.proofs.Outcomes.{if_error}
use Rattle.dq_console.proofs.requests.TurnerCounting.count_rows.Goals as goal

pub returns-in_err-look-clause-fails : goal.returns-in_err-look-clause-fails
returns-in_err-look-clause-fails g c =
    if_error _ c.from_residual.result _ c.from_residual.ensures.1
    ((_, looked-none _, c.in_err-look.ensures.fails), c.look.ensures.hold, λ goes_on. absurd (cc))

pub returns-in_err-branch-clause-fails : goal.returns-in_err-branch-clause-fails
returns-in_err-branch-clause-fails g c =
    if_error _ c.from_residual-in_err-branch.result _ c.from_residual-in_err-branch.ensures.1
    ((_, c.in_ok-look.ensures.looked, refl), c.look.ensures.hold, λ goes_on. c.in_ok-look.ensures.fault)
