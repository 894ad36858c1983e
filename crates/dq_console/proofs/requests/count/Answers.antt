use Rattle.std.proofs.Common.{refl}
use Rattle.dq_console.proofs.Outcomes.{if_error}
use Rattle.dq_console.proofs.requests.count.Goals as goal

pub returns-in_err-push-clause-cut : goal.returns-in_err-push-clause-cut
returns-in_err-push-clause-cut g c =
    if_error _ c.from_residual-in_err-push.result _ c.from_residual-in_err-push.ensures.1 (_, c.in_ok-counted.ensures.leads.0, refl)
