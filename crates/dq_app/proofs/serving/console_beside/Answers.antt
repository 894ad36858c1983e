use Rattle.std.proofs.Common.{Err, ap}
use Rattle.dq_app.proofs.Ends.{listen_error-of}
use Rattle.dq_app.proofs.Inputs.{if_error}
use Rattle.dq_app.proofs.serving.console_beside.Goals as goal

pub returns-in_err-beside-clause-stops : goal.returns-in_err-beside-clause-stops
returns-in_err-beside-clause-stops g c =
    if_error _ c.from_residual.result _ c.from_residual.ensures.1 (listen_error-of _ _ (λ is. c.in_err-beside.ensures.failed (ap Err is)))
