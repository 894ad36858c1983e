use Rattle.std.proofs.Common.{None, sym, subst, List, Option, IfOk}
use Rattle.dq_dimse.specs.declared.assembler.Accepted.{Accepted}
use Rattle.dq_assoc.specs.declared.association.Step.{Step}
use Rattle.dq_assoc.specs.declared.negotiation.Rejection.{Rejection}
use Rattle.dq_assoc.specs.Holding.{IsStep}
use Rattle.dq_assoc.specs.Steps.{step_of}
use Rattle.dq_assoc.specs.Table.{requested_line}
use Rattle.dq_assoc.proofs.HeldAssociations.{accepted_given}
use Rattle.dq_assoc.proofs.association.Association.accept.Goals as goal

pub returns-in-Ok-clause-step : goal.returns-in-Ok-clause-step
returns-in-Ok-clause-step c =
    subst (λ (rejected : Option Rejection). IfOk c.open_unless_stray.result (λ (step : Step). (accepted : List Accepted)
    → IsStep accepted step (step_of (requested_line c.args.request rejected)))) (sym c.in-Ok.ensures.0) c.open_unless_stray.ensures.step

pub returns-in-Ok-clause-after : goal.returns-in-Ok-clause-after
returns-in-Ok-clause-after c =
    accepted_given c.open_unless_stray.result c.args.request None _ c.open_unless_stray.ensures.step c.open_unless_stray.ensures.exact
