use Rattle.std.proofs.Common.{ap, IsTrue, subst, ◌∙◌}
use Rattle.dq_assoc.specs.declared.association.Held.{Held}
use Rattle.dq_assoc.specs.declared.association.State.{State}
use Rattle.dq_assoc.specs.Holding.{is_unspent}
use Rattle.dq_assoc.specs.Steps.{fault_end}
use Rattle.dq_assoc.proofs.HeldAssociations.{fault_leads, stands_sound, stands_state}
use Rattle.dq_assoc.proofs.association.Association.stop.Goals as goal

pub returns-clause-step : goal.returns-clause-step
returns-clause-step c = λ association h.
    let unspent = subst (λ (x : Held). IsTrue (is_unspent x)) c.self.view_is c.self.invariant in
    fault_leads c.closing_step.result c.empty.result c.fault_end-end.result association c.args.fault c.closing_step.ensures c.empty.ensures
    (c.fault_end-end.ensures
    ∙ ap (λ (s : State). fault_end s c.args.fault) (c.state.ensures ∙ stands_state c.args.self.now association h))
    (stands_sound c.args.self.now association h unspent)
