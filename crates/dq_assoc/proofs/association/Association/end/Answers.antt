use Rattle.std.proofs.Common.{sym, IsTrue, subst, ◌∙◌, [], Option, Some}
use Rattle.dq_pdu.specs.declared.fault.PduFault.{PduFault}
use Rattle.dq_assoc.specs.declared.association.Held.{Held}
use Rattle.dq_assoc.specs.declared.association.State.{State}
use Rattle.dq_assoc.specs.After.{inputs_from}
use Rattle.dq_assoc.specs.Holding.{IsStep, accepted_in, held_agreement, is_unspent}
use Rattle.dq_assoc.specs.Steps.{step_of_inputs, open_outcome}
use Rattle.dq_assoc.proofs.HeldAssociations.{after_none, after_some, stands_sound, stands_state}
use Rattle.dq_assoc.proofs.association.Association.end.Goals as goal

pub returns-in-None-clause-step : goal.returns-in-None-clause-step
returns-in-None-clause-step c = λ association before h stand.
    let unspent = subst (λ (x : Held). IsTrue (is_unspent x)) c.self.view_is c.self.invariant in
    after_none (accepted_in (held_agreement c.args.self.now)) c.args.messages.items c.from_inner.result before c.empty.result association c.args.fault
    (stands_sound c.args.self.now association h unspent) c.in-None.is c.from_inner.ensures c.empty.ensures stand

pub returns-in_ok-stop-in-Some-clause-step : goal.returns-in_ok-stop-in-Some-clause-step
returns-in_ok-stop-in-Some-clause-step c = λ association before h stand.
    let accepted = accepted_in (held_agreement c.args.self.now) in
    let last = c.in_ok-stop-in-Some.field-0 in
    let inputs = λ (fault : Option PduFault). inputs_from association [] fault in
    after_some accepted c.args.messages.items before c.after_messages.result last (open_outcome (inputs c.args.fault)) c.after_messages.ensures stand
    (subst (λ (fault : Option PduFault). IsStep accepted last (open_outcome (inputs fault))) (sym c.in-Some.is)
    (subst (λ (s : State). IsStep accepted last (step_of_inputs s (inputs (Some c.in-Some.fault))))
    (sym (stands_state c.args.self.now association h) ∙ c.requires) (c.in_ok-stop-in-Some.ensures.step association h accepted)))
