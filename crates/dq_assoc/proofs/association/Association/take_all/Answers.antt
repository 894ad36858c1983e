use Rattle.std.proofs.Common.{IsTrue, List, ◌++◌, subst, ap, ◌∙◌}
use Rattle.dq_dimse.specs.declared.command.Message.{Message}
use Rattle.dq_assoc.specs.declared.association.Held.{Held}
use Rattle.dq_assoc.specs.Holding.{is_unspent}
use Rattle.dq_assoc.proofs.InTurn.{took_none, took_more, took_last}
use Rattle.dq_assoc.proofs.association.Association.take_all.Goals as goal

pub loop-pdu-init : goal.loop-pdu-init
loop-pdu-init c =
    took_none c.args.self.now c.new-messages.result.items c.args.fault c.args.pdus.items c.into_iter-pdu-iterator.result.rest.items c.requires
    (subst (λ (x : Held). IsTrue (is_unspent x)) c.self.view_is c.self.invariant) c.new-messages.ensures.items
    c.into_iter-pdu-iterator.ensures.into_iter_gives.0

pub returns-then-step-clause-step : goal.returns-then-step-clause-step
returns-then-step-clause-step c = λ association stands.
    took_last c.args.self.now c.loop-pdu.self c.take.new.self c.loop-pdu.messages.items c.args.fault c.args.pdus.items
    c.loop-pdu.yielded c.loop-pdu.pdu-iterator.rest.items c.next.new.self.rest.items c.in-Some.pdu c.in_ok-step.step c.after_messages.result
    c.loop-pdu.invariant c.in-Some.ensures.steps.0
    (record {
      leads = c.in_ok-step.ensures.step;
      closes = c.in_ok-step.ensures.close;
      next = c.in_ok-step.ensures.next;
      agrees = c.in_ok-step.ensures.agreement;
    }) c.if-step.true c.after_messages.ensures association stands

pub loop-pdu-preserved : goal.loop-pdu-preserved
loop-pdu-preserved c =
    took_more c.args.self.now c.loop-pdu.self c.take.new.self c.loop-pdu.messages.items c.append.new.self.items c.args.fault c.args.pdus.items
    c.loop-pdu.yielded c.loop-pdu.pdu-iterator.rest.items c.next.new.self.rest.items c.in-Some.pdu c.in_ok-step.step c.loop-pdu.invariant
    c.in-Some.ensures.steps.0
    (record {
      leads = c.in_ok-step.ensures.step;
      closes = c.in_ok-step.ensures.close;
      next = c.in_ok-step.ensures.next;
      agrees = c.in_ok-step.ensures.agreement;
    }) c.if-step.false
    (c.in_ok-append.ensures.items ∙ ap (λ (list : List Message). c.loop-pdu.messages.items ++ list) c.into_inner.ensures)
