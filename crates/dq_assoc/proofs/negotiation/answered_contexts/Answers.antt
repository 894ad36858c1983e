use Rattle.dq_assoc.specs.Negotiation.{answered_context}
use Rattle.dq_assoc.proofs.Loops.{map-next, map-end}
use Rattle.dq_assoc.proofs.negotiation.answered_contexts.Goals as goal

pub loop-context-init : goal.loop-context-init
loop-context-init c = c.empty-answers.ensures

pub loop-context-preserved : goal.loop-context-preserved
loop-context-preserved c =
    map-next answered_context c.loop-context.answers c.push.new.self c.args.contexts.now c.loop-context.context-index c.context-item.result
    c.in_ok-answered_context.field-0 c.loop-context-test.true c.context-item.is c.in_ok-answered_context.ensures c.in_ok-push.ensures.ok
    c.loop-context.invariant

pub returns : goal.returns
returns c =
    map-end answered_context c.loop-context.answers c.args.contexts.now c.loop-context.context-index c.loop-context-test.false c.loop-context.invariant
