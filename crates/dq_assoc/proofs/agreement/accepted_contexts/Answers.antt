use Rattle.dq_assoc.specs.Holding.{assembler_context}
use Rattle.dq_assoc.proofs.Loops.{map-next, map-end, same_at}
use Rattle.dq_assoc.proofs.agreement.accepted_contexts.Goals as goal

pub loop-context-init : goal.loop-context-init
loop-context-init c = c.empty-accepted.ensures

pub loop-context-preserved : goal.loop-context-preserved
loop-context-preserved c =
    map-next assembler_context c.loop-context.accepted c.push.new.self c.args.contexts.now c.loop-context.context-index _
    c.accepted.result c.loop-context-test.true (same_at c.args.contexts.now c.loop-context.context-index _ _ c.loop-context-test.true)
    c.accepted.ensures c.in_ok-push.ensures.ok c.loop-context.invariant

pub returns : goal.returns
returns c =
    map-end assembler_context c.loop-context.accepted c.args.contexts.now c.loop-context.context-index c.loop-context-test.false c.loop-context.invariant
