use Rattle.std.proofs.Common.{◌≡◌, map, take}
use Rattle.dq_assoc.specs.Holding.{assembler_context}
use Rattle.dq_assoc.proofs.agreement.accepted_contexts.Given as goal

abbrev pub invariant-loop-context : goal.invariant-loop-context
invariant-loop-context l = l.accepted ≡ map assembler_context (take l.context-index l.contexts)
