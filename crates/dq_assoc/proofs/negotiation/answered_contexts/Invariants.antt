use Rattle.std.proofs.Common.{◌≡◌, map, take}
use Rattle.dq_assoc.specs.Negotiation.{answered_context}
use Rattle.dq_assoc.proofs.negotiation.answered_contexts.Given as goal

abbrev pub invariant-loop-context : goal.invariant-loop-context
invariant-loop-context l = l.answers ≡ map answered_context (take l.context-index l.contexts)
