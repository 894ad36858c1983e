use Rattle.std.proofs.Common.{◌≡◌, take}
use Rattle.std.specs.List.{filter_map}
use Rattle.dq_assoc.specs.Negotiation.{agreed_context}
use Rattle.dq_assoc.proofs.negotiation.agreement_of.Given as goal

abbrev pub invariant-loop-context : goal.invariant-loop-context
invariant-loop-context l = l.contexts ≡ filter_map agreed_context (take l.context-index l.context-items)
