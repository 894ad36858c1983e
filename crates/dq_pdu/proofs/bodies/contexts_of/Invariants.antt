use Rattle.std.proofs.Common.{◌≡◌, drop}
use Rattle.dq_pdu.specs.Octets.{bodies, each_given}
use Rattle.dq_pdu.proofs.Filling.{with_front}
use Rattle.dq_pdu.proofs.bodies.contexts_of.Given as goal

abbrev pub invariant-loop-item : goal.invariant-loop-item
invariant-loop-item g l =
    let context_of = g.C.Context.context_of in
    with_front l.contexts.items (each_given context_of (bodies l.kind (drop l.item-index l.items))) ≡ each_given context_of (bodies l.kind l.items)
