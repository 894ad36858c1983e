use Rattle.std.proofs.Common.{◌≡◌, drop, map}
use Rattle.dq_pdu.specs.Octets.{is_number_among}
use Rattle.dq_pdu.proofs.rules.has_id.Given as goal

abbrev pub invariant-loop-context : goal.invariant-loop-context
invariant-loop-context g l = is_number_among l.id (map g.C.Identified.id_of (drop l.context-index l.contexts)) ≡ is_number_among l.id (map g.C.Identified.id_of l.contexts)
