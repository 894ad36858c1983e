use Rattle.std.proofs.Common.{◌≡◌, length, map}
use Rattle.dq_pdu.specs.Octets.{are_distinct}
use Rattle.dq_pdu.proofs.rules.are_distinct.Given as goal

abbrev pub invariant-loop-rest : goal.invariant-loop-rest
invariant-loop-rest g l = are_distinct (map g.C.Identified.id_of l.rest) ≡ are_distinct (map g.C.Identified.id_of l.contexts)

abbrev pub decreases-loop-rest : goal.decreases-loop-rest
decreases-loop-rest g l = length l.rest
