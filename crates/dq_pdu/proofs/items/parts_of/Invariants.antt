use Rattle.std.proofs.Common.{◌≡◌, length}
use Rattle.dq_pdu.specs.Octets.{parts_of}
use Rattle.dq_pdu.proofs.Filling.{with_front}
use Rattle.dq_pdu.proofs.items.parts_of.Given as goal

abbrev pub invariant-loop-rest : goal.invariant-loop-rest
invariant-loop-rest g l = with_front l.parts.items (parts_of g.P.ReadPart.part_at l.rest) ≡ parts_of g.P.ReadPart.part_at l.octets

abbrev pub decreases-loop-rest : goal.decreases-loop-rest
decreases-loop-rest g l = length l.rest
