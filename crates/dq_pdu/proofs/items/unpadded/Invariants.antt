use Rattle.std.proofs.Common.{◌≡◌, length}
use Rattle.dq_pdu.specs.Octets.{without_uid_padding}
use Rattle.dq_pdu.proofs.items.unpadded.Given as goal

abbrev pub invariant-loop-rest : goal.invariant-loop-rest
invariant-loop-rest l = without_uid_padding l.rest ≡ without_uid_padding l.octets

abbrev pub decreases-loop-rest : goal.decreases-loop-rest
decreases-loop-rest l = length l.rest
