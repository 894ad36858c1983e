use Rattle.std.proofs.Common.{◌++◌, length}
use Rattle.dq_dimse.specs.Sending.{cut_within}
use Rattle.dq_dimse.proofs.Cuts.{Cuts}
use Rattle.dq_dimse.proofs.sending.put_fragments.Given as goal

abbrev pub invariant-loop-rest : goal.invariant-loop-rest
invariant-loop-rest l = Cuts l.context l.command l.size l.out.items l.rest (l.fn.out.items ++ cut_within l.context l.command l.size l.octets)

abbrev pub decreases-loop-rest : goal.decreases-loop-rest
decreases-loop-rest l = length l.rest
