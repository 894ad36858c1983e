use Rattle.dq_captures.proofs.WrittenLines.{Written}
use Rattle.dq_captures.proofs.surroundings.write_whole.Given as goal

abbrev pub invariant-loop : goal.invariant-loop
invariant-loop g l = Written (g.W.Write.contents l.initial.output) (g.W.Write.contents l.output) l.initial.rest l.rest
