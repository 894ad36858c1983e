use Rattle.std.proofs.Common.{◌-◌, ◌≤◌, length}
use Rattle.dq_match.proofs.words.greatest_end.Given as goal

abbrev pub invariant-loop-start : goal.invariant-loop-start
invariant-loop-start l = l.start ≤ length l.word

abbrev pub decreases-loop-start : goal.decreases-loop-start
decreases-loop-start l = length l.word - l.start
