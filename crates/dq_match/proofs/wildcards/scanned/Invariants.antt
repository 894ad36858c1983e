use Rattle.std.proofs.Common.{length}
use Rattle.dq_match.proofs.Scanning.{IsAlong}
use Rattle.dq_match.proofs.wildcards.scanned.Given as goal

abbrev pub invariant-loop-first : goal.invariant-loop-first
invariant-loop-first l = IsAlong l.casing l.pattern l.text l.wanted l.left

abbrev pub decreases-loop-first : goal.decreases-loop-first
decreases-loop-first l = length l.wanted
