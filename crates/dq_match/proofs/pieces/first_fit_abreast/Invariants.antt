use Rattle.std.proofs.Common.{◌≡◌, length}
use Rattle.dq_match.specs.Wildcards.{wild, after_run}
use Rattle.dq_match.proofs.pieces.first_fit_abreast.Given as goal

abbrev pub invariant-loop-left : goal.invariant-loop-left
invariant-loop-left l = after_run (wild l.casing l.pattern) l.text ≡ after_run (wild l.casing l.pattern) l.left

abbrev pub decreases-loop-left : goal.decreases-loop-left
decreases-loop-left l = length l.left
