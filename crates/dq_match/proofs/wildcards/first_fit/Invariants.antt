use Rattle.std.proofs.Common.{◌≡◌, ◌≤◌, length, drop}
use Rattle.dq_match.specs.Wildcards.{wild, after_run}
use Rattle.dq_match.specs.Words.{IsStretchOf, StandsAtFront}
use Rattle.dq_match.proofs.wildcards.first_fit.Given as goal

abbrev pub invariant-loop-left : goal.invariant-loop-left
invariant-loop-left l = record {
  same : after_run (wild l.casing l.pattern) l.text ≡ after_run (wild l.casing l.pattern) l.left;
  within : l.stretch.matched ≤ length l.word.octets.now;
  stretch : IsStretchOf l.casing l.word.octets.now l.stretch;
  agrees : StandsAtFront l.casing l.word.octets.now (drop l.word.before l.left) l.stretch.matched;
}

abbrev pub decreases-loop-left : goal.decreases-loop-left
decreases-loop-left l = length l.left
