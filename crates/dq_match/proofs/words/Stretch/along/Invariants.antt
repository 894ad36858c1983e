use Rattle.std.proofs.Common.{◌-◌, ◌≤◌, length}
use Rattle.dq_match.specs.Words.{IsStretchOf, StandsAtFront}
use Rattle.dq_match.proofs.words.Stretch.along.Given as goal

abbrev pub invariant-loop-stretch : goal.invariant-loop-stretch
invariant-loop-stretch l = record {
  within : l.stretch.matched ≤ length l.word;
  stretch : IsStretchOf l.casing l.word l.stretch;
  agrees : StandsAtFront l.casing l.word l.text l.stretch.matched;
}

abbrev pub decreases-loop-stretch : goal.decreases-loop-stretch
decreases-loop-stretch l = length l.word - l.stretch.matched
