use Rattle.std.proofs.Common.{◌≡◌, ◌++◌, length, map}
use Rattle.dq_value.specs.Time.{span}
use Rattle.dq_value.specs.Parts.{element_values}
use Rattle.dq_match.specs.Ranges.{bounds}
use Rattle.dq_match.proofs.value_keys.times.Given as goal

abbrev pub invariant-loop-value : goal.invariant-loop-value
invariant-loop-value l = l.ranges ++ map (bounds span) l.all ≡ map (bounds span) (element_values l.fn.vr l.octets)

abbrev pub decreases-loop-value : goal.decreases-loop-value
decreases-loop-value l = length l.all
