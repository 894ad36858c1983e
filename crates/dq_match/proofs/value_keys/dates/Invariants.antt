use Rattle.std.proofs.Common.{◌≡◌, ◌++◌, length, map, option_map}
use Rattle.dq_value.specs.Day.{day}
use Rattle.dq_value.specs.Parts.{element_values}
use Rattle.dq_match.specs.Ranges.{bounds}
use Rattle.dq_match.specs.DateBounds.{days_of}
use Rattle.dq_match.proofs.value_keys.dates.Given as goal

abbrev pub invariant-loop-value : goal.invariant-loop-value
invariant-loop-value l = map (option_map days_of) l.ranges ++ map (bounds day) l.all ≡ map (bounds day) (element_values l.fn.vr l.octets)

abbrev pub decreases-loop-value : goal.decreases-loop-value
decreases-loop-value l = length l.all
