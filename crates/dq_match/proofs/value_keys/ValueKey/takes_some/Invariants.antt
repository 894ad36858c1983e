use Rattle.std.proofs.Common.{◌≡◌, length}
use Rattle.dq_value.specs.Parts.{element_values}
use Rattle.dq_match.specs.Values.{matching_of, some_meet}
use Rattle.dq_match.proofs.value_keys.ValueKey.takes_some.Given as goal

abbrev pub invariant-loop-value : goal.invariant-loop-value
invariant-loop-value l =
    some_meet (matching_of l.self.0) (element_values l.self.0 l.self.1) l.held ≡ some_meet (matching_of l.self.0) (element_values l.self.0 l.self.1) l.fn.held

abbrev pub decreases-loop-value : goal.decreases-loop-value
decreases-loop-value l = length l.held
