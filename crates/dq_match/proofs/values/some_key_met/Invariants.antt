use Rattle.std.proofs.Common.{◌≡◌, length}
use Rattle.dq_match.specs.Values.{is_met_by_value}
use Rattle.dq_match.proofs.values.some_key_met.Given as goal

abbrev pub invariant-loop-key : goal.invariant-loop-key
invariant-loop-key l = is_met_by_value l.matching l.keys l.value ≡ is_met_by_value l.matching l.fn.keys l.value

abbrev pub decreases-loop-key : goal.decreases-loop-key
decreases-loop-key l = length l.keys
