use Rattle.std.proofs.Common.{◌≡◌, length}
use Rattle.std.specs.List.{list_all}
use Rattle.dq_value.specs.Parts.{element_values}
use Rattle.dq_match.specs.Values.{is_well_formed_value}
use Rattle.dq_match.proofs.values.all_well_formed.Given as goal

abbrev pub invariant-loop-value : goal.invariant-loop-value
invariant-loop-value l = list_all (is_well_formed_value l.matching) l.keys ≡ list_all (is_well_formed_value l.matching) (element_values l.fn.vr l.key)

abbrev pub decreases-loop-value : goal.decreases-loop-value
decreases-loop-value l = length l.keys
