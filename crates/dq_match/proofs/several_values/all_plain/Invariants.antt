use Rattle.std.proofs.Common.{◌≡◌, length}
use Rattle.std.specs.List.{list_all}
use Rattle.dq_value.specs.Parts.{element_values}
use Rattle.dq_match.specs.SeveralValues.{is_plain}
use Rattle.dq_match.proofs.several_values.all_plain.Given as goal

abbrev pub invariant-loop-value : goal.invariant-loop-value
invariant-loop-value l = list_all is_plain l.keys ≡ list_all is_plain (element_values l.fn.vr l.key)

abbrev pub decreases-loop-value : goal.decreases-loop-value
decreases-loop-value l = length l.keys
