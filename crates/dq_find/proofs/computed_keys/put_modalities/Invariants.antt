use Rattle.std.proofs.Common.{◌≡◌, ◌≤◌, length, take, filter}
use Rattle.dq_find.specs.ComputedKeys.{all_in_order}
use Rattle.dq_find.specs.Modalities.{is_modality, modality_limit, modalities_of}
use Rattle.dq_find.proofs.computed_keys.put_modalities.Given as goal

abbrev pub invariant-loop-part : goal.invariant-loop-part
invariant-loop-part l =
    (length l.values.items ≤ modality_limit)
    × (take modality_limit (all_in_order (filter is_modality l.parts) l.values.items)
    ≡ take modality_limit (all_in_order (modalities_of l.series) l.fn.values.items))

abbrev pub decreases-loop-part : goal.decreases-loop-part
decreases-loop-part l = length l.parts
