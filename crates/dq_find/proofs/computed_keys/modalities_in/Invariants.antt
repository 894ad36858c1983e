use Rattle.std.proofs.Common.{◌≡◌, ◌≤◌, [], length, take, drop, map}
use Rattle.std.specs.List.{flat_map}
use Rattle.dq_tables.specs.Rows.{Record, record_of}
use Rattle.dq_tables.specs.Records.{data_set_of}
use Rattle.dq_find.specs.ComputedKeys.{all_in_order}
use Rattle.dq_find.specs.Modalities.{modality_limit, modalities_of}
use Rattle.dq_find.proofs.computed_keys.modalities_in.Given as goal

abbrev pub invariant-loop-row : goal.invariant-loop-row
invariant-loop-row l =
    (length l.values.items ≤ modality_limit)
    × (take modality_limit
    (all_in_order (flat_map (λ (r : Record). modalities_of (data_set_of r.octets)) (map record_of (drop l.row-index l.series))) l.values.items)
    ≡ take modality_limit (all_in_order (flat_map (λ (r : Record). modalities_of (data_set_of r.octets)) (map record_of l.series)) []))
