use Rattle.std.proofs.Common.{◌≡◌, take}
use Rattle.std.specs.List.{filter_map}
use Rattle.dq_tables.specs.Keys.{id_of}
use Rattle.dq_tables.proofs.step_references.ids_named.Given as goal

abbrev pub invariant-loop-item : goal.invariant-loop-item
invariant-loop-item l = l.ids ≡ filter_map id_of (take l.item-index l.item-items)
