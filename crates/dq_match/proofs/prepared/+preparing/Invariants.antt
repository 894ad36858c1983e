use Rattle.std.proofs.Common.{◌≡◌, ◌+◌, ◌*◌, ◌++◌, map, drop}
use Rattle.dq_dataset.specs.Tree.{item_count, items_count}
use Rattle.dq_dataset.specs.View.{as_elements, items_of}
use Rattle.dq_dataset.proofs.Copies.{value_count}
use Rattle.dq_match.specs.Prepared.{element_of_key}
use Rattle.dq_match.proofs.prepared.+preparing.Given as goal

abbrev pub decreases-prepared_keys : goal.decreases-prepared_keys
decreases-prepared_keys l = 4 * item_count l.keys.now + 3

abbrev pub decreases-prepared_elements : goal.decreases-prepared_elements
decreases-prepared_elements l = 4 * item_count (as_elements l.keys.now) + 2

abbrev pub decreases-prepared_value : goal.decreases-prepared_value
decreases-prepared_value l = 4 * value_count l.value.now + 1

abbrev pub decreases-prepared_items : goal.decreases-prepared_items
decreases-prepared_items l = 4 * items_count (items_of l.items.now)

abbrev pub invariant-prepared_elements-loop-key : goal.invariant-prepared_elements-loop-key
invariant-prepared_elements-loop-key l = map element_of_key l.prepared ++ drop l.key-index l.keys ≡ l.keys

abbrev pub invariant-prepared_items-loop-item : goal.invariant-prepared_items-loop-item
invariant-prepared_items-loop-item l = l.prepared ++ drop l.item-index l.items ≡ l.items
