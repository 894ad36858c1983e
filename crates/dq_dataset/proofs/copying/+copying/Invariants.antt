use Rattle.std.proofs.Common.{◌≡◌, ◌+◌, ◌*◌, take}
use Rattle.dq_dataset.specs.Tree.{item_count, items_count}
use Rattle.dq_dataset.specs.View.{as_elements, items_of}
use Rattle.dq_dataset.proofs.Copies.{value_count}
use Rattle.dq_dataset.proofs.copying.+copying.Given as goal

abbrev pub decreases-copied_elements : goal.decreases-copied_elements
decreases-copied_elements l = 3 * item_count (as_elements l.elements.now) + 2

abbrev pub decreases-copied_value : goal.decreases-copied_value
decreases-copied_value l = 3 * value_count l.value.now + 1

abbrev pub decreases-copied_items : goal.decreases-copied_items
decreases-copied_items l = 3 * items_count (items_of l.items.now)

abbrev pub invariant-copied_elements-loop-element : goal.invariant-copied_elements-loop-element
invariant-copied_elements-loop-element l = l.copies.items ≡ take l.element-index l.elements

abbrev pub invariant-copied_items-loop-item : goal.invariant-copied_items-loop-item
invariant-copied_items-loop-item l = l.copies.items ≡ take l.item-index l.items
