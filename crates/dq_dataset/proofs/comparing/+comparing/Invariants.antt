use Rattle.std.proofs.Common.{◌≡◌, ◌+◌, ◌*◌, ◌++◌, take}
use Rattle.dq_dataset.specs.Tree.{item_count, items_count}
use Rattle.dq_dataset.specs.View.{as_elements, items_of}
use Rattle.dq_dataset.proofs.Copies.{value_count}
use Rattle.dq_dataset.proofs.comparing.+comparing.Given as goal

abbrev pub decreases-are_same_elements : goal.decreases-are_same_elements
decreases-are_same_elements l = 3 * item_count (as_elements l.elements.now) + 2

abbrev pub decreases-is_same_value : goal.decreases-is_same_value
decreases-is_same_value l = 3 * value_count l.value.now + 1

abbrev pub decreases-are_same_items : goal.decreases-are_same_items
decreases-are_same_items l = 3 * items_count (items_of l.items.now)

abbrev pub invariant-are_same_elements-loop-element : goal.invariant-are_same_elements-loop-element
invariant-are_same_elements-loop-element l = l.others ≡ take l.element-index l.elements ++ l.left

abbrev pub invariant-are_same_items-loop-item : goal.invariant-are_same_items-loop-item
invariant-are_same_items-loop-item l = l.others ≡ take l.item-index l.items ++ l.left
