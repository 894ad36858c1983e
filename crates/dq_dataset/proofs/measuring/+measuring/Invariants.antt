use Rattle.std.proofs.Common.{◌≡◌, ◌≤◌, ◌+◌, ◌*◌, min, length, drop}
use Rattle.dq_dataset.specs.Tree.{item_count, items_count}
use Rattle.dq_dataset.specs.View.{as_elements, items_of}
use Rattle.dq_dataset.specs.Canonical.{canonical, canonical_items}
use Rattle.dq_dataset.proofs.Copies.{value_count}
use Rattle.dq_dataset.proofs.measuring.+measuring.Given as goal

abbrev pub decreases-value_length : goal.decreases-value_length
decreases-value_length l = 3 * value_count l.value.now + 1

abbrev pub decreases-elements_length : goal.decreases-elements_length
decreases-elements_length l = 3 * item_count (as_elements l.elements.now) + 2

abbrev pub decreases-items_length : goal.decreases-items_length
decreases-items_length l = 3 * items_count (items_of l.items.now)

abbrev pub invariant-elements_length-loop-element : goal.invariant-elements_length-loop-element
invariant-elements_length-loop-element l =
    (l.total ≤ 0xFFFFFFFF) × (min (l.total + length (canonical l.syntax (as_elements (drop l.element-index l.elements)))) 0xFFFFFFFF
    ≡ min (length (canonical l.syntax (as_elements l.elements))) 0xFFFFFFFF)

abbrev pub invariant-items_length-loop-item : goal.invariant-items_length-loop-item
invariant-items_length-loop-item l =
    (l.total ≤ 0xFFFFFFFF) × (min (l.total + length (canonical_items l.syntax (items_of (drop l.item-index l.items)))) 0xFFFFFFFF
    ≡ min (length (canonical_items l.syntax (items_of l.items))) 0xFFFFFFFF)
