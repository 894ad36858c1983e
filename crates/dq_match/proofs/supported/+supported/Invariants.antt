use Rattle.std.proofs.Common.{◌≡◌, ◌+◌, ◌*◌, ◌++◌, ◌||◌, drop}
use Rattle.dq_dataset.specs.Tree.{item_count, items_count}
use Rattle.dq_dataset.specs.View.{as_elements, elements_of, items_of, list_of}
use Rattle.dq_dataset.proofs.Copies.{value_count}
use Rattle.dq_match.specs.Supported.{supported_part, supported_items, has_unsupported, have_unsupported}
use Rattle.dq_match.proofs.supported.+supported.Given as goal

abbrev pub decreases-supported_part : goal.decreases-supported_part
decreases-supported_part l = 4 * item_count l.keys.now + 3

abbrev pub decreases-supported_elements : goal.decreases-supported_elements
decreases-supported_elements l = 4 * item_count (as_elements l.keys.now) + 2

abbrev pub decreases-supported_value : goal.decreases-supported_value
decreases-supported_value l = 4 * value_count l.value.now + 1

abbrev pub decreases-supported_items : goal.decreases-supported_items
decreases-supported_items l = 4 * items_count (items_of l.items.now)

abbrev pub invariant-supported_elements-loop-key : goal.invariant-supported_elements-loop-key
invariant-supported_elements-loop-key l =
    let others = as_elements (drop l.key-index l.keys) in
    (l.kept.items ++ elements_of (supported_part l.scope others) ≡ elements_of (supported_part l.scope (as_elements l.keys)))
    × ((l.optional || has_unsupported l.scope others) ≡ has_unsupported l.scope (as_elements l.keys))

abbrev pub invariant-supported_items-loop-item : goal.invariant-supported_items-loop-item
invariant-supported_items-loop-item l =
    let others = items_of (drop l.item-index l.items) in
    (l.kept.items ++ list_of (supported_items l.scope others) ≡ list_of (supported_items l.scope (items_of l.items)))
    × ((l.optional || have_unsupported l.scope others) ≡ have_unsupported l.scope (items_of l.items))
