use Rattle.std.proofs.Common.{◌≡◌, ◌+◌, ◌*◌, ◌++◌, drop}
use Rattle.dq_dataset.specs.Tree.{item_count, items_count}
use Rattle.dq_dataset.specs.View.{as_elements, items_of}
use Rattle.dq_dataset.proofs.Spelled.{count_in}
use Rattle.dq_json.specs.Json.{members, objects}
use Rattle.dq_json.proofs.json_writer.+objects.Given as goal

abbrev pub decreases-put_object : goal.decreases-put_object
decreases-put_object l = 5 * item_count l.data_set.now + 4

abbrev pub decreases-put_elements : goal.decreases-put_elements
decreases-put_elements l = 5 * item_count (as_elements l.elements.now) + 3

abbrev pub decreases-put_element : goal.decreases-put_element
decreases-put_element l = 5 * count_in l.element.now + 2

abbrev pub decreases-put_items : goal.decreases-put_items
decreases-put_items l = 5 * items_count (items_of l.items.now) + 1

abbrev pub decreases-put_objects : goal.decreases-put_objects
decreases-put_objects l = 5 * items_count (items_of l.items.now)

abbrev pub invariant-put_elements-loop-element : goal.invariant-put_elements-loop-element
invariant-put_elements-loop-element l =
    (l.out.before ≡ l.fn.out.before)
    × (l.out.tokens ++ members l.repertoire (as_elements (drop l.element-index l.elements)) ≡ l.fn.out.tokens ++ members l.repertoire (as_elements l.elements))

abbrev pub invariant-put_objects-loop-item : goal.invariant-put_objects-loop-item
invariant-put_objects-loop-item l =
    (l.out.before ≡ l.fn.out.before)
    × (l.out.tokens ++ objects l.repertoire (items_of (drop l.item-index l.items)) ≡ l.fn.out.tokens ++ objects l.repertoire (items_of l.items))
