use Rattle.std.proofs.Common.{◌+◌, ◌*◌}
use Rattle.dq_dataset.specs.Tree.{item_count, items_count}
use Rattle.dq_dataset.specs.View.{as_elements, items_of}
use Rattle.dq_dataset.proofs.Spelled.{count_in, ElementsToWrite, ItemsToWrite}
use Rattle.dq_dataset.proofs.writing.+writing.Given as goal

abbrev pub decreases-put_elements : goal.decreases-put_elements
decreases-put_elements l = 3 * item_count (as_elements l.elements.now) + 2

abbrev pub decreases-put_element : goal.decreases-put_element
decreases-put_element l = 3 * count_in l.element.now + 1

abbrev pub decreases-put_items : goal.decreases-put_items
decreases-put_items l = 3 * items_count (items_of l.items.now)

abbrev pub invariant-put_elements-loop-element : goal.invariant-put_elements-loop-element
invariant-put_elements-loop-element l = ElementsToWrite l.syntax l.elements l.fn.out.items l.out.items l.element-index

abbrev pub invariant-put_items-loop-item : goal.invariant-put_items-loop-item
invariant-put_items-loop-item l = ItemsToWrite l.syntax l.items l.fn.out.items l.out.items l.item-index
