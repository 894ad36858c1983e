use Rattle.std.proofs.Common.{◌+◌, ◌*◌, length}
use Rattle.dq_dataset.proofs.Loops.{ElementsLeft, ItemsLeft}
use Rattle.dq_dataset.proofs.data_set_reader.+reading.Given as goal

abbrev pub decreases-items_of : goal.decreases-items_of
decreases-items_of l = 6 * l.level.levels + 6

abbrev pub decreases-item_of : goal.decreases-item_of
decreases-item_of l = 6 * l.level.levels + 5

abbrev pub decreases-content_of : goal.decreases-content_of
decreases-content_of l = 6 * l.level.levels + 4

abbrev pub decreases-elements_of : goal.decreases-elements_of
decreases-elements_of l = 6 * l.level.levels + 3

abbrev pub decreases-element_of : goal.decreases-element_of
decreases-element_of l = 6 * l.level.levels + 2

abbrev pub decreases-value_of : goal.decreases-value_of
decreases-value_of l = 6 * l.levels + 1

abbrev pub invariant-elements_of-loop-elements : goal.invariant-elements_of-loop-elements
invariant-elements_of-loop-elements l = ElementsLeft l.level.bound l.level.syntax l.level.levels l.octets l.elements.items l.last l.rest

abbrev pub decreases-elements_of-loop-elements : goal.decreases-elements_of-loop-elements
decreases-elements_of-loop-elements l = length l.rest

abbrev pub invariant-items_of-loop-items : goal.invariant-items_of-loop-items
invariant-items_of-loop-items l = ItemsLeft l.level.bound l.level.syntax l.level.levels l.octets l.items.items l.rest

abbrev pub decreases-items_of-loop-items : goal.decreases-items_of-loop-items
decreases-items_of-loop-items l = length l.rest
