use Rattle.std.proofs.Common.{◌+◌, ◌*◌, length}
use Rattle.dq_dataset.proofs.Ends.{ElementsBehind, ItemsBehind}
use Rattle.dq_dataset.proofs.checking.+checking.Given as goal

abbrev pub decreases-items_end : goal.decreases-items_end
decreases-items_end l = 6 * l.level.levels + 6

abbrev pub decreases-item_end : goal.decreases-item_end
decreases-item_end l = 6 * l.level.levels + 5

abbrev pub decreases-content_end : goal.decreases-content_end
decreases-content_end l = 6 * l.level.levels + 4

abbrev pub decreases-elements_end : goal.decreases-elements_end
decreases-elements_end l = 6 * l.level.levels + 3

abbrev pub decreases-element_end : goal.decreases-element_end
decreases-element_end l = 6 * l.level.levels + 2

abbrev pub decreases-value_end : goal.decreases-value_end
decreases-value_end l = 6 * l.levels + 1

abbrev pub invariant-elements_end-loop-found : goal.invariant-elements_end-loop-found
invariant-elements_end-loop-found l = ElementsBehind l.level.bound l.level.syntax l.level.levels l.octets l.last l.rest

abbrev pub decreases-elements_end-loop-found : goal.decreases-elements_end-loop-found
decreases-elements_end-loop-found l = length l.rest

abbrev pub invariant-items_end-loop-found : goal.invariant-items_end-loop-found
invariant-items_end-loop-found l = ItemsBehind l.level.bound l.level.syntax l.level.levels l.octets l.rest

abbrev pub decreases-items_end-loop-found : goal.decreases-items_end-loop-found
decreases-items_end-loop-found l = length l.rest
