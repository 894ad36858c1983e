use Rattle.std.proofs.Common.{◌≡◌, ◌+◌, ◌++◌, length}
use Rattle.dq_dataset.specs.View.{as_elements}
use Rattle.dq_dataset.specs.Facts.{IsDataSet}
use Rattle.dq_dataset.specs.Editing.{merged_elements}
use Rattle.dq_dataset.proofs.data_set.DataSet.into_merged.Given as goal

abbrev pub invariant-loop-next : goal.invariant-loop-next
invariant-loop-next l = record {
  rises : IsDataSet (as_elements l.kept.items);
  gathered : l.elements.items ++ merged_elements l.kept.items l.new.items ≡ merged_elements l.initial.kept.items l.initial.new.items;
}

abbrev pub decreases-loop-next : goal.decreases-loop-next
decreases-loop-next l = length l.kept.items + length l.new.items
