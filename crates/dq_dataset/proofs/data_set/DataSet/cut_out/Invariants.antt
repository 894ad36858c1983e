use Rattle.std.proofs.Common.{◌≡◌, take}
use Rattle.std.specs.Prelude.{filter}
use Rattle.dq_dataset.specs.Editing.{is_listed}
use Rattle.dq_dataset.proofs.data_set.DataSet.cut_out.Given as goal

abbrev pub invariant-loop-element : goal.invariant-loop-element
invariant-loop-element l = l.elements.items ≡ filter (is_listed l.tags) (take l.element-index l.all)
