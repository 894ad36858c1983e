use Rattle.std.proofs.Common.{◌≡◌, ◌++◌, List, drop}
use Rattle.dq_dataset.specs.Tree.{ElementList}
use Rattle.dq_match.specs.Parts.{with_others}
use Rattle.dq_core.specs.StepReads.{data_sets_of_rows}
use Rattle.dq_core.proofs.showing.take_data_sets.Given as goal

abbrev pub invariant-loop-row : goal.invariant-loop-row
invariant-loop-row l =
    (others : List ElementList) → with_others l.page (data_sets_of_rows (drop l.row-index l.rows) ++ others)
    ≡ with_others l.fn.page (data_sets_of_rows l.rows ++ others)
