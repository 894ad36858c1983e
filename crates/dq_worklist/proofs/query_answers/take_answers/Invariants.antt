use Rattle.std.proofs.Common.{◌≡◌, ◌++◌, List, drop}
use Rattle.dq_dataset.specs.Tree.{ElementList}
use Rattle.dq_match.specs.Parts.{with_others}
use Rattle.dq_worklist.specs.EntryReads.{row_answers}
use Rattle.dq_worklist.proofs.query_answers.take_answers.Given as goal

abbrev pub invariant-loop-row : goal.invariant-loop-row
invariant-loop-row l =
    (others : List ElementList) → with_others l.page (row_answers l.keys (drop l.row-index l.rows) ++ others)
    ≡ with_others l.fn.page (row_answers l.keys l.rows ++ others)
