use Rattle.std.proofs.Common.{drop}
use Rattle.dq_find.proofs.RowAnswers.{row_answers}
use Rattle.dq_find.proofs.StudyImages.{StillTakes}
use Rattle.dq_archive.proofs.PastLookups.{LooksSoFar}
use Rattle.dq_find.proofs.search.Search.take_answers.Given as goal

abbrev pub invariant-loop-row : goal.invariant-loop-row
invariant-loop-row g l =
    let called = l.self.called.now in
    let query = l.self.query.now in
    LooksSoFar g.T.Tables.state l.fn.archive l.archive (tt {0})
    (λ records. StillTakes l.page (row_answers records called query (drop l.row-index l.rows)) l.fn.page (row_answers records called query l.rows))
