use Rattle.std.proofs.Common.{drop}
use Rattle.dq_archive.proofs.PastLookups.{LooksSoFar}
use Rattle.dq_find.proofs.StudyImages.{StillTakes, series_answers}
use Rattle.dq_find.proofs.study_images.take_each_series.Given as goal

abbrev pub invariant-loop-row : goal.invariant-loop-row
invariant-loop-row g l =
    let called = l.search.called.now in
    let query = l.search.query.now in
    LooksSoFar g.T.Tables.state l.fn.archive l.archive (tt {0})
    (λ records. StillTakes l.page (series_answers records called query (drop l.row-index l.series)) l.fn.page (series_answers records called query l.series))
