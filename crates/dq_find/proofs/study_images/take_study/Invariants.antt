use Rattle.dq_archive.proofs.PastLookups.{LooksSoFar}
use Rattle.dq_tables.specs.declared.row.Kind.TheVariants.{Series as SeriesKind}
use Rattle.dq_tables.specs.Lookups.{records_above}
use Rattle.dq_find.proofs.PartAnswers.{LeftBehind}
use Rattle.dq_find.proofs.StudyImages.{answers_of_series}
use Rattle.dq_find.proofs.study_images.take_study.Given as goal

abbrev pub invariant-loop : goal.invariant-loop
invariant-loop g l =
    LooksSoFar g.T.Tables.state l.fn.archive l.archive (tt {0})
    (LeftBehind (λ records. records_above SeriesKind l.study records)
    (λ records series. answers_of_series records l.search.called.now l.search.query.now series) l.fn.page l.page l.after)
