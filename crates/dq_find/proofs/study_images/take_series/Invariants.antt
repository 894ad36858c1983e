use Rattle.std.specs.List.{filter_map}
use Rattle.dq_archive.proofs.PastLookups.{LooksSoFar}
use Rattle.dq_tables.specs.declared.row.Kind.TheVariants.{Image as ImageKind}
use Rattle.dq_tables.specs.Lookups.{records_above}
use Rattle.dq_find.specs.Queries.{record_answer}
use Rattle.dq_find.proofs.PartAnswers.{LeftBehind}
use Rattle.dq_find.proofs.study_images.take_series.Given as goal

abbrev pub invariant-loop : goal.invariant-loop
invariant-loop g l =
    LooksSoFar g.T.Tables.state l.fn.archive l.archive (tt {0})
    (LeftBehind (λ records. records_above ImageKind l.series records)
    (λ records images. filter_map (record_answer records l.search.called.now l.search.query.now) images) l.fn.page l.page l.after)
