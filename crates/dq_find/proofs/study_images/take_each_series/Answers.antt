use Rattle.std.proofs.Common.{◌<◌, length, arith}
use Rattle.std.specs.List.{filter_map}
use Rattle.dq_tables.specs.declared.row.Kind.TheVariants.{Image as ImageKind}
use Rattle.dq_tables.specs.Lookups.{records_above}
use Rattle.dq_find.specs.Queries.{record_answer}
use Rattle.dq_find.proofs.StudyImages.{series_answers, takes_on, series_taken}
use Rattle.dq_find.proofs.study_images.take_each_series.Goals as goal

pub loop-row-preserved : goal.loop-row-preserved
loop-row-preserved g c =
    let within : c.loop-row.row-index < length c.args.series.now = omega arith in
    let called = c.args.search.now.called.now in
    let query = c.args.search.now.query.now in
    let series = c.args.series.now in
    let key = c.as_slice.result.now in
    let before = c.loop-row.page in
    let after = c.take_series.new.page in
    takes_on g.T.Tables.state c.args.archive.now c.loop-row.archive c.take_series.new.archive (tt {0}) _ c.loop-row.invariant before after
    (λ records. filter_map (record_answer records called query) (records_above ImageKind key records)) c.in_ok-take_series.ensures (tt {0}) _
    (λ records so_far taken. series_taken called query series c.loop-row.row-index c.row-item.result key before after c.args.page.now records
    (series_answers records called query series) within c.row-item.is c.as_slice.ensures so_far taken)
