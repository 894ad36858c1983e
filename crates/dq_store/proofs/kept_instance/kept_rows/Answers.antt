use Rattle.std.proofs.Common.{◌∙◌, Ok, ap, option_map}
use Rattle.dq_tables.specs.declared.row.Kind.TheVariants.{Series, Image}
use Rattle.dq_tables.specs.Rows.{row_of}
use Rattle.dq_tables.specs.Lookups.{record_at}
use Rattle.dq_archive.specs.Archives.{records_in}
use Rattle.dq_archive.proofs.Lookups.{looks_then, looks_as}
use Rattle.dq_store.proofs.kept_instance.kept_rows.Goals as goal

pub returns : goal.returns
returns g c =
    let state = g.T.Tables.state in
    let old = c.args.archive.now in
    let records = records_in state old in
    let sent = c.args.sent.now in
    let first = c.in_ok-study.ensures in
    let second = looks_then state old c.row.new.self c.row-2.new.self _ c.in_ok-study.study first _ (Ok c.in_ok-series.series) c.in_ok-series.ensures in
    let third = looks_then state old c.row-2.new.self c.row-3.new.self _ c.in_ok-series.series second _ (Ok c.in_ok-image.image) c.in_ok-image.ensures in
    looks_as state old c.row-3.new.self _ c.in_ok-image.image third _ _
    (λ h.
    let was = c.in_ok-image.ensures.reads.goes.was_honest h in
    let study = first.answered (c.in_ok-series.ensures.reads.goes.was_honest was) in
    let series = second.answered was ∙ ap (λ i. option_map (row_of i.now.name) (record_at Series sent.series.now records)) first.same.institution in
    let image = third.answered h ∙ ap (λ i. option_map (row_of i.now.name) (record_at Image sent.image.now records)) second.same.institution in
    λ j. record { study = study j; series = series j; image = image j })
