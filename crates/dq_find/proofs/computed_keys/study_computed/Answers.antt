use Rattle.std.proofs.Common.{◌∙◌, List, map, Ok, ap}
use Rattle.dq_tables.specs.declared.row.Row.{Row}
use Rattle.dq_tables.specs.Rows.{record_of}
use Rattle.dq_archive.specs.PastArchives.{records_in}
use Rattle.dq_archive.proofs.PastLookups.{looks_then, looks_as}
use Rattle.dq_find.specs.ComputedKeys.{images_below, modalities_in, backslash_joined}
use Rattle.dq_find.proofs.ImageCounts.{computed_of_rows}
use Rattle.dq_find.proofs.computed_keys.study_computed.Goals as goal

pub returns : goal.returns
returns g c =
    let state = g.T.Tables.state in
    let old = c.args.archive.now in
    let new = c.images_below.new.archive in
    let series = c.in_ok-series.series in
    let images = c.in_ok-images.images in
    let second = looks_then state old c.rows_above.new.self new _ series c.in_ok-series.ensures _ (Ok images) c.in_ok-images.ensures in
    looks_as state old new _ images second _ c.in_ok-study_values.field-0
    (λ h. c.in_ok-study_values.ensures
    ∙ computed_of_rows old.institution.now.name c.args.key.now (records_in state old) series c.deref-2.result.now c.len.result images
    (c.in_ok-series.ensures.answered (c.in_ok-images.ensures.reads.goes.was_honest h))
    (c.deref-2.ensures.value ∙ c.in_ok-modalities-2.ensures ∙ ap backslash_joined (c.deref.ensures.value ∙ c.in_ok-modalities.ensures
    ∙ ap (λ (rows : List Row). modalities_in (map record_of rows)) c.as_slice-2.ensures)) c.len.ensures
    (second.answered h ∙ ap (λ (rows : List Row). images_below (records_in state old) (map record_of rows)) c.as_slice.ensures))
