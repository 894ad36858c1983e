use Rattle.std.proofs.Common.{length, refl, sym, ap, ◌∙◌}
use Rattle.std.proofs.lemmas.List.{length-map}
use Rattle.dq_tables.specs.Rows.{of, row_of}
use Rattle.dq_tables.specs.Lookups.{rows_above, records_above}
use Rattle.dq_tables.proofs.OwnRows.{above_own}
use Rattle.dq_archive.specs.PastArchives.{state_in}
use Rattle.dq_archive.proofs.PastRecords.{untouched_above}
use Rattle.dq_archive.proofs.PastLookups.{looks_now}
use Rattle.dq_archive.proofs.past.Past.count_above.Goals as goal

pub returns-then-not-is_touched : goal.returns-then-not-is_touched
returns-then-not-is_touched g c =
    let it = c.args.self.now in
    let name = it.institution.now.name in
    let rows = (state_in g.T.Tables.state it).rows in
    let above = c.args.above.now in
    looks_now g.T.Tables.state it _ (λ n rs. length (rows_above c.args.kind n above rs)) c.as_slice-name.result.now (record { tables = refl; institution = refl; later = refl })
    c.as_slice-name.ensures _ c.count_above.result
    (λ h. ap length (above_own c.args.kind name above rows) ∙ length-map (records_above c.args.kind above (of name rows)) (row_of name)
    ∙ ap length (untouched_above it.later.now c.args.kind above (of name rows) (sym c.is_touched.ensures ∙ c.if-not-is_touched.true)))
    c.count_above.ensures.reads c.count_above.ensures.found
