use Rattle.std.proofs.Common.{not, map, refl, ap, ◌∙◌}
use Rattle.std.specs.List.{filter}
use Rattle.dq_tables.specs.declared.row.Row.{Row}
use Rattle.dq_tables.specs.Rows.{of, row_of, record_of}
use Rattle.dq_tables.specs.Lookups.{rows_above, records_above}
use Rattle.dq_tables.proofs.OwnRows.{above_own}
use Rattle.dq_archive.specs.Additions.{is_later}
use Rattle.dq_archive.specs.PastArchives.{state_in}
use Rattle.dq_archive.proofs.PastRecords.{left_rows, left_above}
use Rattle.dq_archive.proofs.PastLookups.{looks_back}
use Rattle.dq_archive.proofs.past.Past.rows_above.Goals as goal

pub returns : goal.returns
returns g c =
    let it = c.args.self.now in
    let later = it.later.now in
    let name = it.institution.now.name in
    let rows = (state_in g.T.Tables.state it).rows in
    let above = c.args.above.now in
    looks_back g.T.Tables.state it _ (λ n rs. rows_above c.args.kind n above rs) c.as_slice-name.result.now (record { tables = refl; institution = refl; later = refl })
    c.as_slice-name.ensures c.in_ok-rows.rows _ c.in_ok-before.field-0
    (λ h e. c.in_ok-before.ensures ∙ ap (filter (λ (row : Row). not (is_later later (record_of row)))) (e ∙ above_own c.args.kind name above rows)
    ∙ left_rows later name (records_above c.args.kind above (of name rows))
    ∙ ap (map (row_of name)) (left_above later c.args.kind above (of name rows)))
    c.in_ok-rows.ensures.reads c.in_ok-rows.ensures.found
