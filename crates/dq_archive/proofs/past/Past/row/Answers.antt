use Rattle.std.proofs.Common.{refl, ap, ◌∙◌}
use Rattle.dq_tables.specs.Rows.{of}
use Rattle.dq_tables.specs.Lookups.{row_at}
use Rattle.dq_tables.proofs.RecordLists.{listed_in_order}
use Rattle.dq_tables.proofs.OwnRows.{found_own}
use Rattle.dq_archive.specs.Additions.{unless_later}
use Rattle.dq_archive.specs.PastArchives.{state_in}
use Rattle.dq_archive.proofs.PastRecords.{left_at}
use Rattle.dq_archive.proofs.PastLookups.{looks_back}
use Rattle.dq_archive.proofs.past.Past.row.Goals as goal

pub returns : goal.returns
returns g c =
    let it = c.args.self.now in
    let later = it.later.now in
    let name = it.institution.now.name in
    let rows = (state_in g.T.Tables.state it).rows in
    let key = c.args.key.now in
    looks_back g.T.Tables.state it _ (λ n rs. row_at c.args.kind n key rs) c.as_slice-name.result.now (record { tables = refl; institution = refl; later = refl })
    c.as_slice-name.ensures c.in_ok-row.row _ c.unless_later.result
    (λ h e. c.unless_later.ensures ∙ ap (unless_later later) (e ∙ found_own c.args.kind name key rows)
    ∙ left_at later c.args.kind key (of name rows)
    (listed_in_order c.args.kind name rows (c.honest_rows_are_sound.ensures.rising it.tables.now h)) name)
    c.in_ok-row.ensures.reads c.in_ok-row.ensures.found
