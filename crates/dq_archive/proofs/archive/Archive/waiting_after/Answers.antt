use Rattle.std.proofs.Common.{refl, take}
use Rattle.std.specs.Option.{option_copied}
use Rattle.dq_tables.specs.Lookups.{waiting_entries, rows_behind}
use Rattle.dq_tables.proofs.OwnRows.{waiting_page_own}
use Rattle.dq_archive.specs.Archives.{state_in}
use Rattle.dq_archive.proofs.Lookups.{looks_for}
use Rattle.dq_archive.proofs.archive.Archive.waiting_after.Goals as goal

pub returns : goal.returns
returns g c =
    let it = c.args.self.now in
    let after = option_copied c.args.after in
    looks_for g.T.Tables.state it _ (λ h rows. take c.args.most (rows_behind after (waiting_entries h rows))) _ c.as_slice-name.result.now c.waiting_after.result (record { tables = refl; institution = refl })
    c.as_slice-name.ensures (waiting_page_own it.institution.now.name after c.args.most (state_in g.T.Tables.state it).rows) c.waiting_after.ensures.reads c.waiting_after.ensures.found
