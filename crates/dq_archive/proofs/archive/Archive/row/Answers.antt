use Rattle.std.proofs.Common.{refl}
use Rattle.dq_tables.specs.Lookups.{row_at}
use Rattle.dq_tables.proofs.OwnRows.{found_own}
use Rattle.dq_archive.specs.Archives.{state_in}
use Rattle.dq_archive.proofs.Lookups.{looks_for}
use Rattle.dq_archive.proofs.archive.Archive.row.Goals as goal

pub returns : goal.returns
returns g c =
    let it = c.args.self.now in
    looks_for g.T.Tables.state it _ (λ name rows. row_at c.args.kind name c.args.key.now rows) _ c.as_slice-name.result.now c.row.result (record { tables = refl; institution = refl })
    c.as_slice-name.ensures (found_own c.args.kind it.institution.now.name c.args.key.now (state_in g.T.Tables.state it).rows) c.row.ensures.reads c.row.ensures.found
