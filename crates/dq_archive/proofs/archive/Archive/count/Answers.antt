use Rattle.std.proofs.Common.{length, refl}
use Rattle.dq_tables.specs.Lookups.{rows_of}
use Rattle.dq_tables.proofs.OwnRows.{counted_own}
use Rattle.dq_archive.specs.Archives.{state_in}
use Rattle.dq_archive.proofs.Lookups.{looks_for}
use Rattle.dq_archive.proofs.archive.Archive.count.Goals as goal

pub returns : goal.returns
returns g c =
    let it = c.args.self.now in
    looks_for g.T.Tables.state it _ (λ name rows. length (rows_of c.args.kind name rows)) _ c.as_slice-name.result.now c.count.result (record { tables = refl; institution = refl })
    c.as_slice-name.ensures (counted_own c.args.kind it.institution.now.name (state_in g.T.Tables.state it).rows) c.count.ensures.reads c.count.ensures.found
