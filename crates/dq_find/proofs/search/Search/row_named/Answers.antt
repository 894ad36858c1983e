use Rattle.dq_archive.specs.PastArchives.{records_in}
use Rattle.dq_archive.proofs.PastLookups.{looks_as}
use Rattle.dq_find.proofs.NamedLookups.{looked_up_is}
use Rattle.dq_find.proofs.search.Search.row_named.Goals as goal

pub returns : goal.returns
returns g c =
    let it = c.args.archive.now in
    looks_as g.T.Tables.state it c.row.new.self _ c.in_ok-row.row c.in_ok-row.ensures _ c.looked_up.result
    (λ h. looked_up_is it.institution.now.name (records_in g.T.Tables.state it) c.args.self.now.query.now c.args.uid.now c.kind.result c.in_ok-row.row
    c.looked_up.result c.kind.ensures (c.in_ok-row.ensures.answered h) c.looked_up.ensures)
