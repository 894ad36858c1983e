use Rattle.std.proofs.Common.{is_some, ap, ◌∙◌}
use Rattle.dq_tables.specs.Rows.{row_of}
use Rattle.dq_tables.specs.Lookups.{record_at}
use Rattle.dq_archive.specs.Archives.{records_in}
use Rattle.dq_archive.proofs.Lookups.{some_mapped, looks_as}
use Rattle.dq_archive.proofs.archive.Archive.has.Goals as goal

pub returns : goal.returns
returns g c =
    let it = c.args.self.now in
    looks_as g.T.Tables.state it c.row.new.self _ c.in_ok-row.row c.in_ok-row.ensures _ c.is_some.result
    (λ h. c.is_some.ensures ∙ ap is_some (c.in_ok-row.ensures.answered h)
    ∙ some_mapped (row_of it.institution.now.name) (record_at c.args.kind c.args.key.now (records_in g.T.Tables.state it)))
