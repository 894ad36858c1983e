use Rattle.dq_list.specs.Octets.{octets_of_vectors}
use Rattle.dq_archive.specs.Archives.{state_in}
use Rattle.dq_archive.proofs.Lookups.{looks_alike}
use Rattle.dq_mpps.proofs.NamedEntries.{kept_is_named}
use Rattle.dq_mpps.proofs.named_entries.entries_named.Goals as goal

pub returns : goal.returns
returns g c =
    let it = c.args.archive.now in
    looks_alike g.T.Tables.state it c.kept_of.new.archive _ _ c.kept_of.result c.kept_of.ensures
    (λ h. kept_is_named it.institution.now.name (state_in g.T.Tables.state it).rows c.args.step.now (octets_of_vectors c.in_ok-ids.ids.keys)
    (c.honest_rows_are_sound.ensures.rising it.tables.now h) c.in_ok-ids.ensures)
