use Rattle.sqlite.specs.Files.{file_state}
use Rattle.dq_sql.specs.declared.version.Version.TheVariants.{Two}
use Rattle.dq_keepers.proofs.Found.{held_now, reopened}
use Rattle.dq_keepers.proofs.stores.open_store.Goals as goal

pub returns-clause-rows : goal.returns-clause-rows
returns-clause-rows g c = rw c.new.ensures (λ honest rows is held.
    let conn = c.in_ok-connect.field-0 in
    let it = c.in_ok-tables.ensures in
    it.again rows (reopened (file_state conn) rows (c.in_ok-connect.ensures Two rows is (held_now held.0 held.1) (it.honest honest))) honest)

pub returns-clause-sound : goal.returns-clause-sound
returns-clause-sound g c = rw c.new.ensures (λ honest.
    let it = c.in_ok-tables.ensures in
    c.rows_stay_sound.ensures.of_octets _ (it.found honest).sound it.octets)

pub returns-clause-settled : goal.returns-clause-settled
returns-clause-settled g c = rw c.new.ensures c.in_ok-tables.ensures.settled
