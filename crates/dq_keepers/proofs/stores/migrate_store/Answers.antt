use Rattle.sqlite.specs.Files.{file_state}
use Rattle.dq_sql.specs.declared.version.Version.TheVariants.{One}
use Rattle.dq_keepers.proofs.Found.{migrated}
use Rattle.dq_keepers.proofs.stores.migrate_store.Goals as goal

pub returns-in-Ok : goal.returns-in-Ok
returns-in-Ok g c = rw c.new.ensures (λ is rows held.
    let old = file_state c.in_ok-old.old in
    let left = c.migrate_lent.new.old in
    (left, λ clean. migrated old (file_state left) c.in-Ok.ensures.stays clean rows c.in-Ok.tables.history.rows (c.in_ok-old.ensures One rows is held) c.in-Ok.ensures.rows))
