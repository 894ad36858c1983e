use Rattle.std.proofs.Common.{◌≡◌, length, map}
use Rattle.sqlite.specs.Files.{file_state}
use Rattle.dq_sql.specs.declared.version.Version.TheVariants.{Two}
use Rattle.dq_keepers.proofs.Found.{copied, held_now}
use Rattle.dq_keepers.proofs.stores.copy_store.Goals as goal

pub returns-in-Ok-close_store : goal.returns-in-Ok-close_store
returns-in-Ok-close_store g c =
    let kept = c.in-Ok.tables.history.rows in
    let number : length kept ≡ c.in-Ok.count = cc (c.in-Ok.ensures.count) in
    let names = map (λ name. name.now) c.args.only.now in
    let old = file_state c.in_ok-old.old in
    let left = c.copy_lent.new.old in (
      kept,
      rw c.new.ensures at c.in-Ok-close_store.ensures,
      λ is rows held. (left, λ clean. copied old (file_state left) c.in-Ok.ensures.stays clean rows kept names (c.in_ok-old.ensures Two rows is (held_now held.0 held.1)) c.in-Ok.ensures.rows),
      number,
    )
