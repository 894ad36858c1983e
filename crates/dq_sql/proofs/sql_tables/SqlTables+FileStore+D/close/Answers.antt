use Rattle.std.proofs.Math.Logic.{∥∥₁_elim, ∥∥₁_map}
use Rattle.sqlite.specs.Files.{file_state}
use Rattle.dq_sql.proofs.Restarts.{alone_holds}
use Rattle.dq_sql.proofs.sql_tables.SqlTables+FileStore+D.close.Goals as goal

pub returns-in-Ok : goal.returns-in-Ok
returns-in-Ok g c = record {
  copied = λ honest image may.
      let it = c.in-Ok.ensures.copied honest in
      let held = it.left image may in
      ∥∥₁_elim (c.into_connection.ensures.rows it.was_clean it.was_open) squash₁ (λ has.
      ∥∥₁_elim held.both squash₁ (λ both. ∥∥₁_map held.alone (λ alone. alone_holds image (file_state c.into_connection.result).committed _ has both alone)));
}
