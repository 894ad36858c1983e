use Rattle.std.proofs.Common.{subst, ◌∙◌, arith}
use Rattle.std.proofs.Math.Logic.{∥∥₁_elim, ∥∥₁_map}
use Rattle.sqlite_trees.specs.View.{IsClean}
use Rattle.sqlite_trees.proofs.Doubt.{no_doubt}
use Rattle.sqlite_wal.specs.Files.{outcomes}
use Rattle.sqlite_wal.specs.Reads.{AreClean}
use Rattle.sqlite_pool.proofs.StateLemmas.{clean_is, may_leave_is}
use Rattle.sqlite_store.specs.FileStore.{view}
use Rattle.sqlite.specs.State.{HasCleanDisk}
use Rattle.sqlite.specs.Files.{file_state}
use Rattle.sqlite.proofs.Theorems.{opens_again}
use Rattle.dq_sql.proofs.sql_tables.SqlTables+FileStore+D.into_files.Goals as goal

pub returns-clause-honest : goal.returns-clause-honest
returns-clause-honest g c honest =
    let store = c.into_store.result in
    let sure = subst (λ p. AreClean g.D.Disk p.0 p.1) c.close.ensures honest in
    let none : IsClean (view store) = no_doubt _ (clean_is store.pool ∙ sure) in
    let clean : HasCleanDisk (file_state c.into_connection.result) = omega (arith, c.into_store.ensures.quiet.clean) in
    c.into_connection.ensures.honest clean

pub returns-clause-left : goal.returns-clause-left
returns-clause-left g c honest image may =
    let store = c.into_store.result in
    let sure = subst (λ p. AreClean g.D.Disk p.0 p.1) c.close.ensures honest in
    let none : IsClean (view store) = no_doubt _ (clean_is store.pool ∙ sure) in
    let there = may_leave_is store.pool image sure (subst (λ p. outcomes g.D.Disk p.0 p.1 image) c.close.ensures may) in
    let clean : HasCleanDisk (file_state c.into_connection.result) = omega (arith, c.into_store.ensures.quiet.clean) in
    ∥∥₁_elim (opens_again store (c.into_store.ensures.numbered none) (c.into_store.ensures.sound none) image there) squash₁ (λ db.
    ∥∥₁_map (c.into_connection.ensures.left clean db.0 (c.into_store.ensures.quiet.outcomes db.0 db.1))
    (λ it. (it.0, it.1, record { trees = db.0; holds = db.2; has = it.2 })))
