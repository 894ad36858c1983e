-- What is left of a store that was filled and closed.
use Rattle.std.proofs.Common.{List, [], subst}
use Rattle.sqlite_wal.specs.Recovery.{Image}
use Rattle.sqlite.specs.Effect.{Database}
use Rattle.sqlite.specs.State.{State}
use Rattle.sqlite.specs.Files.{HoldsDatabase}
use Rattle.dq_tables.specs.declared.row.Row.{Row}
use Rattle.dq_sql.specs.Tie.{HasRows}
use Rattle.dq_sql.specs.FirstRows.{IsFilled}
use Rattle.dq_sql.specs.Restarts.{HoldsAlone}
use Rattle.dq_sql.proofs.Restarts.{alone_holds}

-- The database file of a filled store has its rows alone.
pub filled_alone : (s : State) (rows : List Row) (image : Image) → IsFilled s rows → HoldsDatabase image s.committed.trees
    → HoldsDatabase (record image { log = [] }) s.committed.trees → HoldsAlone image rows
filled_alone s rows image made both alone =
    alone_holds image s.committed rows (subst (λ (d : Database). HasRows d rows) made.settled made.has) both alone
