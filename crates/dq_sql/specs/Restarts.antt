-- The files of a store of rows, and what the next open finds in them.
use Rattle.std.specs.Prelude.{List, []}
use Rattle.sqlite_trees.specs.Tree.{Trees}
use Rattle.sqlite_wal.specs.Recovery.{Image}
use Rattle.sqlite.specs.State.{State, Opens}
use Rattle.sqlite.specs.Files.{HoldsDatabase}
use Rattle.dq_tables.specs.declared.row.Row.{Row}
use Rattle.dq_tables.specs.Sound.{IsSound}
use Rattle.dq_sql.specs.KeptRows.{under_schema}
use Rattle.dq_sql.specs.Tie.{HasRows}

-- The two files hold a database that has the rows.
pub record ImageHoldsRows (image : Image) (rows : List Row) : Type 0 where
  pub trees : Trees
  pub holds : HoldsDatabase image trees
  pub has : HasRows (under_schema trees) rows

-- A store was just opened, and its trees are those of a store of these rows, which are sound.
pub record IsReopened (s : State) (rows : List Row) : Type 0 where
  pub opens : Opens s
  pub has : HasRows (under_schema s.now.trees) rows
  pub sound : IsSound rows

-- The two files hold the rows, and so does the database file without its log.
pub record HoldsAlone (image : Image) (rows : List Row) : Type 0 where
  pub both : ImageHoldsRows image rows
  pub alone : ImageHoldsRows (record image { log = [] }) rows
