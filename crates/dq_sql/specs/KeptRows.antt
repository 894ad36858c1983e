-- The rows that a connection keeps, and those that a crash leaves in its store.
use Rattle.std.specs.Prelude.{◌≡◌, Bool, List, IsTrue}
use Rattle.sqlite_trees.specs.Tree.{Trees}
use Rattle.sqlite.specs.Effect.{Database}
use Rattle.sqlite.specs.State.{State as Connected, HasCleanDisk}
use Rattle.dq_tables.specs.declared.row.Row.{Row}
use Rattle.dq_tables.specs.Sound.{IsSound}
use Rattle.dq_tables.specs.TableStates.{State}
use Rattle.dq_sql.specs.Schema.{kept_schema}
use Rattle.dq_sql.specs.Tie.{HasRows}

-- trees under the schema of a store of rows
abbrev pub under_schema : Trees → Database
under_schema trees = record { schema = kept_schema; trees = trees }

-- A crash now may leave a store that has the rows.
pub record MayLeave (s : Connected) (rows : List Row) : Type 0 where
  pub trees : Trees
  pub left : s.may_leave trees
  pub has : HasRows (under_schema trees) rows

-- a store that has sound rows
pub record HasSound (trees : Trees) : Type 0 where
  pub rows : List Row
  pub has : HasRows (under_schema trees) rows
  pub sound : IsSound rows

-- The rows are sound. While the store is open it has them, and has committed them. Whatever a crash
-- leaves is a store of sound rows.
pub record KeepsSoundRows (s : Connected) (rows : List Row) : Type 0 where
  pub sound : IsSound rows
  pub has : IsTrue s.is_open → HasRows s.now rows
  pub settled : IsTrue s.is_open → s.now ≡ s.committed
  pub left : (trees : Trees) → s.may_leave trees → HasSound trees

-- The state of tables over a connection, as contracts see it. They are honest while the disk
-- returns what was written.
abbrev pub kept_by : Connected → List Row → Bool → State
kept_by s rows failed = record {
  rows = rows;
  honest = HasCleanDisk s;
  failed = failed;
  may_leave = MayLeave s;
}
