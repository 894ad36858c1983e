-- How rows come into a new store: what a transaction makes of the database, and what it commits.
use Rattle.std.specs.Prelude.{◌≡◌, List, [], false, IsTrue}
use Rattle.sqlite_trees.specs.Tree.{Trees}
use Rattle.sqlite.specs.Effect.{Database}
use Rattle.sqlite.specs.State.{State, HasCleanDisk, Survives}
use Rattle.dq_tables.specs.declared.row.Row.{Row}
use Rattle.dq_sql.specs.SchemaCreation.{no_schema, StoreGoesOn}
use Rattle.dq_sql.specs.KeptRows.{under_schema}
use Rattle.dq_sql.specs.Tie.{HasRows, IsAtRest, IsSame}

-- The store has nothing, and no transaction is open.
pub record IsNothingYet (s : State) : Type 0 where
  pub autocommit : s.in_transaction ≡ false
  pub schema : s.now.schema ≡ no_schema

-- The transaction goes on, and a store without rows has these.
pub record AddsRows (old new : State) (rows : List Row) : Type 0 where
  pub on : StoreGoesOn old new
  pub added : HasRows old.now [] → HasRows new.now rows

-- A store that had nothing has these rows.
abbrev pub MakesStore : Database → Database → List Row → Type 0
MakesStore old new rows = old.schema ≡ no_schema → HasRows new rows

-- the trees of a store with the rows
abbrev pub HasThese : List Row → Trees → Type 0
HasThese rows trees = HasRows (under_schema trees) rows

-- The store is open, has the rows, and all that it has is committed.
pub record IsFilled (s : State) (rows : List Row) : Type 0 where
  pub is_open : IsTrue s.is_open
  pub has : HasRows s.now rows
  pub settled : s.now ≡ s.committed
  pub autocommit : s.in_transaction ≡ false

-- A store is not made by a fault. It shows what it showed, and a crash leaves of it what it could
-- leave before, or a store with all rows.
pub record IsNotMade (old left : State) (rows : List Row) : Type 0 where
  pub survives : Survives old left (HasThese rows)
  pub mode : old.in_transaction ≡ false → left.in_transaction ≡ false
  pub same : HasCleanDisk left → IsTrue left.is_open → IsAtRest old → IsSame old left
