-- The effects of calls that write on a connection and on its rows, whatever rows it had.
use Rattle.std.specs.Prelude.{◌≡◌, ℕ, List, map, true, Option, Some, None, IsTrue}
use Rattle.std.specs.Option.{is_some}
use Rattle.sqlite_trees.specs.Tree.{Trees}
use Rattle.sqlite.specs.Effect.{Database}
use Rattle.sqlite.specs.State.{State}
use Rattle.dq_tables.specs.declared.row.Kind.{Kind}
use Rattle.dq_tables.specs.declared.row.Row.{Row}
use Rattle.dq_tables.specs.declared.change.Change.{Change}
use Rattle.dq_tables.specs.Rows.{after as after_operation, operation_of}
use Rattle.dq_tables.specs.Rows.{after_edit, after_edits, Put, Remove, Start, record_of}
use Rattle.dq_tables.specs.Lookups.{row_at}
use Rattle.dq_tables.specs.Sound.{ChangeFits}
use Rattle.dq_sql.specs.Tie.{HasRows}

-- a row is added at a place that was free
abbrev pub AddsRow : Database → Database → Row → Type 0
AddsRow d e row =
    (rows : List Row) → HasRows d rows → row_at row.kind row.inst row.key rows ≡ None
    → HasRows e (after_edit row.inst (Put (record_of row)) rows)

abbrev pub AddsIf : Database → Database → Option Row → Type 0
AddsIf d e None = e ≡ d
AddsIf d e (Some row) = AddsRow d e row

-- a row takes the place of the one that was there
abbrev pub Replaces : Database → Database → Row → Type 0
Replaces d e row =
    (rows : List Row) → HasRows d rows → is_some (row_at row.kind row.inst row.key rows) ≡ true
    → HasRows e (after_edit row.inst (Put (record_of row)) rows)

-- the row at a place is removed
abbrev pub Removes : Database → Database → Kind → List ℕ → List ℕ → Type 0
Removes d e kind institution key =
    (rows : List Row) → HasRows d rows → HasRows e (after_edit institution (Remove kind key) rows)

-- the entry with a key is started, if there is one
abbrev pub Starts : Database → Database → List ℕ → List ℕ → Type 0
Starts d e institution key =
    (rows : List Row) → HasRows d rows → HasRows e (after_edit institution (Start key) rows)

-- and the entries with some keys
abbrev pub StartsEach : Database → Database → List ℕ → List (List ℕ) → Type 0
StartsEach d e institution keys =
    (rows : List Row) → HasRows d rows
    → HasRows e (after_edits institution (map Start keys) rows)

-- a change that fits the rows is made
abbrev pub MakesChange : Database → Database → Change → Type 0
MakesChange d e change =
    (rows : List Row) → HasRows d rows → ChangeFits rows change
    → HasRows e (after_operation (operation_of change) rows)

-- The transaction goes on: nothing is committed.
pub record TransactionGoesOn (old new : State) : Type 0 where
  pub was_open : IsTrue new.is_open → IsTrue old.is_open
  pub committed : new.committed ≡ old.committed
  pub inside : IsTrue new.in_transaction

-- A statement was run in it.
pub record StatementRan (old new : State) : Type 0 where
  pub is_open : IsTrue new.is_open
  pub on : TransactionGoesOn old new

-- A change was made and committed.
pub record IsMade (old new : State) (change : Change) : Type 0 where
  pub was_open : IsTrue old.is_open
  pub is_open : IsTrue new.is_open
  pub made : MakesChange old.now new.now change
  pub committed : new.committed ≡ new.now

-- Nothing was committed, and no change is seen.
pub record IsUndone (old new : State) : Type 0 where
  pub was_open : IsTrue old.is_open
  pub now : new.now ≡ old.committed
  pub committed : new.committed ≡ old.committed

-- The trees have a change of what the store showed.
pub record Commits (old : State) (change : Change) (trees : Trees) : Type 0 where
  pub was_open : IsTrue old.is_open
  pub after : Database
  pub made : MakesChange old.now after change
  pub is : trees ≡ after.trees
