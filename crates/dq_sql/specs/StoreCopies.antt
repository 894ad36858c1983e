-- Copies of one store into another, and how they leave both.
use Rattle.std.specs.Prelude.{◌≡◌, ℕ, Bool, false, List, [], ◌∷◌, filter, IsTrue}
use Rattle.std.specs.List.{list_any}
use Rattle.std.specs.Str.{bytes_eq}
use Rattle.sqlite_trees.specs.Tree.{Trees}
use Rattle.sqlite.specs.State.{State, HasCleanDisk, Survives}
use Rattle.dq_tables.specs.declared.row.Row.{Row}
use Rattle.dq_sql.specs.declared.version.Version.TheVariants.{Two}
use Rattle.dq_sql.specs.Tie.{HasRows, IsAtRest, IsSame}
use Rattle.dq_sql.specs.KeptRows.{under_schema}
use Rattle.dq_sql.specs.FoundStores.{IsFound}

-- the row is of an institution of one of these names
abbrev pub is_row_of : List (List ℕ) → Row → Bool
is_row_of names row = list_any (bytes_eq row.inst) names

-- the rows of the institutions of these names: of all, where there is no name
abbrev pub copied_rows : List (List ℕ) → List Row → List Row
copied_rows [] rows = rows
copied_rows (name ∷ names) rows = filter (is_row_of (name ∷ names)) rows

-- The rows are those of the institutions of these names that were found in a store.
pub record IsCopyOf (names : List (List ℕ)) (s : State) (rows : List Row) : Type 0 where
  pub kept : List Row
  pub found : IsFound Two s kept
  pub is : rows ≡ copied_rows names kept

-- trees that have such rows
pub record HasCopy (names : List (List ℕ)) (s : State) (trees : Trees) : Type 0 where
  pub rows : List Row
  pub are : IsCopyOf names s rows
  pub has : HasRows (under_schema trees) rows

-- A copy is refused. The new store shows what it showed, and a crash leaves of it what it could leave
-- before, or all rows that are copied.
pub record IsNotCopied (names : List (List ℕ)) (old old_left new left : State) : Type 0 where
  pub survives
      : Survives new left (λ trees. HasCleanDisk old_left → HasCopy names old trees)
  pub mode : new.in_transaction ≡ false → left.in_transaction ≡ false
  pub same : HasCleanDisk left → IsTrue left.is_open → IsAtRest new → IsSame new left
