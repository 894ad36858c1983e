-- How the tables of a database hold rows, and what a call leaves that changes none of them.
use Rattle.std.specs.Prelude.{◌≡◌, ℕ, ◌==◌, pos, Bool, false, not, if◌then◌else◌, List, [], ◌∷◌, map, IsTrue, IsPermutation}
use Rattle.std.specs.List.{AllByRecursion, IsDistinct}
use Rattle.std.specs.Ordering.{is_eq, int_eq}
use Rattle.sqlite_value.specs.declared.value.Value.{Value}
use Rattle.sqlite_value.specs.declared.value.Value.TheVariants.{Int, Text, Blob}
use Rattle.sqlite_value.specs.Order.{Row as Values, column, bytes, value_cmp}
use Rattle.sqlite_trees.specs.Tree.{rowid}
use Rattle.sqlite_trees.specs.View.{is_int}
use Rattle.sqlite.specs.Effect.{Database, IsDatabase}
use Rattle.sqlite.specs.State.{State, HasCleanDisk, Survives}
use Rattle.dq_tables.specs.declared.row.Kind.{Kind}
use Rattle.dq_tables.specs.declared.row.Kind.TheVariants.{Study, Series, Image, Entry, Step}
use Rattle.dq_tables.specs.declared.row.Row.{Row}
use Rattle.dq_tables.specs.Rows.{number_of_kind, IsRising}
use Rattle.dq_sql.specs.declared.version.Version.{Version}
use Rattle.dq_sql.specs.declared.version.Version.TheVariants.{One, Two}
use Rattle.dq_sql.specs.Cells.{patient_cell, day_cell, flag}
use Rattle.dq_sql.specs.Schema.{version_number, schema_of}

-- the kind with a number from 1 to 5
abbrev pub kind_numbered : ℕ → Kind
kind_numbered n =
    if n == 1 then Study else (if n == 2 then Series else (if n == 3 then Image
    else (if n == 4 then Entry else Step)))

abbrev pub kind_in : Value → Kind
kind_in (Int (pos n)) = kind_numbered n
kind_in _ = Step

-- whether a number is not 0
abbrev pub is_set : Value → Bool
is_set (Int n) = not (int_eq n (pos 0))
is_set _ = false

-- A row of the table `kept` is its rowid and then its columns.
abbrev pub row_of_cells : Values → Row
row_of_cells r = record {
  kind = kind_in (column r 1);
  inst = bytes (column r 2);
  key = bytes (column r 3);
  above = bytes (column r 4);
  octets = bytes (column r 7);
  started = is_set (column r 8);
}

-- the columns of the table hold a row
pub record Holds (row : Row) (r : Values) : Type 0 where
  pub kind : column r 1 ≡ Int (pos (number_of_kind row.kind))
  pub inst : column r 2 ≡ Text row.inst
  pub key : column r 3 ≡ Blob row.key
  pub above : column r 4 ≡ Blob row.above
  pub patient : column r 5 ≡ patient_cell row
  pub day : column r 6 ≡ day_cell row
  pub octets : column r 7 ≡ Blob row.octets
  pub started : column r 8 ≡ flag row.started

abbrev pub IsKeptRow : Values → Type 0
IsKeptRow r = Holds (row_of_cells r) r

abbrev pub same_id : Values → Values → Bool
same_id a b = is_eq (value_cmp (rowid a) (rowid b))

-- A table holds the rows, each once and in any order.
pub record TableHoldsRows (table : List Values) (rows : List Row) : Type 0 where
  pub apart : IsDistinct same_id table
  pub ids : AllByRecursion (λ r. IsTrue (is_int (rowid r))) table
  pub kept : AllByRecursion IsKeptRow table
  pub same : IsPermutation (map row_of_cells table) rows
  pub rising : IsRising rows

-- a row of version 1, which has no last column, as that of what is not started
abbrev pub as_unstarted : Values → Values
as_unstarted r =
    column r 0 ∷ column r 1 ∷ column r 2 ∷ column r 3 ∷ column r 4 ∷ column r 5 ∷ column r 6
    ∷ column r 7 ∷ flag false ∷ []

-- the table `kept`
abbrev pub kept_in : Version → Database → List Values
kept_in One d = map as_unstarted (d.trees 0)
kept_in Two d = d.trees 0

-- The database has the tables of a version, and the table `version` says so.
pub record IsOfVersion (version : Version) (d : Database) : Type 0 where
  pub schema : d.schema ≡ schema_of version
  pub says : map (λ r. column r 1) (d.trees 2) ≡ Int (pos (version_number version)) ∷ []

-- It is of the version, and the table `kept` holds the rows. Its trees list the schema and obey it.
pub record HasRowsOf (version : Version) (d : Database) (rows : List Row) : Type 0 where
  pub version_is : IsOfVersion version d
  pub database : IsDatabase d
  pub table : TableHoldsRows (kept_in version d) rows

-- Rows are kept in a store of version 2.
abbrev pub HasRows : Database → List Row → Type 0
HasRows = HasRowsOf Two

-- No transaction is open: what is seen is what is committed.
pub record IsAtRest (s : State) : Type 0 where
  pub autocommit : s.in_transaction ≡ false
  pub settled : IsTrue s.is_open → s.now ≡ s.committed

-- The store is open only where it was, and shows and has committed the same.
pub record IsSame (old new : State) : Type 0 where
  pub was_open : IsTrue old.is_open
  pub now : new.now ≡ old.now
  pub committed : new.committed ≡ old.committed

-- Nothing that is kept changes, and a crash leaves nothing that it could not leave before.
pub record Stays (old new : State) : Type 0 where
  pub survives : Survives old new (λ _. ⊥)
  pub mode : old.in_transaction ≡ false → new.in_transaction ≡ false
  pub same : HasCleanDisk new → IsTrue new.is_open → IsAtRest old → IsSame old new
