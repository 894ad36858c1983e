-- Rows and counts that are read from the tables of a database.
use Rattle.std.specs.Prelude.{◌≡◌, ◌<◌, ℕ, pos, slice_index_or, List, [], ◌∷◌, None, Some, Option, IfOk, IsTrue, map, IsPermutation}
use Rattle.sqlite_value.specs.declared.value.Value.{Value}
use Rattle.sqlite_value.specs.declared.value.Value.TheVariants.{Int, Blob}
use Rattle.sqlite_value.specs.Order.{Row as Values, column, bytes}
use Rattle.sqlite_schema.specs.declared.schema.Schema.{Schema}
use Rattle.sqlite.specs.Listing.{understood}
use Rattle.sqlite.specs.State.{State}
use Rattle.dq_tables.specs.declared.row.Kind.{Kind}
use Rattle.dq_tables.specs.declared.row.Row.{Row}
use Rattle.sqlite.specs.Effect.{Database}
use Rattle.dq_sql.specs.declared.version.Version.{Version}
use Rattle.dq_sql.specs.Schema.{schema_of}
use Rattle.dq_sql.specs.Tie.{is_set, kept_in, HasRows}

-- A text that shows no rows of a write, whatever the schema.
abbrev pub ShowsNoWrite : List ℕ → Type 0
ShowsNoWrite sql = (schema : Schema) → IfOk (understood schema sql) (λ c. c.returning ≡ None)

-- The store is open, and this holds of the rows that it has, whichever they are.
pub record HoldsOf (s : State) (P : List Row → Type 0) : Type 0 where
  pub is_open : IsTrue s.is_open
  pub of_rows : (rows : List Row) → HasRows s.now rows → P rows

-- The store is open only where it was, and shows the same.
pub record ShowsSame (old new : State) : Type 0 where
  pub was_open : IsTrue new.is_open → IsTrue old.is_open
  pub now : new.now ≡ old.now

-- The rowid and the columns of a row of the table `kept`.
abbrev pub selected_columns : Values → Values
selected_columns r =
    column r 0 ∷ column r 1 ∷ column r 2 ∷ column r 3 ∷ column r 4 ∷ column r 5 ∷ column r 6
    ∷ column r 7 ∷ column r 8 ∷ []

-- The store is open, and where it has the tables of the version these are the rows that it has, in
-- any order.
pub record Shows (version : Version) (s : State) (shown : Database → List Values)
    (answer : List Values) : Type 0 where
  pub is_open : IsTrue s.is_open
  pub rows : s.now.schema ≡ schema_of version → IsPermutation (shown s.now) answer

-- the rows of the table `kept`
abbrev pub kept_shown : Version → Database → List Values
kept_shown version d = map selected_columns (kept_in version d)

-- those of the table `version`, without their rowids
abbrev pub numbers_shown : Database → List Values
numbers_shown d = map (λ r. column r 1 ∷ []) (d.trees 2)

-- the row of a kind and an institution whose key, key above and octets these are, and whether it is
-- started
abbrev pub row_shown : Kind → List ℕ → Values → Row
row_shown kind institution values = record {
  kind = kind;
  inst = institution;
  key = bytes (column values 0);
  above = bytes (column values 1);
  octets = bytes (column values 2);
  started = is_set (column values 3);
}

-- what a key is behind: a key, or a number, which is below each
abbrev pub key_or_number : Option (List ℕ) → Value
key_or_number (Some key) = Blob key
key_or_number None = Int (pos 0)

-- The answer to a count, which is not a number from the greatest whole number of SQL on.
pub record IsCount (answer : List Values) (number : ℕ) : Type 0 where
  pub shown : column (slice_index_or answer 0 []) 0 ≡ Int (pos number)
  pub whole : number < 9223372036854775807
