-- Which rows of a found table are rows of ours.
use Rattle.std.specs.Prelude.{◌≡◌, ◌≢◌, ◌⊎◌, ℕ, codes, true, pos, List, [], ◌∷◌, ◌++◌, ℤ, Vec, Option, MatchOption, IsTrue, is_some, map, IsPermutation}
use Rattle.std.specs.List.{AllByRecursion, Any, IsDistinct}
use Rattle.dq_list.specs.Octets.{AreOctets}
use Rattle.sqlite_value.specs.declared.value.Value.TheVariants.{Int, Text, Blob}
use Rattle.sqlite_value.specs.Order.{Row as Values, column}
use Rattle.sqlite_trees.specs.Tree.{rowid}
use Rattle.sqlite_trees.specs.View.{is_int}
use Rattle.sqlite_rules.specs.Edit.{id_in}
use Rattle.sqlite_schema.specs.declared.schema.Schema.{Schema}
use Rattle.sqlite_schema.specs.declared.schema.Table.{Table}
use Rattle.sqlite.specs.Effect.{IsDatabase}
use Rattle.sqlite_trees.specs.declared.store.Store.{Ghosts}
use Rattle.sqlite.specs.declared.error.Error.{Error}
use Rattle.sqlite.specs.Held.{Held, state}
use Rattle.sqlite.specs.State.{State, HasCleanDisk, Shown, FailsToQuery}
use Rattle.dq_tables.specs.declared.row.Row.{Row}
use Rattle.dq_tables.specs.Rows.{number_of_kind, IsRising}
use Rattle.dq_tables.specs.Lookups.{row_at}
use Rattle.dq_tables.specs.Sound.{is_own_row, HeldEach, IsSound}
use Rattle.dq_sql.specs.declared.fault.StoreFault.{StoreFault}
use Rattle.dq_sql.specs.declared.fault.StoreFault.TheVariants.{WrongVersion, BadRows}
use Rattle.dq_sql.specs.declared.judgement.Judgement.{Judgement}
use Rattle.dq_sql.specs.declared.version.Version.{Version}
use Rattle.dq_sql.specs.StoreFaults.{store_fault}
use Rattle.dq_sql.specs.Cells.{patient_cell, day_cell, flag}
use Rattle.dq_sql.specs.Schema.{version_number, version_table, schema_of}
use Rattle.dq_sql.specs.Tie.{IsKeptRow, row_of_cells, same_id, IsOfVersion, HasRowsOf, IsAtRest, Stays}

-- The columns hold the row, but for what they say of its patient and its day.
pub record HoldsRecord (row : Row) (r : Values) : Type 0 where
  pub kind : column r 1 ≡ Int (pos (number_of_kind row.kind))
  pub inst : column r 2 ≡ Text row.inst
  pub key : column r 3 ≡ Blob row.key
  pub above : column r 4 ≡ Blob row.above
  pub octets : column r 7 ≡ Blob row.octets
  pub started : column r 8 ≡ flag row.started

-- the columns say the row's patient and its day
pub record HasCells (row : Row) (r : Values) : Type 0 where
  pub patient : column r 5 ≡ patient_cell row
  pub day : column r 6 ≡ day_cell row

-- The columns hold a row that is its record's own.
pub record IsGood (r : Values) : Type 0 where
  pub kept : IsKeptRow r
  pub own : is_own_row (row_of_cells r) ≡ true

-- a row of the same place is there
abbrev pub IsPlaceTaken : List Row → Row → Type 0
IsPlaceTaken rows row = is_some (row_at row.kind row.inst row.key rows) ≡ true

-- All are good, and no two are of one place.
pub record AreGood (found : List Values) (rows : List Row) : Type 0 where
  pub each : AllByRecursion IsGood found
  pub same : IsPermutation (map row_of_cells found) rows
  pub rising : IsRising rows

-- the rowid is a whole number
abbrev pub HasWholeRowid : Values → Type 0
HasWholeRowid r = IsTrue (is_int (rowid r))

abbrev pub rowid_of : Values → ℤ
rowid_of r = id_in (rowid r)

-- The rowids are whole numbers, no two alike.
pub record AreApart (found : List Values) : Type 0 where
  pub whole : AllByRecursion HasWholeRowid found
  pub apart : IsDistinct same_id found

-- each row holds octets, numbers below 256
abbrev pub HoldOctets : List Row → Type 0
HoldOctets rows = AllByRecursion (λ (row : Row). AreOctets row.octets) rows

-- the rowids of found rows, where all are whole numbers
abbrev pub AreIds : {A : Type 0} → List Values → Option (Vec ℤ A) → Type 0
AreIds found ids = MatchOption ids (¬ AllByRecursion HasWholeRowid found)
    (λ ids. AllByRecursion HasWholeRowid found × (ids.items ≡ map rowid_of found))

-- the rows of found ones, where all are good and no two of one place; else no more make them so
abbrev pub AreRows : {A : Type 0} → List Values → Option (Vec Row A) → Type 0
AreRows found rows =
    MatchOption rows ((more : List Values) (rows : List Row) → ¬ AreGood (found ++ more) rows)
    (λ rows. AreGood found rows.items × HoldOctets rows.items)

-- The judgement of the rows that were found.
pub record IsJudged (found : List Values) (judgement : Judgement) : Type 0 where
  pub ids : AreIds found judgement.ids
  pub rows : AreRows found judgement.rows

-- what the query of the version shows: one number, and that is the version's
abbrev pub SaysNumber : Version → List Values → Type 0
SaysNumber version found = map (λ r. column r 0) found ≡ Int (pos (version_number version)) ∷ []

-- the query of the numbers in the table `version`
abbrev pub number_query : List ℕ
number_query = codes "SELECT number FROM version"

-- By the meaning that SQL gives the query, whatever else the store has, it does not show the
-- version's number, and that alone.
pub record ShowsAnother (version : Version) (found left : State) : Type 0 where
  pub numbers : List Values
  pub shown : Shown number_query [] found left numbers
  pub other : ¬ SaysNumber version numbers

-- Whatever SQL shows of the numbers in the table `version`, it is not the version's number alone.
abbrev pub NeverSays : {S : Type 0} → Ghosts S → Version → Held S → Type 0
NeverSays {S} g version conn = (left : Held S) (numbers : List Values)
    → Shown number_query [] (state g conn) (state g left) numbers → ¬ SaysNumber version numbers

-- A query fails by an error, which is told as a fault.
pub record FailsBy (query : List ℕ) (params : Values) (found left : State) (fault : StoreFault)
    : Type 0 where
  pub error : Error
  pub fails : FailsToQuery query params found left error
  pub is : fault ≡ store_fault error

-- Another number is told as another version, unless the query of the numbers fails.
abbrev pub IsTold : State → State → StoreFault → Type 0
IsTold found left fault = (fault ≡ WrongVersion) ⊎ FailsBy number_query [] found left fault

-- the store has the table `version`, in whatever tree
abbrev pub HasVersion : Schema → Type 0
HasVersion schema = Any (λ (t : Table). t ≡ record version_table { tree = t.tree }) schema.tables

-- the schema of no store of rows
abbrev pub IsOther : Schema → Type 0
IsOther schema = (version : Version) → schema ≢ schema_of version

-- No transaction is open, and the store has the tables and the indexes of the version alone.
pub record IsShaped (version : Version) (s : State) : Type 0 where
  pub rest : IsAtRest s
  pub schema : s.now.schema ≡ schema_of version
  pub database : IsTrue s.is_open → IsDatabase s.now

-- Found rows are those of a store of sound rows.
pub record AreSound (found : List Values) (rows : List Row) : Type 0 where
  pub apart : AreApart found
  pub good : AreGood found rows
  pub held : HeldEach rows rows

-- The store was open, of the version, and had the rows, which are sound.
pub record IsFound (version : Version) (s : State) (rows : List Row) : Type 0 where
  pub is_open : IsTrue s.is_open
  pub rest : IsAtRest s
  pub has : HasRowsOf version s.now rows
  pub sound : IsSound rows

-- A store that should be of a version is refused by a fault, and stays as it is. As far as the disk
-- returned what was written, the fault is true of the store: one of a wrong version shows another
-- number, and one with bad rows is of the version, and no rows that it has are sound.
pub record IsRefused (found left : State) (version : Version) (fault : StoreFault) : Type 0 where
  pub stays : Stays found left
  pub wrong : HasCleanDisk left → fault ≡ WrongVersion → ShowsAnother version found left
  pub said : HasCleanDisk left → fault ≡ BadRows → IsOfVersion version found.now
  pub bad : HasCleanDisk left → fault ≡ BadRows
      → (rows : List Row) → HasRowsOf version found.now rows → ¬ IsSound rows
