-- In which parts the studies are read that a choice takes.
use Rattle.std.specs.Prelude.{ℕ, ◌<◌, ◌≤◌, Bool, not, ◌&&◌, int_le, if◌then◌else◌, List, [], ◌∷◌, length, map, filter, is_some, Option, Some, None, MatchOption, pos, IsPermutation, ◌≡◌}
use Rattle.std.specs.Str.{bytes_eq}
use Rattle.sqlite_value.specs.declared.value.Value.{Value}
use Rattle.sqlite_value.specs.declared.value.Value.TheVariants.{Int, Blob}
use Rattle.sqlite_value.specs.Order.{Row as Values, column}
use Rattle.sqlite_sql.specs.Ops.{is_null}
use Rattle.dq_tables.specs.declared.row.Kind.TheVariants.{Study}
use Rattle.dq_tables.specs.declared.row.Row.{Row}
use Rattle.dq_tables.specs.Labels.{patient_of, day_of}
use Rattle.dq_tables.specs.StudyChoices.{is_open_or}
use Rattle.dq_tables.specs.Lookups.{rows_of}
use Rattle.dq_sql.specs.declared.study_index.Label.{Label}
use Rattle.dq_sql.specs.declared.study_index.Label.TheVariants.{Patient, Day}
use Rattle.sqlite.specs.State.{State}
use Rattle.dq_sql.specs.RowReads.{HoldsOf, row_shown}

-- a study says who its patient is, or which its day
abbrev pub says : Label → Row → Bool
says Patient row = is_some (patient_of row)
says Day row = is_some (day_of row)

-- the patient of a study is this one, or the study says none
abbrev pub is_of_patient : List ℕ → Row → Bool
is_of_patient patient row = is_open_or bytes_eq (Some patient) (patient_of row)

-- the day of a study is from the first to the last, or the study says none
abbrev pub is_of_days : Option ℕ → Option ℕ → Row → Bool
is_of_days first last row =
    is_open_or (λ from day. int_le (pos from) day) first (day_of row)
    && is_open_or (λ until day. int_le day (pos until)) last (day_of row)

-- An answer shows the studies of an institution that pass a test, in any order.
abbrev pub ShowsThose : List ℕ → (Row → Bool) → List Row → List Values → Type 0
ShowsThose institution test rows answer =
    IsPermutation (filter test (rows_of Study institution rows))
    (map (row_shown Study institution) answer)

-- those that pass a test and say something, and those that do not say it
abbrev pub ShowsSaying : Label → (Row → Bool) → List ℕ → List Row → List Values → Type 0
ShowsSaying label test institution = ShowsThose institution (λ row. test row && says label row)

abbrev pub ShowsSilent : Label → List ℕ → List Row → List Values → Type 0
ShowsSilent label institution = ShowsThose institution (λ row. not (says label row))

-- The institution has so many studies.
abbrev pub HasMany : ℕ → List ℕ → List Row → Type 0
HasMany many institution rows = many ≤ length (rows_of Study institution rows)

-- What is read is so of the rows, whichever they are. None is read only where the institution has so
-- many studies.
abbrev pub FindsFew : {X : Type 0} → ℕ → List ℕ → State → Option X → (X → List Row → Type 0) → Type 0
FindsFew many institution s few P = MatchOption few (HoldsOf s (HasMany many institution)) (λ x. HoldsOf s (P x))

-- what an answer shows before the first row whose fifth column is not null
abbrev pub leading_nulls : List Values → List Values
leading_nulls [] = []
leading_nulls (r ∷ rows) = if is_null (column r 4) then r ∷ leading_nulls rows else []

-- These are all that an answer of at most so many rows shows of rows with a null there.
pub record EndsWithin (most : ℕ) (answer silent : List Values) : Type 0 where
  pub leading : silent ≡ leading_nulls answer
  pub fewer : length silent < most

-- the last day that is asked for; what is no number is above each
abbrev pub last_day_or_blob : Option ℕ → Value
last_day_or_blob (Some day) = Int (pos day)
last_day_or_blob None = Blob []
