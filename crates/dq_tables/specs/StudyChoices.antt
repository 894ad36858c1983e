-- Studies chosen by their key, their patient and their day.
use Rattle.std.specs.Prelude.{ℕ, ℤ, pos, Bool, true, ◌&&◌, int_le, List, filter, Option, Some, None}
use Rattle.std.specs.Str.{bytes_eq}
use Rattle.dq_tables.specs.declared.choice.Choice.{Choice}
use Rattle.dq_tables.specs.declared.row.Kind.TheVariants.{Study}
use Rattle.dq_tables.specs.declared.row.Row.{Row}
use Rattle.dq_tables.specs.Rows.{Record, record_of}
use Rattle.dq_tables.specs.Records.{data_set_of}
use Rattle.dq_tables.specs.Labels.{patient_in, day_in}
use Rattle.dq_tables.specs.Lookups.{rows_of, records_of}

-- what is not there lets everything through
abbrev pub is_none_or : {A : Type 0} → (A → Bool) → Option A → Bool
is_none_or test None = true
is_none_or test (Some value) = test value

-- what is not asked, and what a study does not say, lets it through
abbrev pub is_open_or : {A B : Type 0} → (A → B → Bool) → Option A → Option B → Bool
is_open_or test asked said = is_none_or (λ wanted. is_none_or (test wanted) said) asked

-- the patient and the day of a study are those that are asked for
abbrev pub has_labels : Choice → Option (List ℕ) → Option ℤ → Bool
has_labels choice patient day =
    is_open_or bytes_eq choice.patient patient
    && (is_open_or (λ first day. int_le (pos first) day) choice.first_day day
    && is_open_or (λ last day. int_le day (pos last)) choice.last_day day)

-- a key is the one that is asked for, if one is
abbrev pub has_asked_key : Choice → List ℕ → Bool
has_asked_key choice key = is_none_or (bytes_eq key) choice.uid

-- A choice takes a study with the key, whose patient is the one that is asked for, or is not one
-- value, and whose day is not before the first nor after the last, or is not one date.
unfoldable pub is_chosen : Choice → Record → Bool
is_chosen choice r =
    let d = data_set_of r.octets in
    has_asked_key choice r.key
    && has_labels choice (patient_in r.kind d) (day_in r.kind d)

-- the studies of an institution that are chosen, and the same of its records
unfoldable pub studies_in : Choice → List ℕ → List Row → List Row
studies_in choice institution rows =
    filter (λ (row : Row). is_chosen choice (record_of row)) (rows_of Study institution rows)

unfoldable pub studies_among : Choice → List Record → List Record
studies_among choice records = filter (is_chosen choice) (records_of Study records)
