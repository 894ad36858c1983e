-- Orders for the worklist: which are complete, and what scheduling and withdrawing make of the
-- records of one institution (PS3.4 section K.6.1).
use Rattle.std.specs.Prelude.{ℕ, Bool, false, not, ◌&&◌, ◌||◌, nat_lt, nat_le, List, [], ◌∷◌, length, if◌then◌else◌, Option, Some, None, is_some, is_none, option_map, Result, Ok, Err, is_err}
use Rattle.dq_list.specs.Lengths.{is_empty}
use Rattle.dq_list.specs.Readers.{◌>>=◌, only_if}
use Rattle.dq_vr.specs.declared.Tag.{Tag}
use Rattle.dq_vr.specs.Tags.{patient_name, patient_id, requested_procedure_id, study_instance_uid, scheduled_procedure_step_sequence, modality, scheduled_station_ae_title, scheduled_procedure_step_start_date, scheduled_procedure_step_start_time}
use Rattle.dq_value.specs.Day.{day}
use Rattle.dq_value.specs.Time.{span}
use Rattle.dq_dataset.specs.declared.fault.ReadFault.{ReadFault}
use Rattle.dq_dataset.specs.declared.header.Syntax.TheVariants.{Explicit}
use Rattle.dq_dataset.specs.Tree.{ElementList}
use Rattle.dq_dataset.specs.DataSetReader.{data_set_read}
use Rattle.dq_dataset.specs.Canonical.{canonical}
use Rattle.dq_dataset.specs.Values.{element_at, values_in, sole_at}
use Rattle.dq_dimse.specs.Limits.{other_limit}
use Rattle.dq_config.specs.Limits.{Limits}
use Rattle.dq_tables.specs.declared.row.Kind.TheVariants.{Entry}
use Rattle.dq_tables.specs.Rows.{Record, Edit, Put, Remove}
use Rattle.dq_tables.specs.Lookups.{record_at, records_of}
use Rattle.dq_tables.specs.ServiceEffects.{first_refusal, refusal_or}
use Rattle.dq_tables.specs.Keys.{uid_at, sole_item_at, entry_id}
use Rattle.dq_worklist.specs.declared.refusal.Refusal.{Refusal}
use Rattle.dq_worklist.specs.declared.refusal.Refusal.TheVariants.{Malformed, Incomplete, Taken, Full, NoSuchEntry}

abbrev pub refusal_number : Refusal → ℕ
refusal_number Malformed = 1
refusal_number Incomplete = 2
refusal_number Taken = 3
refusal_number Full = 4
refusal_number NoSuchEntry = 5

-- ---- what is required of an order: the attributes of type 1 of table K.6-1

unfoldable pub has_value_at : Tag → ElementList → Bool
has_value_at tag d = not (is_empty (values_in (element_at tag d)))

-- what is there passes a test
abbrev pub holds : {A : Type 0} → Option A → (A → Bool) → Bool
holds None test = false
holds (Some x) test = test x

-- The step has a modality and a station, and it starts at one date and one time.
unfoldable pub is_complete_step : ElementList → Bool
is_complete_step step =
    (has_value_at modality step && has_value_at scheduled_station_ae_title step)
    && (holds (sole_at scheduled_procedure_step_start_date step) (λ value. is_some (day value))
    && holds (sole_at scheduled_procedure_step_start_time step) (λ value. is_some (span value)))

-- The patient, the study and the requested procedure are named, and there is one complete step.
unfoldable pub is_complete : ElementList → Bool
is_complete d =
    (has_value_at patient_name d && (has_value_at patient_id d && has_value_at requested_procedure_id d))
    && (is_some (uid_at study_instance_uid d)
    && holds (sole_item_at scheduled_procedure_step_sequence d) is_complete_step)

-- a complete order: its data set, and the id of its scheduled procedure step
pub record Order : Type 0 where
  pub elements : ElementList
  pub id : List ℕ

abbrev pub order_in : ElementList → Option Order
order_in d = do
  id ← entry_id d
  only_if (is_complete d) (record { elements = d; id = id })

abbrev pub read_order : Result ElementList ReadFault → Option Order
read_order (Ok d) = order_in d
read_order (Err fault) = None

-- ---- scheduling

-- the greatest number of octets of an order: that of a data set which is no C-STORE's
abbrev pub order_limit : ℕ
order_limit = other_limit

abbrev pub has_entry : List Record → List ℕ → Bool
has_entry records id = is_some (record_at Entry id records)

abbrev pub is_worklist_full : Limits → List Record → Bool
is_worklist_full limits records = nat_le limits.entries (length (records_of Entry records))

-- The refusals in their order: first those of the order, then those of what is kept.
abbrev pub record_refusals : Limits → List Record → Option Order → List (Bool × Refusal)
record_refusals limits records order =
    (holds order (λ o. has_entry records o.id), Taken) ∷ (is_worklist_full limits records, Full) ∷ []

abbrev pub refusals : Limits → List Record → List ℕ → Result ElementList ReadFault
    → List (Bool × Refusal)
refusals limits records octets data_set =
    (nat_lt order_limit (length octets) || is_err data_set, Malformed)
    ∷ (is_none (read_order data_set), Incomplete)
    ∷ record_refusals limits records (read_order data_set)

-- The order is kept whole, and no step has started it.
abbrev pub entry_of : Order → Record
entry_of order = record {
  kind = Entry;
  key = order.id;
  above = [];
  octets = canonical Explicit order.elements;
  started = false;
}

-- A complete order becomes an entry, and no refusal is answered.
abbrev pub entry_added : Option Order → Option ℕ × List Edit
entry_added None = (Some (refusal_number Incomplete), [])
entry_added (Some order) = (None, Put (entry_of order) ∷ [])

-- the number of the refusal, or none and the new entry
abbrev pub refusal_or_entry : Option Refusal → Option Order → Option ℕ × List Edit
refusal_or_entry refusal order =
    refusal_or (option_map (λ (r : Refusal). Some (refusal_number r)) refusal) (entry_added order)

-- what is left of it where there is an order
unfoldable pub order_outcome : Limits → List Record → Order → Option ℕ × List Edit
order_outcome limits records order =
    refusal_or_entry (first_refusal (record_refusals limits records (Some order))) (Some order)

unfoldable pub schedule_outcome : Limits → List Record → List ℕ → Option ℕ × List Edit
schedule_outcome limits records octets =
    let data_set = data_set_read Explicit octets in
    refusal_or_entry (first_refusal (refusals limits records octets data_set)) (read_order data_set)

-- ---- withdrawing

unfoldable pub withdrawn : List Record → List ℕ → Option ℕ × List Edit
withdrawn records id =
    if has_entry records id then (None, Remove Entry id ∷ [])
    else (Some (refusal_number NoSuchEntry), [])
