-- N-CREATE of a performed procedure step, over the records and the limits of one institution (PS3.4
-- section F.7.2.1, PS3.7 section 10.1.5).
use Rattle.std.specs.Prelude.{ℕ, Bool, false, not, nat_le, List, [], ◌∷◌, ◌++◌, map, length, Option, Some, None, is_some, Result, is_err}
use Rattle.std.specs.List.{list_all}
use Rattle.std.specs.Result.{result_unwrap_or}
use Rattle.dq_list.specs.Lengths.{is_empty}
use Rattle.dq_value.specs.Parts.{element_values}
use Rattle.dq_value.specs.Uid.{is_uid}
use Rattle.dq_dataset.specs.declared.fault.ReadFault.{ReadFault}
use Rattle.dq_dataset.specs.declared.header.Syntax.{Syntax}
use Rattle.dq_dataset.specs.declared.data_set.Element.{Element}
use Rattle.dq_dataset.specs.declared.data_set.Value.TheVariants.{Octets, Items}
use Rattle.dq_dataset.specs.Tree.{ElementList, no_elements}
use Rattle.dq_dataset.specs.DataSetReader.{data_set_read}
use Rattle.dq_dataset.specs.Values.{element_at}
use Rattle.dq_dimse.specs.Limits.{other_limit}
use Rattle.dq_dimse.specs.Received.{Message}
use Rattle.dq_dimse.specs.Receiving.{is_over}
use Rattle.dq_dimse.specs.Statuses.{success, processing_failure, duplicate_sop_instance, invalid_sop_instance, missing_attribute, missing_attribute_value, invalid_attribute_value, resource_limitation}
use Rattle.dq_config.specs.Limits.{Limits}
use Rattle.dq_tables.specs.declared.row.Kind.TheVariants.{Step}
use Rattle.dq_tables.specs.Rows.{Record, Edit, Put, Start}
use Rattle.dq_tables.specs.Lookups.{record_at, records_of}
use Rattle.dq_tables.specs.ServiceEffects.{first_refusal, refusal_or}
use Rattle.dq_tables.specs.StartedEntries.{entries_named}
use Rattle.dq_mpps.specs.Attributes.{required_attributes}
use Rattle.dq_mpps.specs.Steps.{in_progress, has_status, step_record}

-- The element has a value, or as a sequence an item.
unfoldable pub has_value : Option Element → Bool
has_value None = false
has_value (Some e) = elim e.value [
  | Octets octets ↦ not (is_empty (element_values e.vr octets))
  | Items items ↦ not (is_empty items)
]

unfoldable pub has_attributes : ElementList → Bool
has_attributes d = list_all (λ tag. is_some (element_at tag d)) required_attributes

unfoldable pub has_attribute_values : ElementList → Bool
has_attribute_values d = list_all (λ tag. has_value (element_at tag d)) required_attributes

abbrev pub create_attribute_refusals : ElementList → List (Bool × ℕ)
create_attribute_refusals d =
    (not (has_attributes d), missing_attribute)
    ∷ (not (has_attribute_values d), missing_attribute_value)
    ∷ (not (has_status in_progress d), invalid_attribute_value)
    ∷ []

-- those of a data set that was read, for an instance with that UID
abbrev pub create_refusals : Limits → List Record → List ℕ → ElementList → List (Bool × ℕ)
create_refusals limits records uid d =
    (is_some (record_at Step uid records), duplicate_sop_instance)
    ∷ (create_attribute_refusals d
    ++ (nat_le limits.steps (length (records_of Step records)), resource_limitation) ∷ [])

-- The refusals in their order, each with its status.
abbrev pub creation_refusals
    : Limits → List Record → Message → Result ElementList ReadFault → List (Bool × ℕ)
creation_refusals limits records message data_set =
    let sent = result_unwrap_or data_set no_elements in
    (is_over other_limit message, resource_limitation)
    ∷ (is_err data_set, processing_failure)
    ∷ (not (is_uid message.command.sop_instance), invalid_sop_instance)
    ∷ create_refusals limits records message.command.sop_instance sent

-- A step is kept with its data set whole, and starts the entries that it names.
abbrev pub creation : List Record → List ℕ → ElementList → List Edit
creation records uid d = Put (step_record uid d) ∷ map Start (entries_named records d)

-- what an N-CREATE is answered, and its edits, of which a refusal makes none
unfoldable pub create_outcome : Limits → List Record → Message → Syntax → ℕ × List Edit
create_outcome limits records message syntax =
    let data_set = data_set_read syntax message.octets in
    let sent = result_unwrap_or data_set no_elements in
    refusal_or (first_refusal (creation_refusals limits records message data_set))
    (success, creation records message.command.sop_instance sent)
