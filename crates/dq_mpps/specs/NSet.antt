-- N-SET of a performed procedure step, over the records of one institution (PS3.4 section F.7.2.2,
-- PS3.7 section 10.1.3).
use Rattle.std.specs.Prelude.{ℕ, Bool, not, ◌&&◌, ◌||◌, nat_le, nat_lt, List, [], ◌∷◌, ◌++◌, length, Option, Some, None, is_some, is_none, Result, is_err}
use Rattle.std.specs.List.{list_any}
use Rattle.std.specs.Result.{result_unwrap_or}
use Rattle.dq_vr.specs.Tags.{performed_procedure_step_status}
use Rattle.dq_dataset.specs.declared.fault.ReadFault.{ReadFault}
use Rattle.dq_dataset.specs.declared.header.Syntax.{Syntax}
use Rattle.dq_dataset.specs.declared.header.Syntax.TheVariants.{Explicit}
use Rattle.dq_dataset.specs.declared.data_set.Element.{Element}
use Rattle.dq_dataset.specs.Tree.{ElementList, no_elements}
use Rattle.dq_dataset.specs.View.{elements_of}
use Rattle.dq_dataset.specs.DataSetReader.{data_set_read}
use Rattle.dq_dataset.specs.Canonical.{canonical}
use Rattle.dq_dataset.specs.Editing.{merged_data_set}
use Rattle.dq_dataset.specs.Same.{has_element}
use Rattle.dq_dataset.specs.Values.{element_at}
use Rattle.dq_dimse.specs.Limits.{other_limit}
use Rattle.dq_dimse.specs.Received.{Message}
use Rattle.dq_dimse.specs.Receiving.{is_over}
use Rattle.dq_dimse.specs.Statuses.{success, processing_failure, no_such_sop_instance, invalid_attribute_value, resource_limitation}
use Rattle.dq_tables.specs.declared.row.Kind.TheVariants.{Step}
use Rattle.dq_tables.specs.declared.row.Row.{Row}
use Rattle.dq_tables.specs.Rows.{Record, Edit, Put}
use Rattle.dq_tables.specs.Lookups.{same_kind, record_at}
use Rattle.dq_tables.specs.Records.{data_set_of}
use Rattle.dq_tables.specs.ServiceEffects.{first_refusal, refusal_or}
use Rattle.dq_mpps.specs.Attributes.{is_fixed}
use Rattle.dq_mpps.specs.Steps.{in_progress, completed_status, discontinued_status, has_status, step_record}

-- the data set of the step that is kept
abbrev pub kept_data_set : Option Record → ElementList
kept_data_set None = no_elements
kept_data_set (Some kept) = data_set_of kept.octets

-- A step that is completed or discontinued is no longer changed.
unfoldable pub is_ended : ElementList → Bool
is_ended kept = has_status completed_status kept || has_status discontinued_status kept

-- A fixed attribute is sent that does not stand in the step as it is kept.
unfoldable pub changes_fixed : ElementList → ElementList → Bool
changes_fixed kept sent =
    list_any (λ (e : Element). is_fixed e && not (has_element kept e)) (elements_of sent)

-- A status is sent that is none of the three.
unfoldable pub sends_unknown_status : ElementList → Bool
sends_unknown_status sent =
    is_some (element_at performed_procedure_step_status sent)
    && not (has_status in_progress sent || is_ended sent)

-- the greatest number of octets of a step
abbrev pub step_limit : ℕ
step_limit = 0x400000

unfoldable pub is_too_long : ElementList → Bool
is_too_long d = nat_lt step_limit (length (canonical Explicit d))

-- a row is of another kind, or has at most so many octets
abbrev pub is_short_step : Row → Bool
is_short_step row = not (same_kind row.kind Step) || nat_le (length row.octets) step_limit

abbrev pub set_attribute_refusals : ElementList → ElementList → List (Bool × ℕ)
set_attribute_refusals kept sent =
    (is_ended kept, processing_failure)
    ∷ (changes_fixed kept sent, invalid_attribute_value)
    ∷ (sends_unknown_status sent, invalid_attribute_value)
    ∷ []

-- those of a data set that was read, for an instance which is kept or not
abbrev pub set_refusals : Option Record → ElementList → List (Bool × ℕ)
set_refusals kept sent =
    (is_none kept, no_such_sop_instance)
    ∷ (set_attribute_refusals (kept_data_set kept) sent
    ++ (is_too_long (merged_data_set (kept_data_set kept) sent), resource_limitation) ∷ [])

-- The refusals in their order, each with its status.
abbrev pub change_refusals
    : List Record → Message → Result ElementList ReadFault → List (Bool × ℕ)
change_refusals records message data_set =
    let sent = result_unwrap_or data_set no_elements in
    (is_over other_limit message, resource_limitation)
    ∷ (is_err data_set, processing_failure)
    ∷ set_refusals (record_at Step message.command.sop_instance records) sent

-- Where a change is not refused, each element of it replaces the kept one with its tag, or joins
-- the others.
unfoldable pub set_outcome : List Record → Message → Syntax → ℕ × List Edit
set_outcome records message syntax =
    let data_set = data_set_read syntax message.octets in
    let sent = result_unwrap_or data_set no_elements in
    let uid = message.command.sop_instance in
    let kept = kept_data_set (record_at Step uid records) in
    refusal_or (first_refusal (change_refusals records message data_set))
    (success, Put (step_record uid (merged_data_set kept sent)) ∷ [])
