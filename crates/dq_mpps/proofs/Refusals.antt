-- What a refusal leaves.
use Rattle.std.proofs.Common.{◌≡◌, ◌≢◌, ℕ, true, false, not, nat_le, length, List, [], ◌∷◌, ◌++◌, Option, Some, None, refl}
use Rattle.std.specs.Result.{is_err, result_unwrap_or}
use Rattle.dq_dataset.specs.Tree.{no_elements}
use Rattle.dq_dimse.specs.Receiving.{is_over}
use Rattle.dq_value.specs.Uid.{is_uid}
use Rattle.dq_dataset.specs.declared.header.Syntax.{Syntax}
use Rattle.dq_dataset.specs.DataSetReader.{data_set_read}
use Rattle.dq_dataset.specs.Editing.{merged_data_set}
use Rattle.dq_dimse.specs.Received.{Message}
use Rattle.dq_dimse.specs.Statuses.{success, processing_failure, invalid_sop_instance, duplicate_sop_instance, no_such_sop_instance, invalid_attribute_value, resource_limitation}
use Rattle.dq_config.specs.Limits.{Limits}
use Rattle.dq_tables.specs.declared.row.Kind.TheVariants.{Step}
use Rattle.dq_tables.specs.Rows.{Record, Edit, Put}
use Rattle.dq_tables.specs.Lookups.{record_at, records_of}
use Rattle.dq_tables.specs.ServiceEffects.{first_refusal, refusal_or}
use Rattle.dq_tables.proofs.Refusals.{stopped}
use Rattle.dq_dimse.specs.Limits.{other_limit}
use Rattle.dq_mpps.specs.Steps.{step_record}
use Rattle.dq_mpps.specs.NCreate.{creation_refusals, creation, create_outcome}
use Rattle.dq_mpps.specs.NCreate as creating
use Rattle.dq_mpps.specs.NSet.{kept_data_set, is_ended, changes_fixed, sends_unknown_status, is_too_long, change_refusals, set_outcome}

refusal_edits_nothing : (refusal : Option ℕ) (edits : List Edit) → (refusal_or refusal (success, edits)).0 ≢ success
    → (refusal_or refusal (success, edits)).1 ≡ []
refusal_edits_nothing None edits h = absurd (h refl)
refusal_edits_nothing (Some status) edits h = refl

pub created_unless : (limits : Limits) (records : List Record) (message : Message) (syntax : Syntax) → (create_outcome limits records message syntax).0 ≢ success
    → (create_outcome limits records message syntax).1 ≡ []
unfolding create_outcome
created_unless limits records message syntax h =
    let data_set = data_set_read syntax message.octets in
    let sent = result_unwrap_or data_set no_elements in
    refusal_edits_nothing (first_refusal (creation_refusals limits records message data_set)) (creation records message.command.sop_instance sent) h

pub changed_unless : (records : List Record) (message : Message) (syntax : Syntax) → (set_outcome records message syntax).0 ≢ success
    → (set_outcome records message syntax).1 ≡ []
unfolding set_outcome
changed_unless records message syntax h =
    let data_set = data_set_read syntax message.octets in
    let sent = result_unwrap_or data_set no_elements in
    let kept = kept_data_set (record_at Step message.command.sop_instance records) in
    refusal_edits_nothing (first_refusal (change_refusals records message data_set))
    (Put (step_record message.command.sop_instance (merged_data_set kept sent)) ∷ []) h

pub created_again : (limits : Limits) (records : List Record) (message : Message) (syntax : Syntax) (kept : Record)
    → record_at Step message.command.sop_instance records ≡ Some kept → (create_outcome limits records message syntax).1 ≡ []
unfolding create_outcome
created_again limits records message syntax kept found =
    let data_set = data_set_read syntax message.octets in
    let sent = result_unwrap_or data_set no_elements in
    let uid = message.command.sop_instance in
    let before =
    (is_over other_limit message, resource_limitation) ∷ (is_err data_set, processing_failure) ∷ (not (is_uid uid), invalid_sop_instance) ∷ [] in
    let others = creating.create_attribute_refusals sent ++ (nat_le limits.steps (length (records_of Step records)), resource_limitation) ∷ [] in
    rw found (stopped (success, creation records uid sent) before others duplicate_sop_instance)

pub ended_stays : (records : List Record) (message : Message) (syntax : Syntax) (kept : Record)
    → record_at Step message.command.sop_instance records ≡ Some kept → is_ended (kept_data_set (Some kept)) ≡ true
    → (set_outcome records message syntax).1 ≡ []
unfolding set_outcome
ended_stays records message syntax kept found ended =
    let data_set = data_set_read syntax message.octets in
    let sent = result_unwrap_or data_set no_elements in
    let step = kept_data_set (Some kept) in
    let before = (is_over other_limit message, resource_limitation) ∷ (is_err data_set, processing_failure) ∷ (false, no_such_sop_instance) ∷ [] in
    let others = (changes_fixed step sent, invalid_attribute_value) ∷ (sends_unknown_status sent, invalid_attribute_value)
    ∷ (is_too_long (merged_data_set step sent), resource_limitation) ∷ [] in
    rw (found, ended) (stopped (success, Put (step_record message.command.sop_instance (merged_data_set step sent)) ∷ []) before others processing_failure)
