-- What is answered of a message, by the refusals before and after.
use Rattle.std.proofs.Common.{◌≡◌, ℕ, Bool, true, false, List, [], ◌∷◌, Option, Some, None, is_some, Result, Ok, Err, refl, sym, ◌∙◌, ap, subst, if◌then◌else◌}
use Rattle.std.specs.Option.{IfSome}
use Rattle.std.specs.Result.{result_ok}
use Rattle.dq_value.specs.Uid.{is_uid}
use Rattle.dq_dataset.specs.declared.fault.ReadFault.{ReadFault}
use Rattle.dq_dataset.specs.declared.header.Syntax.{Syntax}
use Rattle.dq_dataset.specs.Tree.{ElementList}
use Rattle.dq_dataset.specs.DataSetReader.{data_set_read}
use Rattle.dq_dimse.specs.Received.{Message}
use Rattle.dq_dimse.specs.Statuses.{success, processing_failure, invalid_sop_instance, resource_limitation}
use Rattle.dq_config.specs.Limits.{Limits}
use Rattle.dq_dataset.specs.declared.header.Syntax.TheVariants.{Explicit}
use Rattle.dq_dataset.specs.Canonical.{canonical}
use Rattle.dq_dataset.specs.Editing.{merged_data_set}
use Rattle.dq_tables.specs.declared.row.Kind.TheVariants.{Step}
use Rattle.dq_tables.specs.Lookups.{record_at}
use Rattle.dq_tables.specs.Rows.{Record, Edit, Put}
use Rattle.dq_dimse.specs.Receiving.{is_over}
use Rattle.dq_tables.specs.ServiceEffects.{first_refusal, refusal_or}
use Rattle.dq_tables.proofs.Refusals.{first_in, first_past}
use Rattle.dq_dimse.specs.Limits.{other_limit}
use Rattle.dq_mpps.specs.Steps.{spelled_step, step_record}
use Rattle.dq_mpps.specs.NCreate.{create_refusals, create_outcome}
use Rattle.dq_mpps.specs.NSet.{kept_data_set, is_too_long, set_attribute_refusals, set_outcome}
use Rattle.dq_mpps.specs.Views.{step_created, step_changed}

-- what is said of a value where there is one
pub at_some : {X : Type 0} (P : X → Type 0) (o : Option X) (x : X) → IfSome o P → o ≡ Some x → P x
at_some {X} P o x holds is = subst (λ (y : Option X). IfSome y P) is holds

pub read_is : (r : Result ElementList ReadFault) (d : ElementList) → result_ok r ≡ Some d → r ≡ Ok d
read_is (Ok d') d some = cc
read_is (Err fault) d some = cc

not_read : (limits : Limits) (records : List Record) (message : Message) (syntax : Syntax) (r : Result ElementList ReadFault)
    → is_over other_limit message ≡ false
    → data_set_read syntax message.octets ≡ r → result_ok r ≡ None → create_outcome limits records message syntax ≡ (processing_failure, [])
unfolding create_outcome
not_read limits records message syntax (Ok d) h same none = cc
not_read limits records message syntax (Err fault) h same none = rw (h, same) refl

module _ (limits : Limits) (records : List Record) (message : Message) (syntax : Syntax) where
  pub create_over : is_over other_limit message ≡ true → create_outcome limits records message syntax ≡ (resource_limitation, [])
  unfolding create_outcome
  create_over h = rw h refl

  pub create_unread : is_over other_limit message ≡ false → result_ok (data_set_read syntax message.octets) ≡ None
      → create_outcome limits records message syntax ≡ (processing_failure, [])
  create_unread h none = not_read limits records message syntax (data_set_read syntax message.octets) h refl none

  module _ (d : ElementList) (h : is_over other_limit message ≡ false) (read : data_set_read syntax message.octets ≡ Ok d) where
    pub create_unnamed : is_uid message.command.sop_instance ≡ false → create_outcome limits records message syntax ≡ (invalid_sop_instance, [])
    unfolding create_outcome
    create_unnamed no_uid = rw (h, read, no_uid) refl

    pub create_handed_on : is_uid message.command.sop_instance ≡ true → create_outcome limits records message syntax
        ≡ step_created limits message.command.sop_instance d records
    unfolding create_outcome
    create_handed_on uid = rw (h, read, uid) refl

free_by : (r : Option Record) (status : ℕ) (others : Option ℕ) → (if is_some r then Some status else others) ≡ None → r ≡ None
free_by None status others none = refl
free_by (Some r) status others none = cc

-- none is kept with the UID of a step that is not refused
pub free_if_accepted : (limits : Limits) (records : List Record) (uid : List ℕ) (d : ElementList) → first_refusal (create_refusals limits records uid d) ≡ None
    → record_at Step uid records ≡ None
free_if_accepted limits records uid d none = free_by (record_at Step uid records) _ _ none

-- ---- changes

module _ (uid : List ℕ) (sent : ElementList) (r : Record) (kept : ElementList) (kept_is : kept ≡ kept_data_set (Some r)) where
  abbrev done : ℕ × List Edit
  done = (success, Put (step_record uid (merged_data_set (kept_data_set (Some r)) sent)) ∷ [])

  abbrev limit : List (Bool × ℕ)
  limit = (is_too_long (merged_data_set (kept_data_set (Some r)) sent), resource_limitation) ∷ []

  pub refused_by : (status : ℕ) → first_refusal (set_attribute_refusals kept sent) ≡ Some status → step_changed uid sent (Some r) ≡ (status, [])
  refused_by status h =
      ap (λ (o : Option ℕ). refusal_or o done)
      (first_in (set_attribute_refusals (kept_data_set (Some r)) sent) limit status
      (subst (λ (d : ElementList). first_refusal (set_attribute_refusals d sent) ≡ Some status) kept_is h))

  passed : first_refusal (set_attribute_refusals kept sent) ≡ None → step_changed uid sent (Some r) ≡ refusal_or (first_refusal limit) done
  passed h =
      ap (λ (o : Option ℕ). refusal_or o done)
      (first_past (set_attribute_refusals (kept_data_set (Some r)) sent) limit
      (subst (λ (d : ElementList). first_refusal (set_attribute_refusals d sent) ≡ None) kept_is h))

  pub too_long : first_refusal (set_attribute_refusals kept sent) ≡ None → is_too_long (merged_data_set kept sent) ≡ true
      → step_changed uid sent (Some r) ≡ (resource_limitation, [])
  too_long h long =
      let there : is_too_long (merged_data_set (kept_data_set (Some r)) sent) ≡ true = subst (λ (d : ElementList). is_too_long (merged_data_set d sent) ≡ true) kept_is long in
      passed h ∙ ap (λ (b : Bool). refusal_or (first_refusal ((b, resource_limitation) ∷ [])) done) there

  accepted : first_refusal (set_attribute_refusals kept sent) ≡ None → is_too_long (merged_data_set kept sent) ≡ false → step_changed uid sent (Some r) ≡ done
  accepted h short =
      let there : is_too_long (merged_data_set (kept_data_set (Some r)) sent) ≡ false = subst (λ (d : ElementList). is_too_long (merged_data_set d sent) ≡ false) kept_is short in
      passed h ∙ ap (λ (b : Bool). refusal_or (first_refusal ((b, resource_limitation) ∷ [])) done) there

  pub changed_to : first_refusal (set_attribute_refusals kept sent) ≡ None → is_too_long (merged_data_set kept sent) ≡ false → (octets : List ℕ)
      → octets ≡ canonical Explicit (merged_data_set kept sent) → step_changed uid sent (Some r) ≡ (success, Put (spelled_step uid octets) ∷ [])
  changed_to h short octets spelled =
      let there = spelled ∙ ap (λ (d : ElementList). canonical Explicit (merged_data_set d sent)) kept_is in
      accepted h short ∙ ap (λ (o : List ℕ). (success, Put (spelled_step uid o) ∷ [])) (sym there)

set_not_read : (records : List Record) (message : Message) (syntax : Syntax) (r : Result ElementList ReadFault) → is_over other_limit message ≡ false
    → data_set_read syntax message.octets ≡ r → result_ok r ≡ None → set_outcome records message syntax ≡ (processing_failure, [])
unfolding set_outcome
set_not_read records message syntax (Ok d) h same none = cc
set_not_read records message syntax (Err fault) h same none = rw (h, same) refl

module _ (records : List Record) (message : Message) (syntax : Syntax) where
  pub set_over : is_over other_limit message ≡ true → set_outcome records message syntax ≡ (resource_limitation, [])
  unfolding set_outcome
  set_over h = rw h refl

  pub set_unread : is_over other_limit message ≡ false → result_ok (data_set_read syntax message.octets) ≡ None
      → set_outcome records message syntax ≡ (processing_failure, [])
  set_unread h none = set_not_read records message syntax (data_set_read syntax message.octets) h refl none

  pub set_handed_on : (d : ElementList) → is_over other_limit message ≡ false → data_set_read syntax message.octets ≡ Ok d
      → set_outcome records message syntax ≡ step_changed message.command.sop_instance d (record_at Step message.command.sop_instance records)
  unfolding set_outcome
  set_handed_on d h read = rw (h, read) refl
