-- What is answered of an instance, by what is kept of it.
use Rattle.std.proofs.Common.{◌≡◌, ℕ, Bool, true, false, List, [], Option, Some, None, Result, Ok, Err, refl, sym, ◌∙◌, ap, if◌then◌else◌, ◌⊎◌, inl, inr}
use Rattle.std.specs.Result.{result_ok, result_unwrap_or}
use Rattle.dq_list.specs.Readers.{only_if}
use Rattle.dq_dataset.specs.declared.fault.ReadFault.{ReadFault}
use Rattle.dq_dataset.specs.declared.header.Syntax.{Syntax}
use Rattle.dq_dataset.specs.Tree.{ElementList, no_elements}
use Rattle.dq_dataset.specs.DataSetReader.{data_set_read}
use Rattle.dq_dimse.specs.Received.{Message}
use Rattle.dq_dimse.specs.Receiving.{is_over}
use Rattle.dq_dimse.specs.Statuses.{out_of_resources, does_not_match_sop_class, cannot_understand, success, elements_discarded}
use Rattle.dq_config.specs.Limits.{Limits}
use Rattle.dq_tables.specs.Rows.{Record, Edit}
use Rattle.dq_tables.specs.ServiceEffects.{first_refusal, refusal_or}
use Rattle.dq_dimse.specs.Limits.{store_limit}
use Rattle.dq_store.specs.declared.kept_rows.KeptRows.{KeptRows}
use Rattle.dq_store.specs.CStore.{Instance, Kept, kept_among, instance_in, names_instance, keeps_too_much, instance_refusals, storage_refusals, stored_status, stored_edits, store_outcome}
use Rattle.dq_store.specs.Views.{rows_among, unless_refused, records_kept, instance_stored, kept_status}
use Rattle.dq_store.proofs.Records.{kept_is}

abbrev kept_by : Bool → Kept → Instance → ℕ × List Edit
kept_by other kept sent = (kept_status other kept sent, stored_edits kept sent)

refused_by : (refusal : Option ℕ) (rows : KeptRows) (status : ℕ) → Err status ≡ unless_refused refusal rows → refusal ≡ Some status
refused_by None rows status is = cc
refused_by (Some s) rows status is = cc

not_refused : (refusal : Option ℕ) (rows kept : KeptRows) → Ok kept ≡ unless_refused refusal rows → (refusal ≡ None) × (kept ≡ rows)
not_refused None rows kept is = (refl, cc)
not_refused (Some s) rows kept is = cc

module _ (limits : Limits) (records : List Record) (other : Bool) (sent : Instance) (name : List ℕ) where
  abbrev found : Result KeptRows ℕ
  found = unless_refused (first_refusal (instance_refusals limits records sent)) (rows_among name records sent)

  pub refused_instance : (status : ℕ) → Err status ≡ found → instance_stored limits records other sent ≡ (status, [])
  unfolding instance_stored
  refused_instance status is =
      ap (λ (o : Option ℕ). refusal_or o (kept_by other (kept_among records sent) sent)) (refused_by _ (rows_among name records sent) status is)

  pub kept_instance : (kept : KeptRows) → Ok kept ≡ found → instance_stored limits records other sent ≡ kept_by other (records_kept kept) sent
  unfolding instance_stored
  kept_instance kept is =
      let both = not_refused _ (rows_among name records sent) kept is in
      ap (λ (o : Option ℕ). refusal_or o (kept_by other (kept_among records sent) sent)) both.0
      ∙ sym (ap (λ (k : Kept). kept_by other k sent) (kept_is name records sent kept both.1))

  pub kept_records : (kept : KeptRows) → Ok kept ≡ found → records_kept kept ≡ kept_among records sent
  kept_records kept is = kept_is name records sent kept (not_refused _ (rows_among name records sent) kept is).1

-- ---- what is answered before what is kept is asked

pub not_provided : {A : Type 0} (b : Bool) (x : A) → None ≡ only_if b x → b ≡ false
not_provided true x none = cc
not_provided false x none = refl

not_read : (limits : Limits) (records : List Record) (message : Message) (syntax : Syntax) (r : Result ElementList ReadFault)
    → is_over store_limit message ≡ false → data_set_read syntax message.octets ≡ r → result_ok r ≡ None
    → store_outcome limits records message syntax ≡ (cannot_understand, [])
unfolding store_outcome
not_read limits records message syntax (Ok d) h same none = cc
not_read limits records message syntax (Err fault) h same none = rw (h, same) refl

module _ (limits : Limits) (records : List Record) (message : Message) (syntax : Syntax) where
  pub over : is_over store_limit message ≡ true → store_outcome limits records message syntax ≡ (out_of_resources, [])
  unfolding store_outcome
  over h = rw h refl

  pub unread : is_over store_limit message ≡ false → result_ok (data_set_read syntax message.octets) ≡ None
      → store_outcome limits records message syntax ≡ (cannot_understand, [])
  unread h none = not_read limits records message syntax (data_set_read syntax message.octets) h refl none

  pub too_much : (d : ElementList) → is_over store_limit message ≡ false → data_set_read syntax message.octets ≡ Ok d → keeps_too_much d ≡ true
      → store_outcome limits records message syntax ≡ (out_of_resources, [])
  unfolding store_outcome
  too_much d h read large = rw (h, read, large) refl

  module _ (d : ElementList) (h : is_over store_limit message ≡ false) (read : data_set_read syntax message.octets ≡ Ok d)
      (small : keeps_too_much d ≡ false) where
    pub unnamed : names_instance message.command d ≡ false → store_outcome limits records message syntax ≡ (does_not_match_sop_class, [])
    unfolding store_outcome
    unnamed none = rw (h, read, small, none) refl

    pub handed_on : names_instance message.command d ≡ true → store_outcome limits records message syntax ≡ instance_stored limits records false (instance_in d)
    unfolding store_outcome instance_stored
    handed_on named = rw (h, read, small, named) refl

-- ---- what is refused

whole_or_not : (b : Bool) → ((if b then success else elements_discarded) ≡ success) ⊎ ((if b then success else elements_discarded) ≡ elements_discarded)
whole_or_not true = inl refl
whole_or_not false = inr refl

status_kept : (kept : Kept) (sent : Instance) → (stored_status kept sent ≡ success) ⊎ (stored_status kept sent ≡ elements_discarded)
unfolding stored_status
status_kept kept sent = whole_or_not _

outcome_refused : (refusal : Option ℕ) (kept : Kept) (sent : Instance)
    → ((refusal_or refusal (kept_by false kept sent)).1 ≡ [])
    ⊎ (((refusal_or refusal (kept_by false kept sent)).0 ≡ success) ⊎ ((refusal_or refusal (kept_by false kept sent)).0 ≡ elements_discarded))
outcome_refused (Some status) kept sent = inl refl
outcome_refused None kept sent = inr (status_kept kept sent)

pub refused_changes_nothing : (limits : Limits) (records : List Record) (message : Message) (syntax : Syntax)
    → ((store_outcome limits records message syntax).1 ≡ [])
    ⊎ (((store_outcome limits records message syntax).0 ≡ success) ⊎ ((store_outcome limits records message syntax).0 ≡ elements_discarded))
unfolding store_outcome
refused_changes_nothing limits records message syntax =
    let data_set = data_set_read syntax message.octets in
    let sent = instance_in (result_unwrap_or data_set no_elements) in
    outcome_refused (first_refusal (storage_refusals limits records message data_set)) (kept_among records sent) sent
