-- What an N-SET makes of the records.
use Rattle.std.proofs.Common.{◌≡◌, ◌≢◌, ℕ, Bool, true, false, List, [], ◌∷◌, Option, Some, None, Result, Ok, Err, refl, sym, ◌∙◌, ap, subst, if◌then◌else◌}
use Rattle.std.specs.List.{AllByRecursion}
use Rattle.std.specs.Option.{option_or}
use Rattle.std.specs.Result.{is_err, result_unwrap_or}
use Rattle.dq_vr.specs.declared.Tag.{Tag}
use Rattle.dq_dataset.specs.declared.fault.ReadFault.{ReadFault}
use Rattle.dq_dataset.specs.declared.header.Syntax.{Syntax}
use Rattle.dq_dataset.specs.declared.header.Syntax.TheVariants.{Explicit}
use Rattle.dq_dataset.specs.declared.data_set.Element.{Element}
use Rattle.dq_dataset.specs.Tree.{ElementList, no_elements}
use Rattle.dq_dataset.specs.Facts.{IsDataSet}
use Rattle.dq_dataset.specs.DataSetReader.{data_set_read}
use Rattle.dq_dataset.specs.Canonical.{canonical, HasLengths}
use Rattle.dq_dataset.specs.Editing.{merged_data_set}
use Rattle.dq_dataset.specs.Values.{element_at}
use Rattle.dq_dimse.specs.Received.{Message}
use Rattle.dq_dimse.specs.Statuses.{success}
use Rattle.dq_tables.specs.declared.row.Kind.{Kind}
use Rattle.dq_tables.specs.declared.row.Kind.TheVariants.{Step}
use Rattle.dq_tables.specs.Rows.{Record, Place, record_place, Edit, Put, records_after_edits}
use Rattle.dq_tables.specs.Lookups.{record_at}
use Rattle.dq_tables.specs.Records.{data_set_of}
use Rattle.dq_tables.specs.ServiceEffects.{first_refusal, refusal_or}
use Rattle.dq_mpps.specs.Steps.{step_record}
use Rattle.dq_mpps.specs.NSet.{kept_data_set, changes_fixed, change_refusals, set_outcome}
use Rattle.dq_mpps.specs.ChangedStep.{step_at, IsStepChanged}
use Rattle.dq_mpps.proofs.CreatedStep.{accepted, apart, put_here, put_elsewhere}
use Rattle.dq_mpps.proofs.AttributesAfter.{standing_after, fixed_stay}
use Rattle.dq_mpps.proofs.StaysSound.{short_step}

-- ---- what is accepted

cleared_step : (b : Bool) (status : ℕ) (o : Option ℕ) (edits : List Edit) → status ≢ success
    → (refusal_or (if b then Some status else o) (success, edits)).0 ≡ success
    → (b ≡ false) × ((refusal_or o (success, edits)).0 ≡ success)
cleared_step true status o edits failure is = absurd (failure is)
cleared_step false status o edits failure is = (refl, is)

-- no refusal holds of what is answered by success
cleared : (refusals : List (Bool × ℕ)) (edits : List Edit) → AllByRecursion (λ (r : Bool × ℕ). r.1 ≢ success) refusals
    → (refusal_or (first_refusal refusals) (success, edits)).0 ≡ success → AllByRecursion (λ (r : Bool × ℕ). r.0 ≡ false) refusals
cleared [] edits failures is = tt
cleared (r ∷ refusals) edits failures is =
    let both = cleared_step r.0 r.1 (first_refusal refusals) edits failures.0 is in
    (both.0, cleared refusals edits failures.1 both.1)

-- ---- the step afterwards

module _ (records : List Record) (uid : List ℕ) (sent : ElementList) (are_kept : IsDataSet (step_at uid records)) (are_sent : IsDataSet sent)
    (none : changes_fixed (step_at uid records) sent ≡ false)
    (back : data_set_read Explicit (canonical Explicit (merged_data_set (step_at uid records) sent)) ≡ Ok (merged_data_set (step_at uid records) sent)) where
  abbrev step : ElementList
  step = merged_data_set (step_at uid records) sent

  abbrev after : List Record
  after = records_after_edits (Put (step_record uid step) ∷ []) records

  there : record_at Step uid after ≡ Some (step_record uid step)
  there = put_here (step_record uid step) records

  holds : step_at uid after ≡ step
  unfolding data_set_of
  holds = ap kept_data_set there ∙ ap (λ (r : Result ElementList ReadFault). result_unwrap_or r no_elements) back

  stands_by : (tag : Tag) (o : Option Element) → element_at tag sent ≡ o
      → element_at tag (step_at uid after) ≡ option_or o (element_at tag (step_at uid records))
  stands_by tag o is =
      ap (element_at tag) holds ∙ standing_after (step_at uid records) sent are_sent tag
      ∙ ap (λ (s : Option Element). option_or s (element_at tag (step_at uid records))) is

  others_after : (kind : Kind) (key : List ℕ) → (kind ≡ Step → key ≢ uid) → record_at kind key after ≡ record_at kind key records
  others_after kind key other =
      let q : Place = record { kind = kind; key = key } in
      put_elsewhere (step_record uid step) q records (apart q (record_place (step_record uid step)) (λ kinds same. other kinds same))

  is_changed : IsStepChanged records after uid sent
  is_changed =
      record {
        kept = there ∙ ap (λ (d : ElementList). Some (step_record uid d)) (sym holds);
        stands = λ tag e is. stands_by tag (Some e) is;
        unsent = λ tag is. stands_by tag None is;
        fixed = λ e is. ap (element_at e.tag) holds ∙ fixed_stay (step_at uid records) sent are_kept none e is are_sent;
        others = others_after;
      }

-- ---- an N-SET that is accepted

module _ (records : List Record) (message : Message) (syntax : Syntax) where
  abbrev data_set : Result ElementList ReadFault
  data_set = data_set_read syntax message.octets

  abbrev sent_in : Result ElementList ReadFault → ElementList
  sent_in r = result_unwrap_or r no_elements

  abbrev own : List ℕ
  own = message.command.sop_instance

  sent_facts : ((d : ElementList) → data_set_read syntax message.octets ≡ Ok d → IsDataSet d) → (r : Result ElementList ReadFault)
      → data_set ≡ r → is_err r ≡ false → IsDataSet (sent_in r)
  sent_facts facts (Ok d) read good = facts d read
  sent_facts facts (Err fault) read good = cc

  pub changed_is : IsDataSet (step_at own records) → ((d : ElementList) → data_set_read syntax message.octets ≡ Ok d → IsDataSet d)
      → ((sent : ElementList) → IsDataSet sent → let step = merged_data_set (step_at own records) sent in HasLengths Explicit step
      → data_set_read Explicit (canonical Explicit step) ≡ Ok step)
      → (set_outcome records message syntax).0 ≡ success
      → IsStepChanged records (records_after_edits (set_outcome records message syntax).1 records) own (sent_in data_set)
  unfolding set_outcome
  changed_is are_kept facts back is =
      let sent = sent_in data_set in
      let step = merged_data_set (step_at own records) sent in
      let edits : List Edit = Put (step_record own step) ∷ [] in
      let refusals = change_refusals records message data_set in
      let failures : AllByRecursion (λ (r : Bool × ℕ). r.1 ≢ success) refusals =
      ((λ e. cc), ((λ e. cc), ((λ e. cc), ((λ e. cc), ((λ e. cc), ((λ e. cc), ((λ e. cc), tt))))))) in
      let clear = cleared refusals edits failures is in
      let are_sent = sent_facts facts data_set refl clear.1.0 in
      let short = short_step step clear.1.1.1.1.1.1.0 in
      subst (λ (es : List Edit). IsStepChanged records (records_after_edits es records) own sent) (sym (accepted refusals edits failures is))
      (is_changed records own sent are_kept are_sent clear.1.1.1.1.0 (back sent are_sent short))
