-- Whether what was sent stands afterwards is what the status says.
use Rattle.std.proofs.Common.{◌≡◌, ◌≢◌, ℕ, Bool, true, false, not, ◌&&◌, ◌||◌, List, [], ◌∷◌, ◌++◌, Option, Some, None, is_some, Result, Ok, Err, refl, sym, ◌∙◌, ap, subst, if◌then◌else◌, nat_eq, arith}
use Rattle.std.specs.List.{AllByRecursion, list_all}
use Rattle.std.specs.Option.{option_map}
use Rattle.std.specs.Result.{is_err, result_unwrap_or}
use Rattle.std.specs.Str.{bytes_eq}
use Rattle.std.proofs.lemmas.Bool.{and_parts, false≢true}
use Rattle.std.proofs.lemmas.Bool.Decides.{nat_tests}
use Rattle.std.proofs.lemmas.Slice.Eq.{bytes_eq-Decides}
use Rattle.dq_vr.specs.declared.Tag.{Tag}
use Rattle.dq_dataset.specs.declared.fault.ReadFault.{ReadFault}
use Rattle.dq_dataset.specs.declared.data_set.Element.{Element}
use Rattle.dq_dataset.specs.declared.header.Syntax.{Syntax}
use Rattle.dq_dataset.specs.Tree.{ElementList, no_elements}
use Rattle.dq_dataset.specs.DataSetReader.{data_set_read}
use Rattle.dq_dataset.specs.Editing.{cut_out, is_listed}
use Rattle.dq_dataset.specs.View.{elements_of}
use Rattle.dq_dimse.specs.Received.{Message}
use Rattle.dq_dimse.specs.Statuses.{success, out_of_resources, does_not_match_sop_class, cannot_understand, instance_kept_elsewhere, series_kept_elsewhere, elements_discarded}
use Rattle.dq_config.specs.Limits.{Limits}
use Rattle.dq_tables.specs.declared.row.Kind.{Kind}
use Rattle.dq_tables.specs.declared.row.Kind.TheVariants.{Study, Series, Image}
use Rattle.dq_tables.specs.declared.row.Row.{Row}
use Rattle.dq_tables.specs.Rows.{Record, Edit, Put, of, by, after, records_after_edits, row_of}
use Rattle.dq_tables.specs.Lookups.{record_at, row_at, same_kind, is_of_kind}
use Rattle.dq_tables.specs.Records.{data_set_of}
use Rattle.dq_tables.specs.ServiceEffects.{first_refusal, refusal_or}
use Rattle.dq_tables.specs.Sound.{IsSound, is_held}
use Rattle.dq_tables.proofs.Lens.{lens}
use Rattle.dq_tables.proofs.RecordLists.{one_kind}
use Rattle.dq_tables.proofs.RisingLists.{each_among}
use Rattle.dq_list.specs.Among.{IsAmong}
use Rattle.dq_tables.proofs.Members.{find_among}
use Rattle.dq_tables.proofs.OwnRows.{found_own}
use Rattle.dq_vr.specs.StudyRoot.{kept_attributes, study_attributes, series_attributes, image_attributes}
use Rattle.dq_store.specs.Levels.{IsReadBack, has_only, keeps_to_its_level, is_of_its_level, data_set_in, study_in, series_in, image_in, stands_whole, is_kept_in}
use Rattle.dq_store.specs.CStore.{Instance, Kept, kept_among, instance_in, keeps_too_much, is_under_another, is_kept_elsewhere, data_set_afterwards, is_in_one_of, is_kept_whole, storage_refusals, study_record, series_record, image_record, put_new, stored_status, stored_edits, store_outcome}
use Rattle.dq_store.proofs.Levels.{cut_has_only, has_no_other}
use Rattle.dq_store.proofs.Sieved.{AllListed, listed_too, study_kept, series_kept, image_kept}
use Rattle.dq_store.proofs.OtherRows.{kept_stays_by, all_put, image_put, series_put, study_put}

-- ---- what is answered without a refusal

cleared_step : (b : Bool) (status answer : ℕ) (o : Option ℕ) (done : ℕ × List Edit) → status ≢ answer
    → (refusal_or (if b then Some status else o) done).0 ≡ answer → (b ≡ false) × ((refusal_or o done).0 ≡ answer)
cleared_step true status answer o done failure is = absurd (failure is)
cleared_step false status answer o done failure is = (refl, is)

-- no refusal holds where another status than theirs is answered
cleared : (refusals : List (Bool × ℕ)) (answer : ℕ) (done : ℕ × List Edit) → AllByRecursion (λ (r : Bool × ℕ). r.1 ≢ answer) refusals
    → (refusal_or (first_refusal refusals) done).0 ≡ answer → AllByRecursion (λ (r : Bool × ℕ). r.0 ≡ false) refusals
cleared [] answer done failures is = tt
cleared (r ∷ refusals) answer done failures is =
    let both = cleared_step r.0 r.1 answer (first_refusal refusals) done failures.0 is in
    (both.0, cleared refusals answer done failures.1 both.1)

none_first : (refusals : List (Bool × ℕ)) → AllByRecursion (λ (r : Bool × ℕ). r.0 ≡ false) refusals → first_refusal refusals ≡ None
none_first [] clear = refl
none_first (r ∷ refusals) clear = rw clear.0 (none_first refusals clear.1)

unlisted : (tags : List Tag) → AllListed tags kept_attributes → (e : Element) → is_listed kept_attributes e ≡ false → is_listed tags e ≡ false
unlisted tags listed e none = by (is_listed tags e) refl
  where
    by : (b : Bool) → is_listed tags e ≡ b → is_listed tags e ≡ false
    by true is = absurd (false≢true (sym none ∙ listed_too tags kept_attributes listed e is))
    by false is = is

all_alike : {X : Type 0} (f g : X → Bool) → ((x : X) → f x ≡ g x) → (xs : List X) → list_all f xs ≡ list_all g xs
all_alike f g alike [] = refl
all_alike f g alike (x ∷ xs) = rw (alike x, all_alike f g alike xs) refl

-- ---- the records of an institution

none_of : {X : Type 0} (o : Option X) → is_some o ≡ true → o ≡ None → ⊥
none_of None there none = cc
none_of (Some x) there none = cc

not_another : (above key : List ℕ) → not (bytes_eq above key) ≡ false → above ≡ key
not_another above key e = by (bytes_eq above key) refl
  where
    by : (b : Bool) → bytes_eq above key ≡ b → above ≡ key
    by true is = (bytes_eq-Decides above key).0 is
    by false is = absurd (let no : true ≡ false = sym (ap not is) ∙ e in cc)

neither : (a b : Bool) → (a || b) ≡ false → (a ≡ false) × (b ≡ false)
neither true b e = cc
neither false b e = (refl, e)

module _ (h : List ℕ) (rows : List Row) where
  abbrev records : List Record
  records = of h rows

  -- the row of a record that is found
  its_row : (kind : Kind) (key : List ℕ) (r : Record) → record_at kind key records ≡ Some r → ((row_of h r).kind ≡ kind) × IsAmong (row_of h r) rows
  unfolding row_at
  its_row kind key r there =
      let row = row_of h r in
      let found = find_among _ row rows (found_own kind h key rows ∙ ap (option_map (row_of h)) there) in
      let of_kind = (and_parts (is_of_kind kind h row) (bytes_eq row.key key) found.1).0 in
      (one_kind row.kind kind (and_parts (same_kind row.kind kind) (bytes_eq row.inst h) of_kind).0, found.0)

  is_there : (kind : Kind) (key : List ℕ) → is_some (row_at kind h key rows) ≡ true → is_some (record_at kind key records) ≡ true
  is_there kind key e = some (record_at kind key records) (sym (ap is_some (found_own kind h key rows)) ∙ e)
    where
      some : (o : Option Record) → is_some (option_map (row_of h) o) ≡ true → is_some o ≡ true
      some None e = e
      some (Some r) e = refl

-- ---- the records afterwards

module _ (h : List ℕ) (rows : List Row) (sound : IsSound rows) (sent : Instance)
    (kept_here : is_kept_elsewhere (kept_among (of h rows) sent) sent ≡ false)
    (back_study : IsReadBack study_attributes sent.elements) (back_series : IsReadBack series_attributes sent.elements)
    (back_image : IsReadBack image_attributes sent.elements) where
  abbrev kept : Kept
  kept = kept_among (records h rows) sent

  abbrev afterwards : List Record
  afterwards = records_after_edits (stored_edits kept sent) (records h rows)

  held : (kind : Kind) (key : List ℕ) (r : Record) → record_at kind key (records h rows) ≡ Some r → is_held rows kind h r.above ≡ true
  held kind key r there =
      let its = its_row h rows kind key r there in
      subst (λ (k : Kind). is_held rows k h r.above ≡ true) its.0
      (each_among (λ (x : Row). is_held rows x.kind x.inst x.above ≡ true) (row_of h r) rows sound.held its.1)

  -- the series and the study of an image that is kept are kept
  above_image : (r : Record) → kept.image ≡ Some r → (is_some kept.series ≡ true) × (is_under_another kept.series sent.study ≡ false)
  unfolding is_kept_elsewhere is_held
  above_image r there =
      let under = is_under_another kept.series sent.study in
      let elsewhere : (is_under_another (Some r) sent.series || under) ≡ false =
      subst (λ (o : Option Record). (is_some o && (is_under_another o sent.series || under)) ≡ false) there kept_here in
      let both = neither (is_under_another (Some r) sent.series) under elsewhere in
      let own = not_another r.above sent.series both.0 in
      (is_there h rows Series sent.series (subst (λ (k : List ℕ). is_some (row_at Series h k rows) ≡ true) own (held Image sent.image r there)), both.1)

  above_series : (s : Record) → kept.series ≡ Some s → is_under_another kept.series sent.study ≡ false → is_some kept.study ≡ true
  unfolding is_held
  above_series s there under =
      let own = not_another s.above sent.study (subst (λ (o : Option Record). is_under_another o sent.study ≡ false) there under) in
      is_there h rows Study sent.study (subst (λ (k : List ℕ). is_some (row_at Study h k rows) ≡ true) own (held Series sent.series s there))

  study_of_image : (r : Record) → kept.image ≡ Some r → is_some kept.study ≡ true
  study_of_image r there = by kept.series refl
    where
      by : (o : Option Record) → kept.series ≡ o → is_some kept.study ≡ true
      by None none = absurd (none_of kept.series (above_image r there).0 none)
      by (Some s) some = above_series s some (above_image r there).1

  stays : (kind : Kind) (key : List ℕ) (r : Record) → record_at kind key (records h rows) ≡ Some r → record_at kind key afterwards ≡ Some r
  stays = kept_stays_by (records h rows) sent

  new_edits : kept.image ≡ None → afterwards ≡ all_put (records h rows) sent kept.study kept.series
  unfolding stored_edits
  new_edits none =
      let new = put_new kept.study (study_record sent) ++ (put_new kept.series (series_record sent) ++ Put (image_record sent) ∷ []) in
      ap (λ (o : Option Record). records_after_edits (if is_some o then [] else new) (records h rows)) none

  study_by : (o : Option Record) → kept.study ≡ o → data_set_in (record_at Study sent.study afterwards) ≡ data_set_afterwards o study_attributes sent.elements
  study_by (Some r) there = ap data_set_in (stays Study sent.study r there)
  study_by None none = by kept.image refl
    where
      by : (o : Option Record) → kept.image ≡ o
          → data_set_in (record_at Study sent.study afterwards) ≡ cut_out study_attributes sent.elements
      by (Some r) there = absurd (none_of kept.study (study_of_image r there) none)
      by None new = ap data_set_in (ap (record_at Study sent.study) (new_edits new) ∙ study_put (records h rows) sent kept.study kept.series refl refl new none) ∙ back_study

  series_by : (o : Option Record) → kept.series ≡ o → data_set_in (record_at Series sent.series afterwards) ≡ data_set_afterwards o series_attributes sent.elements
  series_by (Some r) there = ap data_set_in (stays Series sent.series r there)
  series_by None none = by kept.image refl
    where
      by : (o : Option Record) → kept.image ≡ o
          → data_set_in (record_at Series sent.series afterwards) ≡ cut_out series_attributes sent.elements
      by (Some r) there = absurd (none_of kept.series (above_image r there).0 none)
      by None new = ap data_set_in (ap (record_at Series sent.series) (new_edits new) ∙ series_put (records h rows) sent kept.study kept.series refl refl new none) ∙ back_series

  image_by : (o : Option Record) → kept.image ≡ o → data_set_in (record_at Image sent.image afterwards) ≡ data_set_afterwards o image_attributes sent.elements
  image_by (Some r) there = ap data_set_in (stays Image sent.image r there)
  image_by None new = ap data_set_in (ap (record_at Image sent.image) (new_edits new) ∙ image_put (records h rows) sent kept.study kept.series refl refl new) ∙ back_image

  pub status_says : stored_status kept sent ≡ (if is_kept_in afterwards sent then success else elements_discarded)
  unfolding stored_status
  status_says = rw (study_by kept.study refl, series_by kept.series refl, image_by kept.image refl) refl

  -- where records keep to their levels, whatever is in one of them is one of those that are kept
  module _ (levels : AllByRecursion (λ (row : Row). is_of_its_level row ≡ true) rows) where
    level : (kind : Kind) (key : List ℕ) (r : Record) → record_at kind key (records h rows) ≡ Some r → keeps_to_its_level kind (data_set_of r.octets) ≡ true
    level kind key r there =
        let its = its_row h rows kind key r there in
        subst (λ (k : Kind). keeps_to_its_level k (data_set_of r.octets) ≡ true) its.0
        (each_among (λ (x : Row). is_of_its_level x ≡ true) (row_of h r) rows levels its.1)

    study_only : (o : Option Record) → kept.study ≡ o → has_only study_attributes (data_set_afterwards o study_attributes sent.elements) ≡ true
    unfolding keeps_to_its_level
    study_only (Some r) there = level Study sent.study r there
    study_only None none = cut_has_only study_attributes sent.elements

    series_only : (o : Option Record) → kept.series ≡ o → has_only series_attributes (data_set_afterwards o series_attributes sent.elements) ≡ true
    unfolding keeps_to_its_level
    series_only (Some r) there = level Series sent.series r there
    series_only None none = cut_has_only series_attributes sent.elements

    image_only : (o : Option Record) → kept.image ≡ o → has_only image_attributes (data_set_afterwards o image_attributes sent.elements) ≡ true
    unfolding keeps_to_its_level
    image_only (Some r) there = level Image sent.image r there
    image_only None none = cut_has_only image_attributes sent.elements

    listed_if_there : (e : Element) (listed : Bool) → is_listed kept_attributes e ≡ listed
        → (listed && is_in_one_of (study_in afterwards sent) (series_in afterwards sent) (image_in afterwards sent) e)
        ≡ is_in_one_of (study_in afterwards sent) (series_in afterwards sent) (image_in afterwards sent) e
    listed_if_there e true is = refl
    listed_if_there e false is =
        rw (
          study_by kept.study refl,
          series_by kept.series refl,
          image_by kept.image refl,
          has_no_other study_attributes _ e (study_only kept.study refl) (unlisted study_attributes study_kept e is),
          has_no_other series_attributes _ e (series_only kept.series refl) (unlisted series_attributes series_kept e is),
          has_no_other image_attributes _ e (image_only kept.image refl) (unlisted image_attributes image_kept e is),
        ) refl

    pub status_says_whole : stored_status kept sent ≡ (if stands_whole afterwards sent then success else elements_discarded)
    unfolding is_kept_whole
    status_says_whole =
        status_says
        ∙ ap (λ (b : Bool). if b then success else elements_discarded)
        (all_alike _ _ (λ e. listed_if_there e (is_listed kept_attributes e) refl) (elements_of sent.elements))

-- ---- a C-STORE that is not refused

says_whole : (b : Bool) → (if b then success else elements_discarded) ≡ success → b ≡ true
says_whole true e = refl
says_whole false e = cc

says_discarded : (b : Bool) → (if b then success else elements_discarded) ≡ elements_discarded → b ≡ false
says_discarded true e = cc
says_discarded false e = refl

differ : (a b : ℕ) → nat_eq a b ≡ false → a ≢ b
differ a b apart same = (let no : nat_eq a b ≡ true = grind (arith, nat_tests) in cc)

abbrev pub sent_in : Message → Syntax → Instance
sent_in message syntax = instance_in (result_unwrap_or (data_set_read syntax message.octets) no_elements)

-- `says` is what the status of an instance that is not refused says of the records afterwards
module _ (h : List ℕ) (rows : List Row) (limits : Limits) (message : Message) (syntax : Syntax) (says : List Record → Instance → Bool) where
  abbrev data_set : Result ElementList ReadFault
  data_set = data_set_read syntax message.octets

  abbrev sent : Instance
  sent = sent_in message syntax

  abbrev made : ℕ × List Edit
  made = store_outcome limits (of h rows) message syntax

  abbrev refusals : List (Bool × ℕ)
  refusals = storage_refusals limits (of h rows) message data_set

  read : (r : Result ElementList ReadFault) → data_set ≡ r → is_err r ≡ false → data_set ≡ Ok (result_unwrap_or r no_elements)
  read (Ok d) is good = is
  read (Err fault) is good = cc

  abbrev StatusSays : Type 0
  StatusSays = is_kept_elsewhere (kept_among (of h rows) sent) sent ≡ false → IsReadBack study_attributes sent.elements
      → IsReadBack series_attributes sent.elements → IsReadBack image_attributes sent.elements
      → stored_status (kept_among (of h rows) sent) sent
      ≡ (if says (records_after_edits (stored_edits (kept_among (of h rows) sent) sent) (of h rows)) sent then success else elements_discarded)

  abbrev AreReadBack : Type 0
  AreReadBack = (d : ElementList) → data_set ≡ Ok d → keeps_too_much d ≡ false
      → IsReadBack study_attributes d × IsReadBack series_attributes d × IsReadBack image_attributes d

  module _ (status_says : StatusSays) (back : AreReadBack) where
    answered_by : AllByRecursion (λ (r : Bool × ℕ). r.0 ≡ false) refusals
        → made.0 ≡ (if says (of h (after (by h made.1) rows)) sent then success else elements_discarded)
    unfolding store_outcome
    answered_by clear =
        let kept = kept_among (of h rows) sent in
        let done : ℕ × List Edit = (stored_status kept sent, stored_edits kept sent) in
        let is_done : refusal_or (first_refusal refusals) done ≡ done = ap (λ (o : Option ℕ). refusal_or o done) (none_first refusals clear) in
        let backs = back sent.elements (read data_set refl clear.1.0) clear.1.1.0 in
        subst (λ (m : ℕ × List Edit). m.0 ≡ (if says (of h (after (by h m.1) rows)) sent then success else elements_discarded)) (sym is_done)
        (status_says clear.1.1.1.1.0 backs.0 backs.1 backs.2 ∙ ap (λ (rs : List Record). if says rs sent then success else elements_discarded)
        (sym (lens h (stored_edits kept sent) rows)))

    pub told_success : made.0 ≡ success → says (of h (after (by h made.1) rows)) sent ≡ true
    unfolding store_outcome
    told_success is =
        let kept = kept_among (of h rows) sent in
        let clear = cleared refusals success (stored_status kept sent, stored_edits kept sent)
        ((λ e. cc), ((λ e. cc), ((λ e. cc), ((λ e. cc), ((λ e. cc), ((λ e. cc), ((λ e. cc), ((λ e. cc), tt)))))))) is in
        says_whole _ (sym (answered_by clear) ∙ is)

    pub told_discarded : made.0 ≡ elements_discarded → says (of h (after (by h made.1) rows)) sent ≡ false
    unfolding store_outcome
    told_discarded is =
        let kept = kept_among (of h rows) sent in
        let clear = cleared refusals elements_discarded (stored_status kept sent, stored_edits kept sent)
        (differ out_of_resources elements_discarded refl, (differ cannot_understand elements_discarded refl, (differ out_of_resources elements_discarded refl, (differ does_not_match_sop_class elements_discarded refl, (differ instance_kept_elsewhere elements_discarded refl, (differ series_kept_elsewhere elements_discarded refl, (differ out_of_resources elements_discarded refl, (differ out_of_resources elements_discarded refl, tt)))))))) is in
        says_discarded _ (sym (answered_by clear) ∙ is)
