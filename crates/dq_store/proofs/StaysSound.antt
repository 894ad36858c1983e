-- What holds of rows and stays, whatever is stored: that they are sound, and that each is of a kind.
use Rattle.std.proofs.Common.{◌≡◌, ℕ, Bool, true, false, ◌&&◌, List, [], ◌∷◌, ◌++◌, Option, Some, None, is_some, Result, Ok, Err, refl, sym, ◌∙◌, subst}
use Rattle.std.specs.List.{AllByRecursion}
use Rattle.std.specs.Prelude.{unwrap_or}
use Rattle.std.proofs.lemmas.Bool.{and_parts}
use Rattle.dq_vr.specs.declared.Tag.{Tag}
use Rattle.dq_vr.specs.Tags.{sop_class_uid, sop_instance_uid, study_instance_uid, series_instance_uid}
use Rattle.dq_dataset.specs.declared.fault.ReadFault.{ReadFault}
use Rattle.dq_dataset.specs.declared.header.Syntax.{Syntax}
use Rattle.dq_dataset.specs.declared.header.Syntax.TheVariants.{Explicit}
use Rattle.dq_dataset.specs.Tree.{ElementList}
use Rattle.dq_dataset.specs.DataSetReader.{data_set_read}
use Rattle.dq_dataset.specs.Canonical.{canonical}
use Rattle.dq_dataset.specs.Editing.{cut_out}
use Rattle.dq_dataset.specs.Sieve.{has_other}
use Rattle.dq_dimse.specs.declared.command.Command.{Command}
use Rattle.dq_vr.specs.StudyRoot.{kept_attributes}
use Rattle.dq_dimse.specs.Received.{Message}
use Rattle.dq_dimse.specs.Receiving.{is_over}
use Rattle.dq_config.specs.Limits.{Limits}
use Rattle.dq_tables.specs.declared.row.Row.{Row}
use Rattle.dq_tables.specs.Rows.{Record, Edit, Put, Remove, Start, of, by, after, after_edit, after_edits, record_place, row_of, rows_before, rows_past, within}
use Rattle.dq_tables.specs.Keys.{uid_at}
use Rattle.dq_tables.specs.ServiceEffects.{first_refusal, refusal_or}
use Rattle.dq_tables.specs.Sound.{IsSound, is_value}
use Rattle.dq_tables.proofs.Order.{each_appended, each_filtered, is_before, is_past}
use Rattle.dq_tables.proofs.Soundness.{change_sound}
use Rattle.dq_dimse.specs.Limits.{store_limit}
use Rattle.dq_store.specs.CStore.{Instance, Kept, kept_among, instance_in, names_instance, keeps_too_much, instance_refusals, study_record, series_record, image_record, put_new, stored_edits, store_outcome}
use Rattle.dq_store.specs.Views.{instance_stored, kept_status, new_rows}
use Rattle.dq_store.proofs.Fitting.{new_fits, edits_are}
use Rattle.dq_store.proofs.Outcomes.{over, unread, too_much, unnamed, handed_on}
use Rattle.dq_store.proofs.Sieved.{named_kept, kept_decides}

-- ---- the UIDs of what is named

uid_there : (uid : Option (List ℕ)) → is_some uid ≡ true → uid ≡ Some (unwrap_or uid [])
uid_there None e = cc
uid_there (Some octets) e = refl

value_there : (value : Option (List ℕ)) (octets : List ℕ) → is_value value octets ≡ true → is_some value ≡ true
value_there None octets e = e
value_there (Some value) octets e = refl

pub record HasOwnUids (d : ElementList) : Type 0 where
  pub study : uid_at study_instance_uid d ≡ Some (instance_in d).study
  pub series : uid_at series_instance_uid d ≡ Some (instance_in d).series
  pub image : uid_at sop_instance_uid d ≡ Some (instance_in d).image

named_uids : (command : Command) (d : ElementList) → names_instance command d ≡ true → HasOwnUids d
unfolding names_instance
named_uids command d named =
    let class = is_value (uid_at sop_class_uid d) command.sop_class in
    let image = is_value (uid_at sop_instance_uid d) command.sop_instance in
    let study = is_some (uid_at study_instance_uid d) in
    let series = is_some (uid_at series_instance_uid d) in
    let all = and_parts (class && image) (study && series) named in
    let above = and_parts study series all.1 in
    record {
      study = uid_there (uid_at study_instance_uid d) above.0;
      series = uid_there (uid_at series_instance_uid d) above.1;
      image = uid_there (uid_at sop_instance_uid d)
          (value_there (uid_at sop_instance_uid d) command.sop_instance (and_parts class image all.0).1);
    }

-- ---- the rows afterwards

-- what holds of the rows holds afterwards, if it does after the edits of what is kept
module _ (P : List Row → Type 0) (h : List ℕ) (rows : List Row) (holds : P rows) (limits : Limits) (message : Message) (syntax : Syntax)
    (keeps : (d : ElementList) → data_set_read syntax message.octets ≡ Ok d → keeps_too_much d ≡ false → let k = cut_out kept_attributes d in
    HasOwnUids k → P (after (by h (stored_edits (kept_among (of h rows) (instance_in k)) (instance_in k))) rows)) where
  abbrev made : ℕ × List Edit
  made = store_outcome limits (of h rows) message syntax

  abbrev Stays : ℕ × List Edit → Type 0
  Stays done = P (after (by h done.1) rows)

  refused_stays : (status : ℕ) → made ≡ (status, []) → Stays made
  refused_stays status e = subst Stays (sym e) holds

  unless_refused : (refusal : Option ℕ) (done : ℕ × List Edit) → Stays done → Stays (refusal_or refusal done)
  unless_refused (Some status) done kept = holds
  unless_refused None done kept = kept

  instance_stays : (other : Bool) (sent : Instance) → P (after (by h (stored_edits (kept_among (of h rows) sent) sent)) rows)
      → Stays (instance_stored limits (of h rows) other sent)
  unfolding instance_stored
  instance_stays other sent kept =
      unless_refused (first_refusal (instance_refusals limits (of h rows) sent))
      (kept_status other (kept_among (of h rows) sent) sent, stored_edits (kept_among (of h rows) sent) sent) kept

  named_stays : (d : ElementList) → is_over store_limit message ≡ false → data_set_read syntax message.octets ≡ Ok d → keeps_too_much d ≡ false
      → (named : Bool) → names_instance message.command d ≡ named → Stays made
  named_stays d short read small false other = refused_stays _ (unnamed limits (of h rows) message syntax d short read small other)
  named_stays d short read small true named =
      let k = cut_out kept_attributes d in
      subst Stays (sym (handed_on limits (of h rows) message syntax d short read small named ∙ kept_decides limits (of h rows) d))
      (instance_stays (has_other kept_attributes d) (instance_in k)
      (keeps d read small (named_uids message.command k (named_kept message.command d ∙ named))))

  small_stays : (d : ElementList) → is_over store_limit message ≡ false → data_set_read syntax message.octets ≡ Ok d
      → (large : Bool) → keeps_too_much d ≡ large → Stays made
  small_stays d short read true large = refused_stays _ (too_much limits (of h rows) message syntax d short read large)
  small_stays d short read false small = named_stays d short read small (names_instance message.command d) refl

  read_stays : (r : Result ElementList ReadFault) → is_over store_limit message ≡ false → data_set_read syntax message.octets ≡ r → Stays made
  read_stays (Ok d) short read = small_stays d short read (keeps_too_much d) refl
  read_stays (Err fault) short read = refused_stays _ (unread limits (of h rows) message syntax short (rw read refl))

  short_stays : (long : Bool) → is_over store_limit message ≡ long → Stays made
  short_stays true long = refused_stays _ (over limits (of h rows) message syntax long)
  short_stays false short = read_stays (data_set_read syntax message.octets) short refl

  pub stored_stays : P (after (by h (store_outcome limits (of h rows) message syntax).1) rows)
  stored_stays = short_stays (is_over store_limit message) refl

-- ---- that they are sound

module _ (h : List ℕ) (rows : List Row) (sound : IsSound rows) (sent : Instance)
    (back : (tags : List Tag) → data_set_read Explicit (canonical Explicit (cut_out tags sent.elements)) ≡ Ok (cut_out tags sent.elements))
    (study_is : uid_at study_instance_uid sent.elements ≡ Some sent.study)
    (series_is : uid_at series_instance_uid sent.elements ≡ Some sent.series)
    (image_is : uid_at sop_instance_uid sent.elements ≡ Some sent.image) where
  sound_by : (image : Option Record) → (kept_among (of h rows) sent).image ≡ image
      → IsSound (after (by h (stored_edits (kept_among (of h rows) sent) sent)) rows)
  unfolding stored_edits
  sound_by (Some r) there = rw there sound
  sound_by None new =
      let kept = kept_among (of h rows) sent in
      subst (λ (es : List Edit). IsSound (after (by h es) rows)) (edits_are h sent kept new)
      (change_sound rows (new_rows h kept sent) sound (new_fits h sent back study_is series_is image_is rows sound.rising kept refl new))

  pub edits_sound : IsSound (after (by h (stored_edits (kept_among (of h rows) sent) sent)) rows)
  edits_sound = sound_by (kept_among (of h rows) sent).image refl

-- ---- that each is of a kind

module _ (Each : Row → Type 0) (h : List ℕ) where
  abbrev PutsEach : List Edit → Type 0
  PutsEach [] = Unit {0}
  PutsEach (Put r ∷ es) = Each (row_of h r) × PutsEach es
  PutsEach (Remove kind key ∷ es) = ⊥
  PutsEach (Start key ∷ es) = ⊥

  each_put : (es : List Edit) (rows : List Row) → AllByRecursion Each rows → PutsEach es → AllByRecursion Each (after_edits h es rows)
  unfolding after_edit
  each_put [] rows all puts = all
  each_put (Put r ∷ es) rows all puts =
      let p = within h (record_place r) in
      each_put es (after_edit h (Put r) rows)
      (each_appended Each (rows_before p rows ++ row_of h r ∷ []) (rows_past p rows)
      (each_appended Each (rows_before p rows) (row_of h r ∷ []) (each_filtered Each (is_before p) rows all) (puts.0, tt))
      (each_filtered Each (is_past p) rows all)) puts.1
  each_put (Remove kind key ∷ es) rows all puts = absurd puts
  each_put (Start key ∷ es) rows all puts = absurd puts

  puts_new : (kept : Option Record) (new : Record) (es : List Edit) → Each (row_of h new) → PutsEach es → PutsEach (put_new kept new ++ es)
  puts_new None new es each rest = (each, rest)
  puts_new (Some r) new es each rest = rest

  module _ (rows : List Row) (all : AllByRecursion Each rows) (kept : Kept) (sent : Instance) (study : Each (row_of h (study_record sent)))
      (series : Each (row_of h (series_record sent))) (image : Each (row_of h (image_record sent))) where
    each_by : (image : Option Record) → kept.image ≡ image → AllByRecursion Each (after (by h (stored_edits kept sent)) rows)
    unfolding stored_edits
    each_by (Some r) there = rw there all
    each_by None new =
        rw new (each_put (put_new kept.study (study_record sent) ++ (put_new kept.series (series_record sent) ++ Put (image_record sent) ∷ [])) rows all
        (puts_new kept.study (study_record sent) _ study (puts_new kept.series (series_record sent) _ series (image, tt))))

    pub each_stays : AllByRecursion Each (after (by h (stored_edits kept sent)) rows)
    each_stays = each_by kept.image refl
