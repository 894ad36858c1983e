-- What holds of rows and stays, whatever step is created or changed: that they are sound, and that each is of a kind.
use Rattle.std.proofs.Common.{◌≡◌, ℕ, ◌<◌, ◌≤◌, ◌^◌, Bool, true, false, ◌||◌, nat_le, nat_lt, List, [], ◌∷◌, ◌++◌, map, length, Option, Some, None, Result, Ok, Err, refl, sym, ◌∙◌, ap, subst, arith}
use Rattle.std.specs.List.{AllByRecursion}
use Rattle.std.specs.Option.{option_map}
use Rattle.std.proofs.lemmas.Bool.Decides.{nat_tests}
use Rattle.dq_value.specs.Uid.{is_uid}
use Rattle.dq_dataset.specs.declared.fault.ReadFault.{ReadFault}
use Rattle.dq_dataset.specs.declared.header.Syntax.{Syntax}
use Rattle.dq_dataset.specs.declared.header.Syntax.TheVariants.{Explicit}
use Rattle.dq_dataset.specs.Tree.{ElementList}
use Rattle.dq_dataset.specs.DataSetReader.{data_set_read}
use Rattle.dq_dataset.specs.Canonical.{canonical, HasLengths}
use Rattle.dq_dataset.specs.Editing.{merged_data_set}
use Rattle.dq_dataset.specs.Sieve.{is_over_limit}
use Rattle.dq_dataset.specs.Grammar.{IsSpelled}
use Rattle.dq_dataset.proofs.Large.{small_has_lengths}
use Rattle.dq_dataset.proofs.SpelledIsShort.{spelled_is_short}
use Rattle.dq_dimse.specs.Received.{Message}
use Rattle.dq_dimse.specs.Receiving.{is_over}
use Rattle.dq_config.specs.Limits.{Limits}
use Rattle.dq_tables.specs.declared.change.Change.TheVariants.{StepAdded, StepChanged}
use Rattle.dq_tables.specs.declared.row.Kind.TheVariants.{Entry, Step}
use Rattle.dq_tables.specs.declared.row.Row.{Row}
use Rattle.dq_tables.specs.Rows.{Record, Edit, Put, Start, IsRising, of, by, after, after_edit, after_edits, record_place, record_of, row_of, rows_before, rows_past, within}
use Rattle.dq_tables.specs.Lookups.{record_at, row_at}
use Rattle.dq_tables.specs.ServiceEffects.{first_refusal, refusal_or}
use Rattle.dq_tables.specs.Sound.{IsSound}
use Rattle.dq_tables.specs.StartedEntries.{entries_named}
use Rattle.dq_tables.proofs.Lens.{rising_edit}
use Rattle.dq_tables.proofs.Order.{each_appended, each_filtered, is_before, is_past}
use Rattle.dq_tables.proofs.RisingLists.{each_among}
use Rattle.dq_tables.proofs.Members.{find_among}
use Rattle.dq_tables.proofs.OwnRows.{found_own}
use Rattle.dq_tables.proofs.Soundness.{change_sound}
use Rattle.dq_tables.proofs.StartedEntries.{started, start_keeps}
use Rattle.dq_dimse.specs.Limits.{other_limit}
use Rattle.dq_mpps.specs.Steps.{step_record}
use Rattle.dq_mpps.specs.NCreate as creating
use Rattle.dq_mpps.specs.NCreate.{create_outcome}
use Rattle.dq_mpps.specs.NSet.{kept_data_set, step_limit, is_too_long, set_attribute_refusals, set_outcome}
use Rattle.dq_mpps.specs.Views.{step_created, step_changed}
use Rattle.dq_mpps.proofs.FittingChanges.{new_step_fits, changed_fits}
use Rattle.dq_mpps.proofs.Outcomes.{create_over, create_unread, create_unnamed, create_handed_on, refused_by, too_long, changed_to, set_over, set_unread, set_handed_on}

-- ---- what is short

pub short_octets : (message : Message) → is_over other_limit message ≡ false → length message.octets < 2 ^ 31
short_octets message short = by message.over short
  where
    by : (over : Bool) → (over || nat_lt other_limit (length message.octets)) ≡ false → length message.octets < 2 ^ 31
    by true e = cc
    by false e = grind (arith, nat_tests)

pub short_message : (message : Message) → is_over other_limit message ≡ false → length message.octets ≤ other_limit
short_message message short = by message.over short
  where
    by : (over : Bool) → (over || nat_lt other_limit (length message.octets)) ≡ false → length message.octets ≤ other_limit
    by true e = cc
    by false e = grind (arith, nat_tests)

-- a step is at most twice as long in the spelling that is kept
pub short_new : (syntax : Syntax) (octets : List ℕ) (d : ElementList) → IsSpelled syntax octets d → length octets ≤ other_limit
    → nat_le (length (canonical Explicit d)) step_limit ≡ true
short_new syntax octets d spelled short =
    let twice = (spelled_is_short Explicit syntax octets d spelled).twice in
    let within : length (canonical Explicit d) ≤ step_limit = omega (arith, twice, short) in
    grind (arith, nat_tests)

pub short_changed : (d : ElementList) → is_too_long d ≡ false → nat_le (length (canonical Explicit d)) step_limit ≡ true
unfolding is_too_long
short_changed d short = grind (arith, nat_tests)

pub short_step : (d : ElementList) → is_too_long d ≡ false → HasLengths Explicit d
unfolding is_too_long is_over_limit
short_step d short = small_has_lengths d (grind (arith, nat_tests))

-- a step that cannot be written is too long
pub unwritten_is_long : (d : ElementList) → (HasLengths Explicit d → ⊥) → true ≡ is_too_long d
unwritten_is_long d unwritten = by (is_too_long d) refl
  where
    by : (b : Bool) → is_too_long d ≡ b → true ≡ b
    by true is = refl
    by false is = absurd (unwritten (short_step d is))

pub long_octets : (d : ElementList) (octets : List ℕ) (b : Bool) → octets ≡ canonical Explicit d → nat_lt step_limit (length octets) ≡ b
    → b ≡ is_too_long d
unfolding is_too_long
long_octets d octets b spelled long = sym long ∙ ap (λ (o : List ℕ). nat_lt step_limit (length o)) spelled

-- ---- the rows afterwards

-- what holds of the rows holds afterwards, if it does after the edits
module _ (P : List Row → Type 0) (h : List ℕ) (rows : List Row) (holds : P rows) (message : Message) (syntax : Syntax) where
  abbrev Stays : ℕ × List Edit → Type 0
  Stays done = P (after (by h done.1) rows)

  abbrev uid : List ℕ
  uid = message.command.sop_instance

  refused_stays : (done : ℕ × List Edit) (status : ℕ) → done ≡ (status, []) → Stays done
  refused_stays done status e = subst Stays (sym e) holds

  unless_refused : (refusal : Option ℕ) (done : ℕ × List Edit) → Stays done → Stays (refusal_or refusal done)
  unless_refused (Some status) done kept = holds
  unless_refused None done kept = kept

  module _ (limits : Limits)
      (keeps : (d : ElementList) → is_over other_limit message ≡ false → data_set_read syntax message.octets ≡ Ok d → is_uid uid ≡ true
      → record_at Step uid (of h rows) ≡ None → P (after (by h (creating.creation (of h rows) uid d)) rows)) where
    new_stays : (d : ElementList) → is_over other_limit message ≡ false → data_set_read syntax message.octets ≡ Ok d → is_uid uid ≡ true
        → (kept : Option Record) → record_at Step uid (of h rows) ≡ kept → Stays (step_created limits uid d (of h rows))
    new_stays d short read named (Some r) there = rw there holds
    new_stays d short read named None free =
        unless_refused (first_refusal (creating.create_refusals limits (of h rows) uid d)) (0, creating.creation (of h rows) uid d)
        (keeps d short read named free)

    named_stays : (d : ElementList) → is_over other_limit message ≡ false → data_set_read syntax message.octets ≡ Ok d
        → (named : Bool) → is_uid uid ≡ named → Stays (create_outcome limits (of h rows) message syntax)
    named_stays d short read false other = refused_stays _ _ (create_unnamed limits (of h rows) message syntax d short read other)
    named_stays d short read true named =
        subst Stays (sym (create_handed_on limits (of h rows) message syntax d short read named))
        (new_stays d short read named (record_at Step uid (of h rows)) refl)

    created_of : (r : Result ElementList ReadFault) → is_over other_limit message ≡ false → data_set_read syntax message.octets ≡ r
        → Stays (create_outcome limits (of h rows) message syntax)
    created_of (Ok d) short read = named_stays d short read (is_uid uid) refl
    created_of (Err fault) short read = refused_stays _ _ (create_unread limits (of h rows) message syntax short (rw read refl))

    created_by : (long : Bool) → is_over other_limit message ≡ long → Stays (create_outcome limits (of h rows) message syntax)
    created_by true long = refused_stays _ _ (create_over limits (of h rows) message syntax long)
    created_by false short = created_of (data_set_read syntax message.octets) short refl

    pub created_stays : P (after (by h (create_outcome limits (of h rows) message syntax).1) rows)
    created_stays = created_by (is_over other_limit message) refl

  module _ (keeps : (d : ElementList) → data_set_read syntax message.octets ≡ Ok d → (r : Record) → record_at Step uid (of h rows) ≡ Some r
      → is_too_long (merged_data_set (kept_data_set (Some r)) d) ≡ false
      → P (after (by h (Put (step_record uid (merged_data_set (kept_data_set (Some r)) d)) ∷ [])) rows)) where
    short_stays : (d : ElementList) → data_set_read syntax message.octets ≡ Ok d → (r : Record) → record_at Step uid (of h rows) ≡ Some r
        → first_refusal (set_attribute_refusals (kept_data_set (Some r)) d) ≡ None
        → (long : Bool) → is_too_long (merged_data_set (kept_data_set (Some r)) d) ≡ long → Stays (step_changed uid d (Some r))
    short_stays d read r there clear true long = refused_stays _ _ (too_long uid d r (kept_data_set (Some r)) refl clear long)
    short_stays d read r there clear false short =
        let step = merged_data_set (kept_data_set (Some r)) d in
        subst Stays (sym (changed_to uid d r (kept_data_set (Some r)) refl clear short (canonical Explicit step) refl))
        (keeps d read r there short)

    clear_stays : (d : ElementList) → data_set_read syntax message.octets ≡ Ok d → (r : Record) → record_at Step uid (of h rows) ≡ Some r
        → (refusal : Option ℕ) → first_refusal (set_attribute_refusals (kept_data_set (Some r)) d) ≡ refusal → Stays (step_changed uid d (Some r))
    clear_stays d read r there (Some status) refused = refused_stays _ status (refused_by uid d r (kept_data_set (Some r)) refl status refused)
    clear_stays d read r there None clear = short_stays d read r there clear (is_too_long (merged_data_set (kept_data_set (Some r)) d)) refl

    step_stays : (d : ElementList) → data_set_read syntax message.octets ≡ Ok d
        → (kept : Option Record) → record_at Step uid (of h rows) ≡ kept → Stays (step_changed uid d kept)
    step_stays d read None none = holds
    step_stays d read (Some r) there = clear_stays d read r there (first_refusal (set_attribute_refusals (kept_data_set (Some r)) d)) refl

    changed_of : (r : Result ElementList ReadFault) → is_over other_limit message ≡ false → data_set_read syntax message.octets ≡ r
        → Stays (set_outcome (of h rows) message syntax)
    changed_of (Ok d) short read =
        subst Stays (sym (set_handed_on (of h rows) message syntax d short read)) (step_stays d read (record_at Step uid (of h rows)) refl)
    changed_of (Err fault) short read = refused_stays _ _ (set_unread (of h rows) message syntax short (rw read refl))

    changed_by : (long : Bool) → is_over other_limit message ≡ long → Stays (set_outcome (of h rows) message syntax)
    changed_by true long = refused_stays _ _ (set_over (of h rows) message syntax long)
    changed_by false short = changed_of (data_set_read syntax message.octets) short refl

    pub changed_stays : P (after (by h (set_outcome (of h rows) message syntax).1) rows)
    changed_stays = changed_by (is_over other_limit message) refl

-- ---- that they are sound

module _ (h : List ℕ) (rows : List Row) (sound : IsSound rows) (uid : List ℕ) (d : ElementList) (back : data_set_read Explicit (canonical Explicit d) ≡ Ok d) where
  pub new_sound : is_uid uid ≡ true → record_at Step uid (of h rows) ≡ None → IsSound (after (by h (creating.creation (of h rows) uid d)) rows)
  new_sound named free =
      let keys = entries_named (of h rows) d in
      change_sound rows (StepAdded (row_of h (step_record uid d)) keys) sound (new_step_fits h uid d rows keys back named free refl)

  pub changed_sound : (r : Record) → record_at Step uid (of h rows) ≡ Some r → IsSound (after (by h (Put (step_record uid d) ∷ [])) rows)
  changed_sound r there =
      let found = sym (found_own Step h uid rows ∙ ap (option_map (row_of h)) there) in
      change_sound rows (StepChanged (row_of h (step_record uid d))) sound
      (changed_fits h uid d (canonical Explicit d) rows (row_of h r) sound.own found refl back)

-- ---- that each is of a kind

module _ (Each : Row → Type 0) where
  pub each_put : (h : List ℕ) (r : Record) (rows : List Row) → AllByRecursion Each rows → Each (row_of h r)
      → AllByRecursion Each (after_edit h (Put r) rows)
  unfolding after_edit
  each_put h r rows all new =
      let p = within h (record_place r) in
      each_appended Each (rows_before p rows ++ row_of h r ∷ []) (rows_past p rows)
      (each_appended Each (rows_before p rows) (row_of h r ∷ []) (each_filtered Each (is_before p) rows all) (new, tt))
      (each_filtered Each (is_past p) rows all)

  -- the row that is found is one of them
  pub each_found : (h uid : List ℕ) (rows : List Row) (r : Record) → AllByRecursion Each rows → record_at Step uid (of h rows) ≡ Some r → Each (row_of h r)
  unfolding row_at
  each_found h uid rows r all there =
      each_among Each (row_of h r) rows all
      (find_among _ (row_of h r) rows (found_own Step h uid rows ∙ ap (option_map (row_of h)) there)).0

  module _ (as_before : (row : Row) → row.kind ≡ Entry → Each row → Each (started row)) where
    pub each_started : (h : List ℕ) (keys : List (List ℕ)) (rows : List Row) → IsRising rows → AllByRecursion Each rows
        → AllByRecursion Each (after_edits h (map Start keys) rows)
    each_started h [] rows rising all = all
    each_started h (key ∷ keys) rows rising all =
        each_started h keys (after_edit h (Start key) rows) (rising_edit h (Start key) rows rising)
        (start_keeps (AllByRecursion Each) h key rows rising all
        (λ row kind among. each_put row.inst (record_of (started row)) rows all (as_before row kind (each_among Each row rows all among))))
