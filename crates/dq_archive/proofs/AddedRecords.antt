-- Records that are added, and left out again.
use Rattle.std.proofs.Common.{◌≡◌, ℕ, Bool, true, false, not, ◌&&◌, ◌||◌, List, [], ◌∷◌, ◌++◌, map, filter, Option, Some, None, option_map, refl, sym, ap, subst, ◌∙◌, append-nil, append_assoc, if◌then◌else◌, arith}
use Rattle.std.specs.List.{AllByRecursion}
use Rattle.std.specs.Option.{option_to_list}
use Rattle.std.specs.Str.{bytes_eq}
use Rattle.std.proofs.lemmas.Bool.{and_parts}
use Rattle.std.proofs.lemmas.List.{map-append}
use Rattle.std.proofs.lemmas.List.Elements.{filter-append}
use Rattle.std.proofs.lemmas.Slice.Eq.{bytes_eq-Decides}
use Rattle.dq_tables.specs.declared.row.Kind.{Kind}
use Rattle.dq_tables.specs.declared.row.Kind.TheVariants.{Study, Series, Image, Entry}
use Rattle.dq_tables.specs.declared.row.Row.{Row}
use Rattle.dq_tables.specs.declared.change.Change.{Change}
use Rattle.dq_tables.specs.declared.change.Change.TheVariants.{Stored, EntryAdded, EntryRemoved, StepAdded, StepChanged}
use Rattle.dq_tables.specs.Rows.{Record, Place, Edit, Put, Remove, Start, edit_place, left_there, institution_of, edits_of, by, within, IsRising, RowPlace, place, of, row_of, record_of, rows_before, rows_past, after, after_edit, after_edits, put_if, operation_of, IsOf}
use Rattle.dq_tables.specs.Lookups.{same_kind, is_of_kind, record_at, row_at}
use Rattle.dq_tables.specs.Sound.{IsSound, ChangeFits, FitsStored, IsNew, IsNewIf}
use Rattle.dq_tables.proofs.Lens.{of-append, rising_edit}
use Rattle.dq_tables.proofs.InOrder.{at_is_found}
use Rattle.dq_tables.proofs.RecordLists.{one_kind, its_kind}
use Rattle.dq_tables.proofs.Members.{apart_is, free_is}
use Rattle.dq_tables.proofs.Order.{is_at, each_passed, filter_all, IsRising-split}
use Rattle.dq_tables.proofs.EditPlaces.{StandsAt, stands_there}
use Rattle.dq_tables.proofs.OwnRows.{found_own}
use Rattle.dq_tables.proofs.Soundness.{stored_is}
use Rattle.dq_archive.specs.declared.additions.Addition.{Addition}
use Rattle.dq_archive.specs.Decisions.{IsOwn, FitsIf, edits_in}
use Rattle.dq_archive.specs.Additions.{is_added, is_later, is_lasting, lasting_records, without, kept_under, added_by, added_if, IsTold}
use Rattle.dq_archive.proofs.PastRecords.{swapped, none_left_out}

-- ---- some and others

both_later : (xs ys : List Addition) (r : Record) → is_later (xs ++ ys) r ≡ (is_later xs r || is_later ys r)
both_later [] ys r = refl
both_later (x ∷ xs) ys r = grind (arith, both_later xs ys r)

both_step : (xs ys : List Addition) (r : Record) (rs : List Record) → without (xs ++ ys) rs ≡ without xs (without ys rs)
    → without (xs ++ ys) (r ∷ rs) ≡ without xs (without ys (r ∷ rs))
unfolding without
both_step xs ys r rs rest = grind (arith, both_later xs ys r)

pub without_both : (xs ys : List Addition) (rs : List Record) → without (xs ++ ys) rs ≡ without xs (without ys rs)
unfolding without
without_both xs ys [] = refl
without_both xs ys (r ∷ rs) = both_step xs ys r rs (without_both xs ys rs)

-- ---- one that is added

itself : (row : Row) → is_added (kept_under row) (record_of row) ≡ true
itself row = (λ i. its_kind row.kind row.kind refl i && ((bytes_eq-Decides row.key row.key).1 refl i && (bytes_eq-Decides row.above row.above).1 refl i))

none_back : {A B : Type 0} (f : A → B) (o : Option A) → option_map f o ≡ None → o ≡ None
none_back f None e = refl
none_back f (Some x) e = absurd cc

module _ (row : Row) where
  abbrev alone : List Addition
  alone = kept_under row ∷ []

  stays_by : (r : Record) (k b : Bool) → same_kind r.kind row.kind ≡ k → bytes_eq r.key row.key ≡ b → (k && b) ≡ false → not (is_later alone r) ≡ true
  stays_by r true true k b free = absurd cc
  stays_by r true false k b free = rw (k, b) refl
  stays_by r false b' k b free = rw k refl

  none_step : (r : Record) (rs : List Record) (b : Bool) → (same_kind r.kind row.kind && bytes_eq r.key row.key) ≡ b
      → record_at row.kind row.key (r ∷ rs) ≡ None → (b ≡ false) × (record_at row.kind row.key rs ≡ None)
  unfolding record_at
  none_step r rs true is e = absurd (let found = rw is at e in cc)
  none_step r rs false is e = (refl, rw is at e)

  all_stay : (rs : List Record) → record_at row.kind row.key rs ≡ None → AllByRecursion (λ (r : Record). not (is_later alone r) ≡ true) rs
  all_stay [] free = tt
  all_stay (r ∷ rs) free =
      let parts = none_step r rs (same_kind r.kind row.kind && bytes_eq r.key row.key) refl free in
      (stays_by r (same_kind r.kind row.kind) (bytes_eq r.key row.key) refl refl parts.0, all_stay rs parts.1)

  none_out : (rs : List Record) → record_at row.kind row.key rs ≡ None → without alone rs ≡ rs
  unfolding without
  none_out rs free = filter_all (λ (r : Record). not (is_later alone r)) rs (all_stay rs free)

  gone : without alone (record_of row ∷ []) ≡ []
  unfolding without
  gone = rw (itself row) refl

  of_one : (h : List ℕ) → of h (row_of h (record_of row) ∷ []) ≡ record_of row ∷ []
  unfolding of
  of_one h = rw ((bytes_eq-Decides h h).1 refl) refl

  pub one_added : (h : List ℕ) (rows : List Row) → IsRising rows → row_at row.kind h row.key rows ≡ None
      → without alone (of h (after_edit h (Put (record_of row)) rows)) ≡ of h rows
  unfolding after_edit without
  one_added h rows rising free =
      let p = place row.kind h row.key in
      let before = rows_before p rows in
      let past = rows_past p rows in
      let here = row_of h (record_of row) ∷ [] in
      let out : List Record → List Record = without alone in
      let none : record_at row.kind row.key (of h rows) ≡ None = none_back (row_of h) _ (sym (found_own row.kind h row.key rows) ∙ free) in
      ap out (of-append h (before ++ here) past ∙ ap (λ l. l ++ of h past) (of-append h before here))
      ∙ filter-append (λ (r : Record). not (is_later alone r)) (of h before ++ of h here) (of h past)
      ∙ ap (λ l. l ++ out (of h past)) (filter-append (λ (r : Record). not (is_later alone r)) (of h before) (of h here)
      ∙ ap (λ l. out (of h before) ++ l) (ap out (of_one h) ∙ gone) ∙ append-nil (out (of h before)))
      ∙ sym (filter-append (λ (r : Record). not (is_later alone r)) (of h before) (of h past))
      ∙ ap out (sym (of-append h before past) ∙ ap (of h) (apart_is p rows rising ∙ free_is row.kind h row.key rows free))
      ∙ none_out (of h rows) none

-- ---- an image with its study and its series

module _ (h : List ℕ) where
  abbrev Out : List Row → List Row → List Row → Type 0
  Out added new rows = without (map kept_under added) (of h new) ≡ of h rows

  free_by_kind : (kind : Kind) (row : Row) (rows : List Row) → row.inst ≡ h → IsNew rows kind row → row_at row.kind h row.key rows ≡ None
  free_by_kind kind row rows same new = (λ i. row_at (new.kind_is i) (sym same i) row.key rows) ∙ new.free

  if_added : (kind : Kind) (row : Option Row) (rows : List Row) → IsRising rows → IsOf h row → IsNewIf rows kind row
      → Out (option_to_list row) (after_edits h (put_if row) rows) rows
  if_added kind None rows rising same new = none_left_out (of h rows)
  if_added kind (Some row) rows rising same new =
      one_added row h rows rising (free_by_kind kind row rows same new)

  rising_if : (row : Option Row) (rows : List Row) → IsRising rows → IsRising (after_edits h (put_if row) rows)
  rising_if None rows rising = rising
  rising_if (Some row) rows rising = rising_edit h (Put (record_of row)) rows rising

  then_out : (some more : List Row) (new mid rows : List Row) → Out more new mid → Out some mid rows → Out (some ++ more) new rows
  then_out some more new mid rows second first =
      ap (λ l. without l (of h new)) (map-append kept_under some more)
      ∙ without_both (map kept_under some) (map kept_under more) (of h new) ∙ ap (without (map kept_under some)) second ∙ first

pub stored_added : (rows : List Row) (study series : Option Row) (image : Row) → IsRising rows → FitsStored rows study series image
    → without (added_by (Stored study series image)) (of image.inst (after (operation_of (Stored study series image)) rows)) ≡ of image.inst rows
stored_added rows study series image rising fits =
    let h = image.inst in
    let first = after_edits h (put_if study) rows in
    let second = after_edits h (put_if series) first in
    let last = after_edit h (Put (record_of image)) second in
    let rising_first = rising_if h study rows rising in
    let rising_second = rising_if h series first rising_first in
    ap (λ rs. without (added_by (Stored study series image)) (of h rs)) (stored_is rows study series image)
    ∙ then_out h (option_to_list study) (option_to_list series ++ image ∷ []) last first rows
    (then_out h (option_to_list series) (image ∷ []) last second first
    (one_added image h second rising_second (free_by_kind h Image image second refl fits.image_new))
    (if_added h Series series first rising_first fits.series_of fits.series_new))
    (if_added h Study study rows rising fits.study_of fits.study_new)

-- ---- worklist entries and steps, which do not last

lasting_append : (xs ys : List Record) → lasting_records (xs ++ ys) ≡ lasting_records xs ++ lasting_records ys
unfolding lasting_records
lasting_append xs ys = filter-append (λ (r : Record). is_lasting r.kind) xs ys

of_kind_step : (k : Kind) (row : Row) (others : List Row) (b : Bool) → is_lasting k ≡ false → row.kind ≡ k
    → filter (λ (r : Record). is_lasting r.kind) (map record_of others) ≡ []
    → filter (λ (r : Record). is_lasting r.kind) (map record_of (if b then row ∷ others else others)) ≡ []
of_kind_step k row others true brief is rest = rw (ap is_lasting is ∙ brief) rest
of_kind_step k row others false brief is rest = rest

of_each_kind : (h : List ℕ) (k : Kind) (rows : List Row) → is_lasting k ≡ false → AllByRecursion (λ (row : Row). row.kind ≡ k) rows → lasting_records (of h rows) ≡ []
unfolding lasting_records of
of_each_kind h k [] brief each = refl
of_each_kind h k (row ∷ rows) brief each =
    of_kind_step k row (filter (λ (one : Row). bytes_eq one.inst h) rows) (bytes_eq row.inst h) brief each.0 (of_each_kind h k rows brief each.1)

there_kind : (h : List ℕ) (e : Edit) (there : Option Record) → StandsAt (edit_place e) there
    → AllByRecursion (λ (row : Row). row.kind ≡ (edit_place e).kind) (map (row_of h) (left_there e there))
there_kind h (Put r) there stands = (refl, tt)
there_kind h (Remove kind key) there stands = tt
there_kind h (Start key) None stands = tt
there_kind h (Start key) (Some r) stands = (ap (λ (p : Place). p.kind) stands, tt)

at_kind : (p : RowPlace) (rows : List Row) → AllByRecursion (λ (row : Row). row.kind ≡ p.kind) (filter (is_at p) rows)
at_kind p rows =
    each_passed (λ (row : Row). row.kind ≡ p.kind) (is_at p)
    (λ row h. (let parts = and_parts (is_of_kind p.kind p.institution row) (bytes_eq row.key p.key) (at_is_found p row ∙ h) in
    one_kind row.kind p.kind (and_parts (same_kind row.kind p.kind) (bytes_eq row.inst p.institution) parts.0).0)) rows

between_gone : (h : List ℕ) (before middle past : List Row) → lasting_records (of h middle) ≡ []
    → lasting_records (of h ((before ++ middle) ++ past)) ≡ lasting_records (of h before) ++ lasting_records (of h past)
between_gone h before middle past none =
    ap lasting_records (of-append h (before ++ middle) past) ∙ lasting_append (of h (before ++ middle)) (of h past)
    ∙ ap (λ l. l ++ lasting_records (of h past)) (ap lasting_records (of-append h before middle) ∙ lasting_append (of h before) (of h middle)
    ∙ ap (λ l. lasting_records (of h before) ++ l) none ∙ append-nil (lasting_records (of h before)))

pub brief_edit : (h : List ℕ) (e : Edit) (rows : List Row) → IsRising rows → is_lasting (edit_place e).kind ≡ false
    → lasting_records (of h (after_edit h e rows)) ≡ lasting_records (of h rows)
unfolding after_edit
brief_edit h e rows rising brief =
    let p = within h (edit_place e) in
    let there = record_at (edit_place e).kind (edit_place e).key (of h rows) in
    between_gone h (rows_before p rows) (map (row_of h) (left_there e there)) (rows_past p rows)
    (of_each_kind h (edit_place e).kind (map (row_of h) (left_there e there)) brief (there_kind h e there (stands_there (edit_place e) (of h rows))))
    ∙ sym (ap (λ rs. lasting_records (of h rs)) (IsRising-split p rows rising)
    ∙ between_gone h (rows_before p rows) (filter (is_at p) rows) (rows_past p rows) (of_each_kind h (edit_place e).kind (filter (is_at p) rows) brief (at_kind p rows)))

brief_starts : (h : List ℕ) (keys : List (List ℕ)) (rows : List Row) → IsRising rows
    → lasting_records (of h (after_edits h (map Start keys) rows)) ≡ lasting_records (of h rows)
brief_starts h [] rows rising = refl
brief_starts h (key ∷ keys) rows rising =
    brief_starts h keys (after_edit h (Start key) rows) (rising_edit h (Start key) rows rising) ∙ brief_edit h (Start key) rows rising refl

-- ---- any change

pub without_swapped : (later : List Addition) (rs : List Record) → lasting_records (without later rs) ≡ without later (lasting_records rs)
unfolding lasting_records without
without_swapped later rs = swapped (λ (r : Record). is_lasting r.kind) (λ (r : Record). not (is_later later r)) rs

change_added : (change : Change) (rows : List Row) → IsRising rows → ChangeFits rows change
    → lasting_records (without (added_by change) (of (institution_of change) (after (operation_of change) rows))) ≡ lasting_records (of (institution_of change) rows)
change_added (Stored study series image) rows rising fits = ap lasting_records (stored_added rows study series image rising fits)
change_added (EntryAdded row) rows rising fits =
    ap lasting_records (none_left_out (of row.inst (after (operation_of (EntryAdded row)) rows)))
    ∙ brief_edit row.inst (Put (record_of row)) rows rising (ap is_lasting fits.kind_is)
change_added (EntryRemoved h key) rows rising fits =
    ap lasting_records (none_left_out (of h (after (operation_of (EntryRemoved h key)) rows))) ∙ brief_edit h (Remove Entry key) rows rising refl
change_added (StepAdded row keys) rows rising fits =
    ap lasting_records (none_left_out (of row.inst (after (operation_of (StepAdded row keys)) rows)))
    ∙ brief_starts row.inst keys (after_edit row.inst (Put (record_of row)) rows) (rising_edit row.inst (Put (record_of row)) rows rising)
    ∙ brief_edit row.inst (Put (record_of row)) rows rising (ap is_lasting fits.step_new.kind_is)
change_added (StepChanged row) rows rising fits =
    ap lasting_records (none_left_out (of row.inst (after (operation_of (StepChanged row)) rows)))
    ∙ brief_edit row.inst (Put (record_of row)) rows rising (ap is_lasting fits.kind_is)

pub change_left_out : (later : List Addition) (change : Change) (rows : List Row) → IsSound rows → ChangeFits rows change
    → lasting_records (without (later ++ added_by change) (of (institution_of change) (after (operation_of change) rows)))
    ≡ lasting_records (without later (of (institution_of change) rows))
change_left_out later change rows sound fits =
    let h = institution_of change in
    let new = of h (after (operation_of change) rows) in
    ap lasting_records (without_both later (added_by change) new)
    ∙ without_swapped later (without (added_by change) new) ∙ ap (without later) (change_added change rows sound.rising fits)
    ∙ sym (without_swapped later (of h rows))

-- what a change adds, told in turn
pub told_in_turn : (old : List Addition) (study series : Option Row) (image : Row)
    → ((old ++ map kept_under (option_to_list study)) ++ map kept_under (option_to_list series)) ++ (kept_under image ∷ [])
    ≡ old ++ added_by (Stored study series image)
told_in_turn old study series image =
    let a = map kept_under (option_to_list study) in
    let b = map kept_under (option_to_list series) in
    let last = kept_under image ∷ [] in
    append_assoc (old ++ a) b last ∙ append_assoc old a (b ++ last)
    ∙ ap (λ l. old ++ l) (ap (λ l. a ++ l) (sym (map-append kept_under (option_to_list series) (image ∷ [])))
    ∙ sym (map-append kept_under (option_to_list study) (option_to_list series ++ image ∷ [])))

-- what a change adds is told
pub told_by : (h : List ℕ) (change : Option Change) (rows now : List Row) (old new : List Addition) → IsSound rows → IsOwn h change → FitsIf rows change
    → new ≡ old ++ added_if change → now ≡ after (by h (edits_in change)) rows → IsTold h rows now old new
told_by h None rows now old new sound own fits is done =
    record { told = []; behind = is; stays = λ later. λ i. lasting_records (without (append-nil later i) (of h (done i))) }
told_by h (Some change) rows now old new sound own fits is done = record {
  told = added_by change;
  behind = is;
  stays = λ later.
      ap (λ (rs : List Row). lasting_records (without (later ++ added_by change) (of h rs))) done
      ∙ subst (λ (g : List ℕ). lasting_records (without (later ++ added_by change) (of g (after (by g (edits_of change)) rows))) ≡ lasting_records (without later (of g rows)))
      own (change_left_out later change rows sound fits);
}

-- nothing was added
pub told_nothing : (h : List ℕ) (rows : List Row) (old : List Addition) → IsTold h rows rows old old
told_nothing h rows old =
    record { told = []; behind = sym (append-nil old); stays = λ later. λ i. lasting_records (without (append-nil later i) (of h rows)) }
