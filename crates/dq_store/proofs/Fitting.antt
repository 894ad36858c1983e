-- A change that keeps an instance which is new fits the rows.
use Rattle.std.proofs.Common.{◌≡◌, ◌==◌, ◌&&◌, ℕ, Bool, true, false, List, [], ◌∷◌, ◌++◌, Option, Some, None, is_some, find, filter, Ok, refl, sym, ◌∙◌, ap, if◌then◌else◌, arith}
use Rattle.std.specs.List.{list_any}
use Rattle.std.specs.Option.{option_map, option_or}
use Rattle.std.proofs.lemmas.List.Folds.{find-append}
use Rattle.dq_list.proofs.Finding.{found_filtered}
use Rattle.std.specs.Str.{bytes_eq}
use Rattle.std.specs.declared.cmp.Ordering.{Ordering}
use Rattle.std.specs.declared.cmp.Ordering.TheVariants.{Less, Equal, Greater}
use Rattle.std.specs.Ordering.{is_eq}
use Rattle.std.proofs.lemmas.Slice.Eq.{bytes_eq-Decides}
use Rattle.std.proofs.lemmas.Bool.{and_parts}
use Rattle.std.proofs.lemmas.Bool.Decides.{nat_tests}
use Rattle.std.proofs.lemmas.Cmp.{tied_itself}
use Rattle.dq_vr.specs.declared.Tag.{Tag}
use Rattle.dq_vr.specs.Tags.{sop_instance_uid, study_instance_uid, series_instance_uid}
use Rattle.dq_dataset.specs.declared.data_set.Element.{Element}
use Rattle.dq_dataset.specs.declared.header.Syntax.TheVariants.{Explicit}
use Rattle.dq_dataset.specs.Tree.{ElementList}
use Rattle.dq_dataset.specs.View.{elements_of, has_tag}
use Rattle.dq_dataset.specs.DataSetReader.{data_set_read}
use Rattle.dq_dataset.specs.Canonical.{canonical}
use Rattle.dq_dataset.specs.Editing.{cut_out, is_listed}
use Rattle.dq_dataset.specs.Values.{sole_at}
use Rattle.dq_dataset.proofs.Views.{elements_of-as_elements}
use Rattle.dq_tables.specs.declared.row.Kind.{Kind}
use Rattle.dq_tables.specs.declared.row.Kind.TheVariants.{Study, Series, Image}
use Rattle.dq_tables.specs.declared.row.Row.{Row}
use Rattle.dq_tables.specs.Rows.{Record, RowPlace, Put, IsRising, IsOf, of, row_of, record_place, place, within, row_place_of, row_place_order, rows_before, rows_past, after_edit, after_edits, put_if, edits_of}
use Rattle.dq_tables.specs.Lookups.{row_at}
use Rattle.dq_tables.specs.Keys.{uid_at}
use Rattle.dq_tables.specs.Sound.{is_own_row, is_held, is_value, has_key, has_above, is_within_limits, IsNew, IsNewIf, FitsStored}
use Rattle.dq_tables.proofs.Order.{rows_total, is_at, IsRising-split}
use Rattle.dq_tables.proofs.InOrder.{row_at_is}
use Rattle.dq_tables.proofs.Lens.{rising_edit}
use Rattle.dq_tables.proofs.OwnRows.{found_own}
use Rattle.dq_vr.specs.StudyRoot.{study_attributes, series_attributes, image_attributes}
use Rattle.dq_store.specs.CStore.{Instance, Kept, kept_among, cut_record, study_record, series_record, image_record, put_new, stored_edits}
use Rattle.dq_store.specs.Views.{new_if, new_rows}

-- ---- what is found where a row of another kind is put

pub none_in_front : {X : Type 0} (t : X → Bool) (m ys : List X) → find t m ≡ None → find t (m ++ ys) ≡ find t ys
none_in_front t m ys none = find-append t m ys ∙ ap (λ o. option_or o (find t ys)) none

none_between : {X : Type 0} (t : X → Bool) (xs m ys : List X) → find t m ≡ None → find t (xs ++ m ++ ys) ≡ find t (xs ++ ys)
none_between t [] m ys none = none_in_front t m ys none
none_between t (x ∷ xs) m ys none = ap (λ o. if t x then Some x else o) (none_between t xs m ys none)

module _ (p q : RowPlace) (less : row_place_order p q ≡ Less) where
  there_step : (row : Row) (rows : List Row) (o : Ordering) → row_place_order (row_place_of row) p ≡ o → find (is_at q) (filter (is_at p) rows) ≡ None
      → find (is_at q) (filter (is_at p) (row ∷ rows)) ≡ None
  there_step row rows Less e rest = rw e rest
  there_step row rows Equal e rest = rw (e, rows_total.congr (row_place_of row) p q e, less) rest
  there_step row rows Greater e rest = rw e rest

  none_there : (rows : List Row) → find (is_at q) (filter (is_at p) rows) ≡ None
  none_there [] = refl
  none_there (row ∷ rows) = there_step row rows (row_place_order (row_place_of row) p) refl (none_there rows)

put_elsewhere : (h : List ℕ) (r : Record) (q : RowPlace) (rows : List Row) → IsRising rows → row_place_order (within h (record_place r)) q ≡ Less
    → row_at q.kind q.institution q.key (after_edit h (Put r) rows) ≡ row_at q.kind q.institution q.key rows
unfolding after_edit
put_elsewhere h r q rows rising less =
    let p = within h (record_place r) in
    let new : find (is_at q) (row_of h r ∷ []) ≡ None = rw less refl in
    row_at_is q (after_edit h (Put r) rows)
    ∙ none_between (is_at q) (rows_before p rows) (row_of h r ∷ []) (rows_past p rows) new
    ∙ sym (none_between (is_at q) (rows_before p rows) (filter (is_at p) rows) (rows_past p rows) (none_there p q less rows))
    ∙ sym (ap (find (is_at q)) (IsRising-split p rows rising)) ∙ sym (row_at_is q rows)

found_step : {X : Type 0} (t : X → Bool) (x : X) (xs ys : List X) (b : Bool) → is_some (find t (xs ++ ys)) ≡ true
    → is_some (if b then Some x else find t (xs ++ ys)) ≡ true
found_step t x xs ys true rest = refl
found_step t x xs ys false rest = rest

found_between : {X : Type 0} (t : X → Bool) (xs : List X) (y : X) (ys : List X) → t y ≡ true → is_some (find t (xs ++ (y ∷ []) ++ ys)) ≡ true
found_between t [] y ys here = rw here refl
found_between t (x ∷ xs) y ys here = found_step t x (xs ++ (y ∷ [])) ys (t x) (found_between t xs y ys here)

put_there : (h : List ℕ) (r : Record) (rows : List Row) → is_some (row_at r.kind h r.key (after_edit h (Put r) rows)) ≡ true
unfolding after_edit
put_there h r rows =
    let p = within h (record_place r) in
    rw (row_at_is p (after_edit h (Put r) rows)) (found_between (is_at p) (rows_before p rows) (row_of h r) (rows_past p rows)
    (ap is_eq (tied_itself rows_total p)))

-- ---- what is kept of a data set is a record of its own

pub uid_of_cut : (tag : Tag) (tags : List Tag) (d : ElementList) → ((e : Element) → has_tag tag e ≡ true → is_listed tags e ≡ true)
    → uid_at tag (cut_out tags d) ≡ uid_at tag d
unfolding uid_at sole_at
uid_of_cut tag tags d listed =
    rw (elements_of-as_elements (filter (is_listed tags) (elements_of d)), found_filtered (has_tag tag) (is_listed tags) listed (elements_of d)) refl

-- whether a tag is one of some tags
abbrev pub is_tag_listed : List Tag → Tag → Bool
is_tag_listed tags tag = list_any (λ (t : Tag). (tag.group == t.group) && (tag.element == t.element)) tags

-- an element with a tag of the list is listed
pub listed_by_tag : (tags : List Tag) (tag : Tag) → is_tag_listed tags tag ≡ true → (e : Element) → has_tag tag e ≡ true → is_listed tags e ≡ true
listed_by_tag tags tag listed e here =
    let parts = and_parts (e.tag.group == tag.group) (e.tag.element == tag.element) here in
    let group : e.tag.group ≡ tag.group = grind (arith, nat_tests, parts.0) in
    let element : e.tag.element ≡ tag.element = grind (arith, nat_tests, parts.1) in
    rw (group, element) listed

same_bytes : (o : List ℕ) → bytes_eq o o ≡ true
same_bytes o = (bytes_eq-Decides o o).1 refl

value_is : (o : Option (List ℕ)) (v : List ℕ) → o ≡ Some v → is_value o v ≡ true
value_is o v e = rw e (same_bytes v)

own_cut : (h : List ℕ) (kind : Kind) (key above : List ℕ) (tags : List Tag) (d : ElementList)
    → data_set_read Explicit (canonical Explicit (cut_out tags d)) ≡ Ok (cut_out tags d) → has_key kind key (cut_out tags d) ≡ true
    → has_above kind above (cut_out tags d) ≡ true → is_within_limits kind (canonical Explicit (cut_out tags d)) ≡ true
    → is_own_row (row_of h (cut_record kind key above tags d)) ≡ true
unfolding is_own_row
own_cut h kind key above tags d back has_its_key has_its_above short =
    rw (back, same_bytes (canonical Explicit (cut_out tags d)), has_its_key, has_its_above, short) refl

-- ---- the change

module _ (h : List ℕ) (sent : Instance)
    (back : (tags : List Tag) → data_set_read Explicit (canonical Explicit (cut_out tags sent.elements)) ≡ Ok (cut_out tags sent.elements))
    (study_is : uid_at study_instance_uid sent.elements ≡ Some sent.study) (series_is : uid_at series_instance_uid sent.elements ≡ Some sent.series)
    (image_is : uid_at sop_instance_uid sent.elements ≡ Some sent.image) where
  abbrev d : ElementList
  d = sent.elements

  abbrev s : List ℕ
  s = sent.study

  abbrev r : List ℕ
  r = sent.series

  abbrev i : List ℕ
  i = sent.image

  study_own : is_own_row (row_of h (study_record sent)) ≡ true
  unfolding has_key has_above is_within_limits
  study_own =
      own_cut h Study s [] study_attributes d (back study_attributes)
      (value_is (uid_at study_instance_uid (cut_out study_attributes d)) s
      (uid_of_cut study_instance_uid study_attributes d (listed_by_tag study_attributes study_instance_uid refl) ∙ study_is))
      refl refl

  series_own : is_own_row (row_of h (series_record sent)) ≡ true
  unfolding has_key has_above is_within_limits
  series_own =
      own_cut h Series r s series_attributes d (back series_attributes)
      (value_is (uid_at series_instance_uid (cut_out series_attributes d)) r
      (uid_of_cut series_instance_uid series_attributes d (listed_by_tag series_attributes series_instance_uid refl) ∙ series_is))
      (value_is (uid_at study_instance_uid (cut_out series_attributes d)) s
      (uid_of_cut study_instance_uid series_attributes d (listed_by_tag series_attributes study_instance_uid refl) ∙ study_is))
      refl

  image_own : is_own_row (row_of h (image_record sent)) ≡ true
  unfolding has_key has_above is_within_limits
  image_own =
      own_cut h Image i r image_attributes d (back image_attributes)
      (value_is (uid_at sop_instance_uid (cut_out image_attributes d)) i
      (uid_of_cut sop_instance_uid image_attributes d (listed_by_tag image_attributes sop_instance_uid refl) ∙ image_is))
      (value_is (uid_at series_instance_uid (cut_out image_attributes d)) r
      (uid_of_cut series_instance_uid image_attributes d (listed_by_tag image_attributes series_instance_uid refl) ∙ series_is))
      refl

  is_of_its_own : (k : Option Record) (new : Record) → IsOf h (new_if h k new)
  is_of_its_own None new = refl
  is_of_its_own (Some k) new = tt

  still_rising : (k : Option Record) (new : Record) (rows : List Row) → IsRising rows → IsRising (after_edits h (put_if (new_if h k new)) rows)
  still_rising None new rows rising = rising_edit h (Put new) rows rising
  still_rising (Some k) new rows rising = rising

  stays : (k : Option Record) (new : Record) (q : RowPlace) (rows : List Row) → IsRising rows → row_place_order (within h (record_place new)) q ≡ Less
      → row_at q.kind q.institution q.key (after_edits h (put_if (new_if h k new)) rows) ≡ row_at q.kind q.institution q.key rows
  stays None new q rows rising less = put_elsewhere h new q rows rising less
  stays (Some k) new q rows rising less = refl

  is_there : (k : Option Record) (new : Record) (rows : List Row) → row_at new.kind h new.key rows ≡ option_map (row_of h) k
      → is_some (row_at new.kind h new.key (after_edits h (put_if (new_if h k new)) rows)) ≡ true
  is_there None new rows found = put_there h new rows
  is_there (Some k) new rows found = ap is_some found

  study_new : (rows : List Row) (k : Option Record) → row_at Study h s rows ≡ option_map (row_of h) k → IsNewIf rows Study (new_if h k (study_record sent))
  unfolding is_held
  study_new rows None found = record { kind_is = refl; free = found; own = study_own; held = refl }
  study_new rows (Some k) found = tt

  series_new : (rows : List Row) (k : Option Record) → row_at Series h r rows ≡ option_map (row_of h) k → is_some (row_at Study h s rows) ≡ true
      → IsNewIf rows Series (new_if h k (series_record sent))
  unfolding is_held
  series_new rows None found above = record { kind_is = refl; free = found; own = series_own; held = above }
  series_new rows (Some k) found above = tt

  image_new : (rows : List Row) → row_at Image h i rows ≡ None → is_some (row_at Series h r rows) ≡ true → IsNew rows Image (row_of h (image_record sent))
  unfolding is_held
  image_new rows free above = record { kind_is = refl; free = free; own = image_own; held = above }

  pub new_fits : (rows : List Row) → IsRising rows → (kept : Kept) → kept ≡ kept_among (of h rows) sent → kept.image ≡ None
      → FitsStored rows (new_if h kept.study (study_record sent)) (new_if h kept.series (series_record sent)) (row_of h (image_record sent))
  new_fits rows rising kept found new =
      let study_found : row_at Study h s rows ≡ option_map (row_of h) kept.study = found_own Study h s rows
      ∙ sym (ap (λ (k : Kept). option_map (row_of h) k.study) found) in
      let series_found : row_at Series h r rows ≡ option_map (row_of h) kept.series = found_own Series h r rows
      ∙ sym (ap (λ (k : Kept). option_map (row_of h) k.series) found) in
      let image_free : row_at Image h i rows ≡ None =
      found_own Image h i rows ∙ sym (ap (λ (k : Kept). option_map (row_of h) k.image) found) ∙ ap (option_map (row_of h)) new in
      let first = after_edits h (put_if (new_if h kept.study (study_record sent))) rows in
      let first_rising = still_rising kept.study (study_record sent) rows rising in
      let series_first = stays kept.study (study_record sent) (place Series h r) rows rising refl ∙ series_found in
      let second = after_edits h (put_if (new_if h kept.series (series_record sent))) first in
      record {
        study_of = is_of_its_own kept.study (study_record sent);
        series_of = is_of_its_own kept.series (series_record sent);
        study_new = study_new rows kept.study study_found;
        series_new = series_new first kept.series series_first (is_there kept.study (study_record sent) rows study_found);
        image_new = image_new second
            (stays kept.series (series_record sent) (place Image h i) first first_rising refl
            ∙ stays kept.study (study_record sent) (place Image h i) rows rising refl ∙ image_free)
            (is_there kept.series (series_record sent) first series_first);
      }

module _ (h : List ℕ) (made : Instance) where
  put_is : (k : Option Record) (new : Record) → put_if (new_if h k new) ≡ put_new k new
  put_is None new = refl
  put_is (Some k) new = refl

  pub edits_are : (kept : Kept) → kept.image ≡ None → edits_of (new_rows h kept made) ≡ stored_edits kept made
  unfolding stored_edits
  edits_are kept new = rw (new, put_is kept.study (study_record made), put_is kept.series (series_record made)) refl
