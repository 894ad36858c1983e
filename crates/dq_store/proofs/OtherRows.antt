-- What is kept stays as it is, and institutions stay apart.
use Rattle.std.proofs.Common.{◌≡◌, ◌≢◌, ℕ, Bool, true, false, ◌&&◌, List, [], ◌∷◌, ◌++◌, Option, Some, None, is_some, find, refl, sym, ◌∙◌, ap, if◌then◌else◌}
use Rattle.std.specs.declared.cmp.Ordering.{Ordering}
use Rattle.std.specs.declared.cmp.Ordering.TheVariants.{Less, Equal, Greater}
use Rattle.std.specs.Ordering.{is_lt, is_eq, is_gt, ordering_reverse}
use Rattle.std.specs.Cmp.{IsTotalOrder}
use Rattle.std.specs.Str.{bytes_eq}
use Rattle.std.proofs.lemmas.Cmp.{nat_cmp_total, nat_list_cmp_total, on_total, then_total, alike_right, tied_itself}
use Rattle.std.proofs.lemmas.Map.Text.{is_eq-slice_cmp}
use Rattle.dq_dataset.specs.declared.header.Syntax.{Syntax}
use Rattle.std.specs.Result.{result_unwrap_or}
use Rattle.dq_dataset.specs.DataSetReader.{data_set_read}
use Rattle.dq_dataset.specs.Tree.{no_elements}
use Rattle.dq_dimse.specs.Received.{Message}
use Rattle.dq_config.specs.Limits.{Limits}
use Rattle.dq_tables.specs.declared.row.Kind.{Kind}
use Rattle.dq_tables.specs.declared.row.Kind.TheVariants.{Study, Series, Image}
use Rattle.dq_tables.specs.Rows.{Record, Place, Edit, Put, record_place, place_order, kind_order, octet_order, number_of_kind, records_before, records_past, edited_by, records_after_edits, of, by, after, IsRising}
use Rattle.dq_tables.specs.Lookups.{record_at, same_kind}
use Rattle.dq_tables.specs.declared.row.Row.{Row}
use Rattle.dq_tables.proofs.Lens.{others}
use Rattle.dq_tables.proofs.InOrder.{is_eq_then, is_eq_nat}
use Rattle.dq_tables.specs.ServiceEffects.{first_refusal, refusal_or}
use Rattle.dq_store.specs.CStore.{Instance, Kept, kept_among, instance_in, storage_refusals, study_record, series_record, image_record, put_new, stored_status, stored_edits, store_outcome}
use Rattle.std.specs.Option.{option_or}
use Rattle.std.proofs.lemmas.List.Folds.{find-append}
use Rattle.dq_list.proofs.Finding.{found_filtered, none_filtered}
use Rattle.dq_store.proofs.Fitting.{none_in_front}

places_total : IsTotalOrder place_order
places_total = then_total (on_total (λ (p : Place). number_of_kind p.kind) nat_cmp_total) (on_total (λ (p : Place). p.key) nat_list_cmp_total)

abbrev stands_at : Place → Record → Bool
stands_at q r = is_eq (place_order (record_place r) q)

found_there : (q : Place) (r : Record) → (same_kind r.kind q.kind && bytes_eq r.key q.key) ≡ stands_at q r
found_there q r =
    sym (is_eq_then (kind_order r.kind q.kind) (octet_order r.key q.key)
    ∙ ap (λ (b : Bool). is_eq (kind_order r.kind q.kind) && b) (is_eq-slice_cmp r.key q.key)
    ∙ ap (λ (b : Bool). b && bytes_eq r.key q.key) (is_eq_nat (number_of_kind r.kind) (number_of_kind q.kind)))

record_at_is : (q : Place) (records : List Record) → record_at q.kind q.key records ≡ find (stands_at q) records
unfolding record_at
record_at_is q [] = refl
record_at_is q (r ∷ records) = rw (found_there q r) (ap (λ (o : Option Record). if stands_at q r then Some r else o) (record_at_is q records))

-- ---- finding in parts of a list

or_none : {X : Type 0} (o : Option X) → option_or o None ≡ o
or_none None = refl
or_none (Some x) = refl

none_behind : {X : Type 0} (t : X → Bool) (xs ys : List X) → find t ys ≡ None → find t (xs ++ ys) ≡ find t xs
none_behind t xs ys none = find-append t xs ys ∙ ap (option_or (find t xs)) none ∙ or_none (find t xs)

is_equal : (o : Ordering) → is_eq o ≡ true → o ≡ Equal
is_equal Less e = cc
is_equal Equal e = refl
is_equal Greater e = cc

none_of : {X : Type 0} (o : Option X) → is_some o ≡ false → o ≡ None
none_of None h = refl
none_of (Some x) h = cc

is_eq_reverse : (o : Ordering) → is_eq (ordering_reverse o) ≡ is_eq o
is_eq_reverse Less = refl
is_eq_reverse Equal = refl
is_eq_reverse Greater = refl

find_agree : {X : Type 0} (t u : X → Bool) → ((x : X) → t x ≡ u x) → (xs : List X) → find t xs ≡ find u xs
find_agree t u same [] = refl
find_agree t u same (x ∷ xs) = rw (same x) (ap (λ o. if u x then Some x else o) (find_agree t u same xs))

one_alone : (q : Place) (new : Record) → stands_at q new ≡ false → find (stands_at q) (new ∷ []) ≡ None
one_alone q new other = rw other refl

-- ---- a record that is put

module _ (new : Record) where
  abbrev at_new : Place
  at_new = record_place new

  order_of : (q : Place) (r : Record) → stands_at q r ≡ true → place_order (record_place r) at_new ≡ place_order q at_new
  order_of q r here = places_total.congr (record_place r) q at_new (is_equal (place_order (record_place r) q) here)

  stays_by : (q : Place) (records : List Record) (o : Ordering) → place_order q at_new ≡ o → is_eq o ≡ false → stands_at q new ≡ false
      → find (stands_at q) (records_before at_new records ++ (new ∷ []) ++ records_past at_new records) ≡ find (stands_at q) records
  stays_by q records Less e other apart =
      let past = none_filtered (stands_at q) (λ (r : Record). is_gt (place_order (record_place r) at_new))
      (λ (r : Record) here. ap is_gt (order_of q r here ∙ e)) records in
      let before = found_filtered (stands_at q) (λ (r : Record). is_lt (place_order (record_place r) at_new))
      (λ (r : Record) here. ap is_lt (order_of q r here ∙ e)) records in
      none_behind (stands_at q) (records_before at_new records ++ (new ∷ [])) (records_past at_new records) past
      ∙ none_behind (stands_at q) (records_before at_new records) (new ∷ []) (one_alone q new apart) ∙ before
  stays_by q records Equal e other apart = cc
  stays_by q records Greater e other apart =
      let past = found_filtered (stands_at q) (λ (r : Record). is_gt (place_order (record_place r) at_new))
      (λ (r : Record) here. ap is_gt (order_of q r here ∙ e)) records in
      let before = none_filtered (stands_at q) (λ (r : Record). is_lt (place_order (record_place r) at_new))
      (λ (r : Record) here. ap is_lt (order_of q r here ∙ e)) records in
      let front = none_behind (stands_at q) (records_before at_new records) (new ∷ []) (one_alone q new apart) ∙ before in
      none_in_front (stands_at q) (records_before at_new records ++ (new ∷ [])) (records_past at_new records) front ∙ past

  elsewhere_stays : (q : Place) (records : List Record) → stands_at q new ≡ false → is_eq (place_order q at_new) ≡ false
      → record_at q.kind q.key (edited_by (Put new) records) ≡ record_at q.kind q.key records
  unfolding edited_by
  elsewhere_stays q records apart other =
      record_at_is q (edited_by (Put new) records) ∙ stays_by q records (place_order q at_new) refl other apart ∙ sym (record_at_is q records)

  other_way : (q : Place) → is_eq (place_order at_new q) ≡ false → is_eq (place_order q at_new) ≡ false
  other_way q e = ap is_eq (places_total.antisymm q at_new) ∙ is_eq_reverse (place_order at_new q) ∙ e

  -- a record that is kept stays where one is put whose place is free
  kept_by : (q : Place) (r : Record) (records : List Record) (b : Bool) → stands_at q new ≡ b → record_at new.kind new.key records ≡ None
      → record_at q.kind q.key records ≡ Some r → record_at q.kind q.key (edited_by (Put new) records) ≡ Some r
  kept_by q r records true e free kept =
      let same : place_order at_new q ≡ Equal = is_equal (place_order at_new q) e in
      let tests : (x : Record) → stands_at at_new x ≡ stands_at q x = λ x. ap is_eq (alike_right places_total at_new q (record_place x) same) in
      let found : record_at q.kind q.key records ≡ None = record_at_is q records ∙ sym (find_agree (stands_at at_new) (stands_at q) tests records)
      ∙ sym (record_at_is at_new records) ∙ free in
      let clash : None ≡ Some r = sym found ∙ kept in
      cc
  kept_by q r records false e free kept = elsewhere_stays q records e (other_way q e) ∙ kept

  -- what is put is found
  pub put_here : (records : List Record) → record_at new.kind new.key (edited_by (Put new) records) ≡ Some new
  unfolding edited_by
  put_here records =
      let same : place_order at_new at_new ≡ Equal = tied_itself places_total at_new in
      let before = none_filtered (stands_at at_new) (λ (r : Record). is_lt (place_order (record_place r) at_new))
      (λ (r : Record) here. ap is_lt (order_of at_new r here ∙ same)) records in
      let past = none_filtered (stands_at at_new) (λ (r : Record). is_gt (place_order (record_place r) at_new))
      (λ (r : Record) here. ap is_gt (order_of at_new r here ∙ same)) records in
      let alone : find (stands_at at_new) (new ∷ []) ≡ Some new = rw same refl in
      record_at_is at_new (edited_by (Put new) records)
      ∙ none_behind (stands_at at_new) (records_before at_new records ++ (new ∷ [])) (records_past at_new records) past
      ∙ none_in_front (stands_at at_new) (records_before at_new records) (new ∷ []) before ∙ alone

edited_append : (es fs : List Edit) (records : List Record) → records_after_edits (es ++ fs) records ≡ records_after_edits fs (records_after_edits es records)
edited_append [] fs records = refl
edited_append (e ∷ es) fs records = edited_append es fs (edited_by e records)

-- ---- what is put where none was kept

KeptStays : List Record → List Record → Type 0
KeptStays records more = (kind : Kind) (key : List ℕ) (r : Record) → record_at kind key records ≡ Some r → record_at kind key more ≡ Some r

new_stays : (k : Option Record) (new : Record) (records : List Record) → record_at new.kind new.key records ≡ k
    → KeptStays records (records_after_edits (put_new k new) records)
unfolding KeptStays
new_stays None new records free = λ kind key r kept.
    (let q : Place = record { kind = kind; key = key } in kept_by new q r records (stands_at q new) refl free kept)
new_stays (Some k) new records there = λ kind key r kept. kept

elsewhere : (k : Option Record) (new : Record) (q : Place) (records : List Record) → stands_at q new ≡ false → is_eq (place_order q (record_place new)) ≡ false
    → record_at q.kind q.key (records_after_edits (put_new k new) records) ≡ record_at q.kind q.key records
elsewhere None new q records apart other = elsewhere_stays new q records apart other
elsewhere (Some k) new q records apart other = refl

module _ (records : List Record) (sending : Instance) where
  abbrev at_series : Place
  at_series = record { kind = Series; key = sending.series }

  abbrev at_image : Place
  at_image = record { kind = Image; key = sending.image }

  all_new : (ks kr : Option Record) → record_at Study sending.study records ≡ ks → record_at Series sending.series records ≡ kr
      → record_at Image sending.image records ≡ None
      → KeptStays records (records_after_edits (put_new ks (study_record sending) ++ (put_new kr (series_record sending) ++ Put (image_record sending) ∷ [])) records)
  unfolding KeptStays
  all_new ks kr study series image = λ kind key x kept.
      let first = records_after_edits (put_new ks (study_record sending)) records in
      let second = records_after_edits (put_new kr (series_record sending)) first in
      let parts = edited_append (put_new ks (study_record sending)) (put_new kr (series_record sending) ++ Put (image_record sending) ∷ []) records
      ∙ edited_append (put_new kr (series_record sending)) (Put (image_record sending) ∷ []) first in
      let series_first = elsewhere ks (study_record sending) at_series records refl refl ∙ series in
      let image_free = elsewhere kr (series_record sending) at_image first refl refl ∙ elsewhere ks (study_record sending) at_image records refl refl ∙ image in
      rw parts (new_stays None (image_record sending) second image_free kind key x (new_stays kr (series_record sending) first series_first kind key x
      (new_stays ks (study_record sending) records study kind key x kept)))

  abbrev pub all_put : Option Record → Option Record → List Record
  all_put ks kr = records_after_edits (put_new ks (study_record sending) ++ (put_new kr (series_record sending) ++ Put (image_record sending) ∷ [])) records

  -- what is put of an instance that is new is found
  module _ (ks kr : Option Record) (study : record_at Study sending.study records ≡ ks) (series : record_at Series sending.series records ≡ kr)
      (image : record_at Image sending.image records ≡ None) where
    abbrev with_study : List Record
    with_study = records_after_edits (put_new ks (study_record sending)) records

    abbrev with_series : List Record
    with_series = records_after_edits (put_new kr (series_record sending)) with_study

    in_parts : all_put ks kr ≡ edited_by (Put (image_record sending)) with_series
    in_parts =
        edited_append (put_new ks (study_record sending)) (put_new kr (series_record sending) ++ Put (image_record sending) ∷ []) records
        ∙ edited_append (put_new kr (series_record sending)) (Put (image_record sending) ∷ []) with_study

    series_free : record_at Series sending.series with_study ≡ kr
    series_free = elsewhere ks (study_record sending) at_series records refl refl ∙ series

    image_free : record_at Image sending.image with_series ≡ None
    image_free =
        elsewhere kr (series_record sending) at_image with_study refl refl ∙ elsewhere ks (study_record sending) at_image records refl refl ∙ image

    stays_in_image : KeptStays with_series (records_after_edits (put_new None (image_record sending)) with_series)
    stays_in_image = new_stays None (image_record sending) with_series image_free

    pub image_put : record_at Image sending.image (all_put ks kr) ≡ Some (image_record sending)
    image_put = ap (record_at Image sending.image) in_parts ∙ put_here (image_record sending) with_series

    pub series_put : kr ≡ None → record_at Series sending.series (all_put ks kr) ≡ Some (series_record sending)
    unfolding KeptStays
    series_put none =
        let put = ap (λ (k : Option Record). record_at Series sending.series (records_after_edits (put_new k (series_record sending)) with_study)) none
        ∙ put_here (series_record sending) with_study in
        ap (record_at Series sending.series) in_parts ∙ stays_in_image Series sending.series (series_record sending) put

    pub study_put : ks ≡ None → record_at Study sending.study (all_put ks kr) ≡ Some (study_record sending)
    unfolding KeptStays
    study_put none =
        let put = ap (λ (k : Option Record). record_at Study sending.study (records_after_edits (put_new k (study_record sending)) records)) none
        ∙ put_here (study_record sending) records in
        ap (record_at Study sending.study) in_parts
        ∙ stays_in_image Study sending.study (study_record sending)
        (new_stays kr (series_record sending) with_study series_free Study sending.study (study_record sending) put)

  stays_by_kept : (kept : Kept) → kept ≡ kept_among records sending → (b : Bool) → is_some kept.image ≡ b
      → KeptStays records (records_after_edits (stored_edits kept sending) records)
  unfolding KeptStays stored_edits
  stays_by_kept kept found true there = λ kind key x k. rw there k
  stays_by_kept kept found false new = λ kind key x k.
      rw new (all_new kept.study kept.series (sym (ap (λ (y : Kept). y.study) found)) (sym (ap (λ (y : Kept). y.series) found))
      (sym (ap (λ (y : Kept). y.image) found) ∙ none_of kept.image new) kind key x k)

-- what is kept stays where an instance is stored
pub kept_stays_by : (records : List Record) (sent : Instance) (kind : Kind) (key : List ℕ) (r : Record) → record_at kind key records ≡ Some r
    → record_at kind key (records_after_edits (stored_edits (kept_among records sent) sent) records) ≡ Some r
unfolding KeptStays
kept_stays_by records sent = stays_by_kept records sent (kept_among records sent) refl _ refl

outcome_stays : (records : List Record) (refusal : Option ℕ) (sent : Instance)
    → KeptStays records (records_after_edits (refusal_or refusal (stored_status (kept_among records sent) sent, stored_edits (kept_among records sent) sent)).1 records)
unfolding KeptStays
outcome_stays records (Some status) sent = λ kind key x k. k
outcome_stays records None sent = stays_by_kept records sent (kept_among records sent) refl _ refl

-- A record that is kept is kept afterwards, as it was.
pub kept_stays : (limits : Limits) (records : List Record) (message : Message) (syntax : Syntax) (kind : Kind) (key : List ℕ) (r : Record)
    → record_at kind key records ≡ Some r → record_at kind key (records_after_edits (store_outcome limits records message syntax).1 records) ≡ Some r
unfolding KeptStays store_outcome
kept_stays limits records message syntax =
    let data_set = data_set_read syntax message.octets in
    outcome_stays records (first_refusal (storage_refusals limits records message data_set)) (instance_in (result_unwrap_or data_set no_elements))

-- ---- institutions

-- The records of every other institution stay.
pub others_stay : (g h : List ℕ) → h ≢ g → (limits : Limits) (rows : List Row) (message : Message) (syntax : Syntax) → IsRising rows
    → of g (after (by h (store_outcome limits (of h rows) message syntax).1) rows) ≡ of g rows
others_stay g h apart limits rows message syntax rising = others g h apart (store_outcome limits (of h rows) message syntax).1 rows rising

-- What another institution keeps does not enter.
pub own_records_decide : (g h : List ℕ) → g ≢ h → (es : List Edit) (limits : Limits) (rows : List Row) (message : Message) (syntax : Syntax) → IsRising rows
    → store_outcome limits (of h (after (by g es) rows)) message syntax ≡ store_outcome limits (of h rows) message syntax
own_records_decide g h apart es limits rows message syntax rising = ap (λ records. store_outcome limits records message syntax) (others h g apart es rows rising)
