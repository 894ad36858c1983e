-- Rows seen through one institution's name.
use Rattle.std.proofs.Common.{◌≡◌, ℕ, Bool, true, false, List, [], ◌∷◌, ◌++◌, map, Option, Some, None, refl, sym, ◌∙◌, ap, subst, ◌≢◌, arith}
use Rattle.std.specs.declared.cmp.Ordering.{Ordering}
use Rattle.std.specs.declared.cmp.Ordering.TheVariants.{Less, Equal, Greater}
use Rattle.std.specs.Ordering.{is_lt, is_eq, is_gt, ordering_then}
use Rattle.std.specs.List.{filter, AllByRecursion}
use Rattle.std.specs.Str.{bytes_eq}
use Rattle.std.proofs.lemmas.Cmp.{nat_list_cmp_total, tied_itself}
use Rattle.std.proofs.lemmas.List.Elements.{filter-append}
use Rattle.std.proofs.lemmas.Slice.Eq.{bytes_eq-Decides}
use Rattle.std.proofs.lemmas.List.{map-append}
use Rattle.std.proofs.lemmas.Map.Text.{is_eq-slice_cmp}
use Rattle.std.proofs.lemmas.Bool.{false_from_ne_true, both_ways}
use Rattle.dq_tables.specs.declared.row.Row.{Row}
use Rattle.dq_tables.specs.Rows.{Record, Place, record_place, place_order, records_before, records_past, Edit, Put, Remove, Start, edit_place, left_there, records_after_edit, record_at, edited_by, records_after_edits, row_of, record_of, of, RowPlace, row_place_of, within, row_place_order, IsRising, rows_before, rows_past, after_edit, after_edits, Operation, by, after, after_all, edited_all, own_edits}
use Rattle.dq_tables.proofs.EditPlaces.{StandsAt, stands_there}
use Rattle.dq_tables.proofs.Order.{rows_total, less_from, each_weaker, each_passed, each_appended, IsRising-split, IsRising-filter, IsRising-append, is_at, is_before, is_past, filter_none}

then_equal : (o : Ordering) → ordering_then o Equal ≡ o
then_equal Less = refl
then_equal Equal = refl
then_equal Greater = refl

same_place : (h : List ℕ) (row : Row) (p : Place) → row.inst ≡ h → row_place_order (row_place_of row) (within h p) ≡ place_order (record_place (record_of row)) p
same_place h row p e = grind (arith, tied_itself, nat_list_cmp_total, then_equal)

-- a test of rows that agrees with one of records at an institution's rows
of-filter_step : (h : List ℕ) (p : Row → Bool) (q : Record → Bool) (row : Row) (rows : List Row) → (row.inst ≡ h → p row ≡ q (record_of row))
    → of h (filter p rows) ≡ filter q (of h rows) → (b m : Bool) → p row ≡ b → bytes_eq row.inst h ≡ m
    → of h (filter p (row ∷ rows)) ≡ filter q (of h (row ∷ rows))
unfolding of
of-filter_step h p q row rows same rest true true e m = grind (arith, bytes_eq-Decides)
of-filter_step h p q row rows same rest false true e m = grind (arith, bytes_eq-Decides)
of-filter_step h p q row rows same rest true false e m = rw (e, m) rest
of-filter_step h p q row rows same rest false false e m = rw (e, m) rest

pub of-filter : (h : List ℕ) (p : Row → Bool) (q : Record → Bool) → ((row : Row) → row.inst ≡ h → p row ≡ q (record_of row)) → (rows : List Row)
    → of h (filter p rows) ≡ filter q (of h rows)
unfolding of
of-filter h p q same [] = refl
of-filter h p q same (row ∷ rows) = of-filter_step h p q row rows (same row) (of-filter h p q same rows) (p row) (bytes_eq row.inst h) refl refl

pub of-append : (h : List ℕ) (xs ys : List Row) → of h (xs ++ ys) ≡ of h xs ++ of h ys
unfolding of
of-append h xs ys = rw filter-append (map-append record_of (filter (λ (row : Row). bytes_eq row.inst h) xs) (filter (λ (row : Row). bytes_eq row.inst h) ys))

of_own : (h : List ℕ) (rs : List Record) → of h (map (row_of h) rs) ≡ rs
unfolding of
of_own h [] = refl
of_own h (r ∷ rs) = rw ((bytes_eq-Decides h h).1 refl) (ap (λ (ts : List Record). r ∷ ts) (of_own h rs))

of_other : (g h : List ℕ) → h ≢ g → (rs : List Record) → of g (map (row_of h) rs) ≡ []
unfolding of
of_other g h other [] = refl
of_other g h other (r ∷ rs) = rw (false_from_ne_true (bytes_eq h g) (λ same. other ((bytes_eq-Decides h g).0 same))) (of_other g h other rs)

lens_edit : (h : List ℕ) (e : Edit) (rows : List Row) → of h (after_edit h e rows) ≡ edited_by e (of h rows)
unfolding after_edit edited_by
lens_edit h e rows =
    let p = edit_place e in
    let before : of h (rows_before (within h p) rows) ≡ records_before p (of h rows) =
    of-filter h _ (λ (r : Record). is_lt (place_order (record_place r) p)) (λ (row : Row) same. ap is_lt (same_place h row p same)) rows in
    let past : of h (rows_past (within h p) rows) ≡ records_past p (of h rows) =
    of-filter h _ (λ (r : Record). is_gt (place_order (record_place r) p)) (λ (row : Row) same. ap is_gt (same_place h row p same)) rows in
    rw (of-append, of-append, before, past, of_own) refl

pub lens : (h : List ℕ) (es : List Edit) (rows : List Row) → of h (after (by h es) rows) ≡ records_after_edits es (of h rows)
lens h [] rows = refl
lens h (e ∷ es) rows = lens h es (after_edit h e rows) ∙ ap (records_after_edits es) (lens_edit h e rows)

is_eq_parts : (a b : Ordering) → is_eq (ordering_then a b) ≡ true → (is_eq a ≡ true) × (is_eq b ≡ true)
is_eq_parts Less b e = cc
is_eq_parts Equal b e = (refl, e)
is_eq_parts Greater b e = cc

-- a row at a place of h is h's
at_place : (h : List ℕ) (p : Place) (row : Row) → is_at (within h p) row ≡ true → row.inst ≡ h
at_place h p row at = grind (arith, is_eq_parts, bytes_eq-Decides, is_eq-slice_cmp)

of_at : (g h : List ℕ) → h ≢ g → (p : Place) (rows : List Row) → of g (filter (is_at (within h p)) rows) ≡ []
unfolding of
of_at g h other p rows =
    rw (filter_none (λ (row : Row). bytes_eq row.inst g) (filter (is_at (within h p)) rows)
    (each_passed (λ (row : Row). bytes_eq row.inst g ≡ false) (is_at (within h p))
    (λ (row : Row) at. false_from_ne_true (bytes_eq row.inst g) (λ same. other (sym (at_place h p row at) ∙ (bytes_eq-Decides row.inst g).0 same))) rows))

others_edit : (g h : List ℕ) → h ≢ g → (e : Edit) (rows : List Row) → IsRising rows → of g (after_edit h e rows) ≡ of g rows
unfolding after_edit
others_edit g h other e rows rising =
    let p = within h (edit_place e) in
    let split = IsRising-split p rows rising in
    let left = records_after_edit e (of h rows) in
    of-append g (rows_before p rows ++ map (row_of h) left) (rows_past p rows)
    ∙ ap (λ (rs : List Record). rs ++ of g (rows_past p rows)) (of-append g (rows_before p rows) (map (row_of h) left))
    ∙ ap (λ (rs : List Record). of g (rows_before p rows) ++ rs ++ of g (rows_past p rows)) (of_other g h other left
    ∙ sym (of_at g h other (edit_place e) rows))
    ∙ sym (ap (λ (rs : List Record). rs ++ of g (rows_past p rows)) (of-append g (rows_before p rows) (filter (is_at p) rows)))
    ∙ sym (of-append g (rows_before p rows ++ filter (is_at p) rows) (rows_past p rows))
    ∙ ap (of g) (sym split)

is_lt_less : (o : Ordering) → is_lt o ≡ true → o ≡ Less
is_lt_less Less e = refl
is_lt_less Equal e = cc
is_lt_less Greater e = cc

is_gt_greater : (o : Ordering) → is_gt o ≡ true → o ≡ Greater
is_gt_greater Less e = cc
is_gt_greater Equal e = cc
is_gt_greater Greater e = refl

before_is : (p : RowPlace) (rows : List Row) → AllByRecursion (λ (x : Row). row_place_order (row_place_of x) p ≡ Less) (rows_before p rows)
before_is p rows = each_passed (λ (x : Row). row_place_order (row_place_of x) p ≡ Less) (is_before p) (λ (x : Row) e. is_lt_less _ e) rows

past_is : (p : RowPlace) (rows : List Row) → AllByRecursion (λ (x : Row). row_place_order p (row_place_of x) ≡ Less) (rows_past p rows)
past_is p rows = each_passed (λ (x : Row). row_place_order p (row_place_of x) ≡ Less) (is_past p)
    (λ (x : Row) e. less_from (row_place_of x) p (is_gt_greater _ e)) rows

past_later : (p : RowPlace) (x : Row) → row_place_order (row_place_of x) p ≡ Less → (rows : List Row)
    → AllByRecursion (λ (y : Row). row_place_order (row_place_of x) (row_place_of y) ≡ Less) (rows_past p rows)
past_later p x less rows =
    each_weaker (λ (y : Row). row_place_order p (row_place_of y) ≡ Less) (λ (y : Row). row_place_order (row_place_of x) (row_place_of y) ≡ Less)
    (λ (y : Row) past. rows_total.trans (row_place_of x) p (row_place_of y) less past) (rows_past p rows) (past_is p rows)

left_rises : (h : List ℕ) (e : Edit) (there : Option Record) → IsRising (map (row_of h) (left_there e there))
unfolding IsRising
left_rises h (Put r) there = (tt, tt)
left_rises h (Remove kind key) there = tt
left_rises h (Start key) None = tt
left_rises h (Start key) (Some r) = (tt, tt)

left_past : (h : List ℕ) (e : Edit) (there : Option Record) → StandsAt (edit_place e) there → (x : Row)
    → row_place_order (row_place_of x) (within h (edit_place e)) ≡ Less
    → AllByRecursion (λ (y : Row). row_place_order (row_place_of x) (row_place_of y) ≡ Less) (map (row_of h) (left_there e there))
left_past h (Put r) there stands x less = (less, tt)
left_past h (Remove kind key) there stands x less = tt
left_past h (Start key) None stands x less = tt
left_past h (Start key) (Some r) stands x less =
    (subst (λ (p : Place). row_place_order (row_place_of x) (within h p) ≡ Less) (sym stands) less, tt)

left_before : (h : List ℕ) (e : Edit) (there : Option Record) → StandsAt (edit_place e) there → (rows : List Row)
    → AllByRecursion (λ (x : Row). AllByRecursion (λ (y : Row). row_place_order (row_place_of x) (row_place_of y) ≡ Less)
    (rows_past (within h (edit_place e)) rows)) (map (row_of h) (left_there e there))
left_before h (Put r) there stands rows = (past_is (within h (record_place r)) rows, tt)
left_before h (Remove kind key) there stands rows = tt
left_before h (Start key) None stands rows = tt
left_before h (Start key) (Some r) stands rows = (
  subst (λ (p : Place). AllByRecursion (λ (y : Row). row_place_order (within h p) (row_place_of y) ≡ Less) (rows_past (within h (edit_place (Start key))) rows))
      (sym stands) (past_is (within h (edit_place (Start key))) rows),
  tt,
)

pub rising_edit : (h : List ℕ) (e : Edit) (rows : List Row) → IsRising rows → IsRising (after_edit h e rows)
unfolding after_edit
rising_edit h e rows rising =
    let p = within h (edit_place e) in
    let there = record_at (edit_place e).kind (edit_place e).key (of h rows) in
    let stands = stands_there (edit_place e) (of h rows) in
    IsRising-append (rows_before p rows ++ map (row_of h) (left_there e there)) (rows_past p rows)
    (IsRising-append (rows_before p rows) (map (row_of h) (left_there e there)) (IsRising-filter (is_before p) rows rising) (left_rises h e there)
    (each_weaker (λ (x : Row). row_place_order (row_place_of x) p ≡ Less) _ (λ (x : Row) less. left_past h e there stands x less) (rows_before p rows)
    (before_is p rows)))
    (IsRising-filter (is_past p) rows rising)
    (each_appended _ (rows_before p rows) (map (row_of h) (left_there e there))
    (each_weaker (λ (x : Row). row_place_order (row_place_of x) p ≡ Less) _ (λ (x : Row) less. past_later p x less rows) (rows_before p rows)
    (before_is p rows))
    (left_before h e there stands rows))

rising_edits : (h : List ℕ) (es : List Edit) (rows : List Row) → IsRising rows → IsRising (after_edits h es rows)
rising_edits h [] rows r = r
rising_edits h (e ∷ es) rows r = rising_edits h es (after_edit h e rows) (rising_edit h e rows r)

pub rising : (o : Operation) (rows : List Row) → IsRising rows → IsRising (after o rows)
rising o rows r = rising_edits o.institution o.edits rows r

others_edits : (g h : List ℕ) → h ≢ g → (es : List Edit) (rows : List Row) → IsRising rows → of g (after_edits h es rows) ≡ of g rows
others_edits g h other [] rows r = refl
others_edits g h other (e ∷ es) rows r = others_edits g h other es (after_edit h e rows) (rising_edit h e rows r) ∙ others_edit g h other e rows r

pub others : (g h : List ℕ) → h ≢ g → (es : List Edit) (rows : List Row) → IsRising rows → of g (after (by h es) rows) ≡ of g rows
others g h other es rows r = others_edits g h other es rows r

-- the same of operations in turn
pub lens_all : (h : List ℕ) (changes : List (List Edit)) (rows : List Row) → of h (after_all (map (by h) changes) rows) ≡ edited_all changes (of h rows)
lens_all h [] rows = refl
lens_all h (es ∷ more) rows = lens_all h more (after (by h es) rows) ∙ ap (edited_all more) (lens h es rows)

pub others_all : (g h : List ℕ) → h ≢ g → (changes : List (List Edit)) (rows : List Row) → IsRising rows
    → of g (after_all (map (by h) changes) rows) ≡ of g rows
others_all g h other [] rows r = refl
others_all g h other (es ∷ more) rows r = others_all g h other more (after (by h es) rows) (rising (by h es) rows r) ∙ others g h other es rows r

pub rising_all : (os : List Operation) (rows : List Row) → IsRising rows → IsRising (after_all os rows)
rising_all [] rows r = r
rising_all (o ∷ os) rows r = rising_all os (after o rows) (rising o rows r)

own_step : (h : List ℕ) (o : Operation) (os : List Operation) (rows : List Row) → IsRising rows → (b : Bool) → bytes_eq o.institution h ≡ b
    → of h (after_all os (after o rows)) ≡ edited_all (own_edits h os) (of h (after o rows))
    → of h (after_all (o ∷ os) rows) ≡ edited_all (own_edits h (o ∷ os)) (of h rows)
own_step h o os rows r true e rest = grind (arith, bytes_eq-Decides, lens)
own_step h o os rows r false e rest = grind (arith, others_edits, both_ways, bytes_eq-Decides)

-- an institution's records after operations of several
pub own_all : (h : List ℕ) (os : List Operation) (rows : List Row) → IsRising rows → of h (after_all os rows) ≡ edited_all (own_edits h os) (of h rows)
own_all h [] rows r = refl
own_all h (o ∷ os) rows r = own_step h o os rows r (bytes_eq o.institution h) refl (own_all h os (after o rows) (rising o rows r))
