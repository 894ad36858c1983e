-- Rows in order, by their indexes.
use Rattle.std.proofs.Common.{◌≡◌, ℕ, zero, suc, ◌+◌, ◌<◌, ◌≤◌, Bool, true, false, ◌&&◌, List, [], ◌∷◌, length, get_or, take, drop, slice_get, Option, Some, None, Result, Ok, Err, MatchResult, refl, sym, ◌∙◌, ap, find, rules, arith, ◌⊎◌, inl, inr, nat_eq, if◌then◌else◌}
use Rattle.std.specs.declared.cmp.Ordering.{Ordering}
use Rattle.std.specs.declared.cmp.Ordering.TheVariants.{Less, Equal, Greater}
use Rattle.std.specs.Ordering.{is_lt, is_eq, is_gt, ordering_index, ordering_then, nat_cmp}
use Rattle.std.specs.List.{filter, AllByRecursion}
use Rattle.std.specs.List.Sorted.{IsSearchInRange, IsBinarySearchResult, IsNonDecreasingBy}
use Rattle.std.specs.Str.{bytes_eq}
use Rattle.std.proofs.lemmas.Bool.{cases_lt}
use Rattle.std.proofs.lemmas.Bool.Decides.{nat_tests}
use Rattle.std.proofs.lemmas.Cmp.{alike_right}
use Rattle.std.proofs.lemmas.Map.Text.{is_eq-slice_cmp}
use Rattle.dq_tables.specs.declared.row.Row.{Row}
use Rattle.dq_tables.specs.Rows.{RowPlace, row_place_order, row_place_of, IsRising}
use Rattle.dq_tables.specs.Lookups.{IsAtIndex, IsFree, row_at, is_of_kind}
use Rattle.dq_tables.proofs.Order.{rows_total, greater_from, less_from, is_before, is_past, is_at}

pub filter_front : {X : Type 0} (p : X → Bool) (xs : List X) (i : ℕ) → ((k : ℕ) (d : X) → k < i → k < length xs → p (get_or xs k d) ≡ true)
    → ((k : ℕ) (d : X) → i ≤ k → k < length xs → p (get_or xs k d) ≡ false) → take i xs ≡ filter p xs
filter_front p [] zero front back = refl
filter_front p [] (suc i) front back = refl
filter_front p (x ∷ xs) zero front back = rw (back 0 x (omega arith) (omega arith))
    (filter_front p xs 0 (λ k d l w. absurd (omega arith)) (λ k d l w. back (suc k) d (omega arith) (omega arith)))
filter_front p (x ∷ xs) (suc i) front back = rw (front 0 x (omega arith) (omega arith))
    (ap (λ ys. x ∷ ys) (filter_front p xs i (λ k d l w. front (suc k) d (omega arith) (omega arith)) (λ k d l w. back (suc k) d (omega arith) (omega arith))))

filter_back : {X : Type 0} (p : X → Bool) (xs : List X) (i : ℕ) → ((k : ℕ) (d : X) → k < i → k < length xs → p (get_or xs k d) ≡ false)
    → ((k : ℕ) (d : X) → i ≤ k → k < length xs → p (get_or xs k d) ≡ true) → drop i xs ≡ filter p xs
filter_back p [] zero front back = refl
filter_back p [] (suc i) front back = refl
filter_back p (x ∷ xs) zero front back = rw (back 0 x (omega arith) (omega arith))
    (ap (λ ys. x ∷ ys) (filter_back p xs 0 (λ k d l w. absurd (omega arith)) (λ k d l w. back (suc k) d (omega arith) (omega arith))))
filter_back p (x ∷ xs) (suc i) front back = rw (front 0 x (omega arith) (omega arith))
    (filter_back p xs i (λ k d l w. front (suc k) d (omega arith) (omega arith)) (λ k d l w. back (suc k) d (omega arith) (omega arith)))

find_at : {X : Type 0} (p : X → Bool) (xs : List X) (i : ℕ) → i < length xs → ((k : ℕ) (d : X) → k < i → p (get_or xs k d) ≡ false)
    → ((d : X) → p (get_or xs i d) ≡ true) → find p xs ≡ slice_get xs i
find_at p [] i within front here = absurd (omega arith)
find_at p (x ∷ xs) zero within front here = rw (here x) refl
find_at p (x ∷ xs) (suc i) within front here = rw (front 0 x (omega arith)) (find_at p xs i (omega arith) (λ k d l. front (suc k) d (omega arith)) here)

find_none : {X : Type 0} (p : X → Bool) (xs : List X) → ((k : ℕ) (d : X) → k < length xs → p (get_or xs k d) ≡ false) → find p xs ≡ None
find_none p [] none = refl
find_none p (x ∷ xs) none = rw (none 0 x (omega arith)) (find_none p xs (λ k d l. none (suc k) d (omega arith)))

each_at : {X : Type 0} (P : X → Type 0) (xs : List X) → AllByRecursion P xs → (k : ℕ) (d : X) → k < length xs → P (get_or xs k d)
each_at P [] h k d l = absurd (omega arith)
each_at P (x ∷ xs) h zero d l = h.0
each_at P (x ∷ xs) h (suc k) d l = each_at P xs h.1 k d (omega arith)

pub rising_at : (rows : List Row) → IsRising rows → (i j : ℕ) (d : Row) → i < j → j < length rows
    → row_place_order (row_place_of (get_or rows i d)) (row_place_of (get_or rows j d)) ≡ Less
unfolding IsRising
rising_at [] h i j d l w = absurd (omega arith)
rising_at (row ∷ rows) h zero zero d l w = absurd (omega arith)
rising_at (row ∷ rows) h zero (suc j) d l w = each_at (λ (later : Row). row_place_order (row_place_of row) (row_place_of later) ≡ Less) rows h.0 j d
    (omega arith)
rising_at (row ∷ rows) h (suc i) zero d l w = absurd (omega arith)
rising_at (row ∷ rows) h (suc i) (suc j) d l w = rising_at rows h.1 i j d (omega arith) (omega arith)

pub is_eq_then : (a b : Ordering) → is_eq (ordering_then a b) ≡ (is_eq a && is_eq b)
is_eq_then Less b = refl
is_eq_then Equal b = refl
is_eq_then Greater b = refl

pub is_eq_nat : (a b : ℕ) → is_eq (nat_cmp a b) ≡ nat_eq a b
is_eq_nat a b = grind (arith, nat_tests)

-- a row is found at a place where it stands there in the order
pub at_is_found : (p : RowPlace) (row : Row) → (is_of_kind p.kind p.institution row && bytes_eq row.key p.key) ≡ is_at p row
at_is_found p row = grind (arith, nat_tests, is_eq_then, is_eq-slice_cmp, is_eq_nat)

pub row_at_is : (p : RowPlace) (rows : List Row) → row_at p.kind p.institution p.key rows ≡ find (is_at p) rows
unfolding row_at
row_at_is p [] = refl
row_at_is p (row ∷ rows) = rw (at_is_found p row) (ap (λ (o : Option Row). if is_at p row then Some row else o) (row_at_is p rows))

-- how the answers rise with the rows
rises_with : (a b p : RowPlace) → row_place_order a b ≡ Less → (o : Ordering) → row_place_order a p ≡ o
    → ordering_index o ≤ ordering_index (row_place_order b p)
rises_with a b p less Less e = omega arith
rises_with a b p less Equal e = rw (greater_from p b (sym (rows_total.congr a p b e) ∙ less)) (omega arith)
rises_with a b p less Greater e = rw (greater_from p b (rows_total.trans p a b (less_from a p e) less)) (omega arith)

pub cases_le : (i j : ℕ) → i ≤ j → (i ≡ j) ⊎ (i < j)
cases_le i j h = search (rules, arith)

module _ (p : RowPlace) (rows : List Row) (rising : IsRising rows) where
  answers_rise : IsNonDecreasingBy (λ (row : Row). ordering_index (row_place_order (row_place_of row) p)) rows
  answers_rise i j d le within =
      elim (cases_le i j le) [
        | inl same ↦ rw same (omega arith)
        | inr less ↦ rises_with (row_place_of (get_or rows i d)) (row_place_of (get_or rows j d)) p (rising_at rows rising i j d less within)
            (row_place_order (row_place_of (get_or rows i d)) p) refl
      ]

  -- rows beside one that stands at the place
  less_before : (i k : ℕ) (d : Row) → i < length rows → row_place_order (row_place_of (get_or rows i d)) p ≡ Equal → k < i
      → row_place_order (row_place_of (get_or rows k d)) p ≡ Less
  less_before i k d within here before =
      let a = row_place_of (get_or rows k d) in
      let b = row_place_of (get_or rows i d) in
      sym (alike_right rows_total b p a here) ∙ rising_at rows rising k i d before within

  greater_after : (i k : ℕ) (d : Row) → k < length rows → row_place_order (row_place_of (get_or rows i d)) p ≡ Equal → i < k
      → row_place_order (row_place_of (get_or rows k d)) p ≡ Greater
  greater_after i k d within here after =
      let a = row_place_of (get_or rows i d) in
      let b = row_place_of (get_or rows k d) in
      greater_from p b (sym (rows_total.congr a p b here) ∙ rising_at rows rising i k d after within)

  not_less_from : (i k : ℕ) (d : Row) → k < length rows → row_place_order (row_place_of (get_or rows i d)) p ≡ Equal → i ≤ k
      → is_lt (row_place_order (row_place_of (get_or rows k d)) p) ≡ false
  not_less_from i k d within here le = grind (arith, nat_tests, cases_le, greater_after)

  not_greater_upto : (i k : ℕ) (d : Row) → i < length rows → row_place_order (row_place_of (get_or rows i d)) p ≡ Equal → k < i + 1
      → is_gt (row_place_order (row_place_of (get_or rows k d)) p) ≡ false
  not_greater_upto i k d within here le =
      elim (cases_le k i (omega arith)) [
        | inl same ↦ rw same (ap is_gt here)
        | inr less ↦ ap is_gt (less_before i k d within here less)
      ]

  elsewhere : (i : ℕ) → ((k : ℕ) (d : Row) → k < i → row_place_order (row_place_of (get_or rows k d)) p ≡ Less)
      → ((k : ℕ) (d : Row) → i ≤ k → k < length rows → row_place_order (row_place_of (get_or rows k d)) p ≡ Greater)
      → (k : ℕ) (d : Row) → k < length rows → is_at p (get_or rows k d) ≡ false
  elsewhere i less greater k d within = grind (arith, nat_tests, cases_lt)

  pub located_there : (i : ℕ) → i < length rows → ((d : Row) → row_place_order (row_place_of (get_or rows i d)) p ≡ Equal) → IsAtIndex p rows i
  located_there i within here = record {
    within = within;
    before = filter_front (is_before p) rows i (λ k d l w. ap is_lt (less_before i k d within (here d) l)) (λ k d l w. not_less_from i k d w (here d) l);
    past = filter_back (is_past p) rows (i + 1) (λ k d l w. not_greater_upto i k d within (here d) l)
        (λ k d l w. ap is_gt (greater_after i k d w (here d) (omega arith)));
    found = row_at_is p rows ∙ find_at (is_at p) rows i within (λ k d l. ap is_eq (less_before i k d within (here d) l)) (λ d. ap is_eq (here d));
  }

  pub located_free : (i : ℕ) → i ≤ length rows → ((k : ℕ) (d : Row) → k < i → row_place_order (row_place_of (get_or rows k d)) p ≡ Less)
      → ((k : ℕ) (d : Row) → i ≤ k → k < length rows → row_place_order (row_place_of (get_or rows k d)) p ≡ Greater) → IsFree p rows i
  located_free i within less greater =
      grind (arith, nat_tests, filter_front, is_before, filter_back, is_past, row_at_is, find_none, is_at, elsewhere)

  pub located : (r : Result ℕ ℕ) → IsSearchInRange r (length rows) → IsBinarySearchResult (λ (row : Row). row_place_order (row_place_of row) p) rows r
      → MatchResult r (IsAtIndex p rows) (IsFree p rows)
  located (Ok i) within here = located_there i within here
  located (Err i) within parted =
      let halves = parted answers_rise in
      located_free i within (λ k d l. halves.0 k d (omega arith) l) halves.1
