-- Found rows that are put in their places.
use Rattle.std.proofs.Common.{◌≡◌, ◌⊎◌, inl, inr, ℕ, zero, suc, ◌<◌, Bool, List, [], ◌∷◌, ◌++◌, map, length, slice_get, find, Option, Some, None, is_some, is_ok, true, false, Result, Ok, Err, MatchResult, refl, sym, ap, ◌∙◌, subst, arith}
use Rattle.std.specs.List.{AllByRecursion, IsDistinct, Contains}
use Rattle.std.specs.List.Sorted.{IsPermutation}
use Rattle.std.specs.Ordering.{is_eq, ordering_reverse}
use Rattle.std.specs.declared.cmp.Ordering.{Ordering}
use Rattle.std.specs.declared.cmp.Ordering.TheVariants.{Less, Equal, Greater}
use Rattle.std.proofs.lemmas.List.Sorted.{IsPermutation-sym, IsPermutation-trans, IsPermutation-cons, IsPermutation-refl, IsPermutation-to_front, Contains-permutation}
use Rattle.std.proofs.lemmas.Map.Keys.{IsDistinct-IsPermutation}
use Rattle.dq_list.specs.Octets.{AreOctets}
use Rattle.sqlite_value.specs.Order.{Row as Values}
use Rattle.dq_tables.specs.declared.row.Kind.{Kind}
use Rattle.dq_tables.specs.declared.row.Row.{Row}
use Rattle.dq_tables.specs.Rows.{IsRising, place, row_place_of, row_place_order, after_edit, Put, record_of}
use Rattle.dq_tables.specs.Lookups.{row_at, IsAtIndex, IsFree}
use Rattle.dq_tables.proofs.Order.{rows_total, is_at}
use Rattle.dq_tables.proofs.InOrder.{row_at_is}
use Rattle.dq_tables.proofs.OneOrder.{rising_distinct}
use Rattle.dq_tables.proofs.Members.{added_has}
use Rattle.dq_sql.specs.Tie.{row_of_cells}
use Rattle.dq_sql.specs.FoundStores.{HoldOctets, IsPlaceTaken, IsGood, AreGood}

within : {X : Type 0} (xs : List X) (at : ℕ) → at < length xs → is_some (slice_get xs at) ≡ true
within [] at h = absurd (omega arith)
within (x ∷ xs) zero h = refl
within (x ∷ xs) (suc at) h = within xs at (omega arith)

pub there_is : (kind : Kind) (institution key : List ℕ) (rows : List Row) (r : Result ℕ ℕ)
    → MatchResult r (IsAtIndex (place kind institution key) rows) (IsFree (place kind institution key) rows)
    → is_ok r ≡ is_some (row_at kind institution key rows)
there_is kind institution key rows (Ok at) there = sym (ap is_some there.found ∙ within rows at there.within)
there_is kind institution key rows (Err at) free = sym (ap is_some free.found)

none_inside : {X : Type 0} (o : Option X) → is_some o ≡ false → o ≡ None
none_inside None e = refl
none_inside (Some x) e = absurd cc

-- a row that is put where its place is free is added to the rows
pub put_adds : (row kept : Row) (rows room new : List Row) → row ≡ kept → room ≡ rows → IsRising rows
    → is_some (row_at row.kind row.inst row.key rows) ≡ false → new ≡ after_edit row.inst (Put (record_of row)) room
    → IsPermutation (kept ∷ rows) new
put_adds row kept rows room new same roomy rising free is =
    let made : after_edit row.inst (Put (record_of row)) rows ≡ new = ap (after_edit row.inst (Put (record_of row))) (sym roomy) ∙ sym is in
    subst (λ (k : Row). IsPermutation (k ∷ rows) new) same
    (subst (IsPermutation (row ∷ rows)) made (added_has row rows rising (none_inside _ free)))

pub kept_taken : (row kept : Row) (rows : List Row) → row ≡ kept → is_some (row_at row.kind row.inst row.key rows) ≡ true → IsPlaceTaken rows kept
kept_taken row kept rows same taken = subst (IsPlaceTaken rows) same taken

head_in : {X : Type 0} (x : X) (xs : List X) → Contains (x ∷ xs) x
head_in x xs = (0, omega arith, refl)

tail_in : {X : Type 0} (x : X) (xs : List X) (y : X) → Contains xs y → Contains (x ∷ xs) y
tail_in x xs y h = (suc h.0, omega (arith, h.1), h.2)

member_of : {X : Type 0} (x : X) (xs : List X) (y : X) → Contains (x ∷ xs) y → (y ≡ x) ⊎ Contains xs y
member_of x xs y (zero, near, is) = inl (sym is)
member_of x xs y (suc k, near, is) = inr (k, omega arith, is)

each_in : {X : Type 0} (P : X → Type 0) (xs : List X) → AllByRecursion P xs → (y : X) → Contains xs y → P y
each_in P [] h y in_it = absurd (omega (arith, in_it.1))
each_in P (x ∷ xs) h y in_it = elim (member_of x xs y in_it) [
  | inl e ↦ subst P (sym e) h.0
  | inr later ↦ each_in P xs h.1 y later
]

each_from : {X : Type 0} (P : X → Type 0) (xs : List X) → ((y : X) → Contains xs y → P y) → AllByRecursion P xs
each_from P [] f = tt
each_from P (x ∷ xs) f = (f x (head_in x xs), each_from P xs (λ y h. f y (tail_in x xs y h)))

-- what holds of each of a list holds of each in another order
pub each_moved : {X : Type 0} (P : X → Type 0) (xs ys : List X) → IsPermutation xs ys → AllByRecursion P xs → AllByRecursion P ys
each_moved P xs ys moved all = each_from P ys (λ y h. each_in P xs all y (Contains-permutation ys xs y (IsPermutation-sym xs ys moved) h))

-- a row of octets that is added to such rows
pub octets_added : (row kept : Row) (rows new : List Row) → row ≡ kept → AreOctets row.octets → IsPermutation (kept ∷ rows) new → HoldOctets rows → HoldOctets new
octets_added row kept rows new same octets added all =
    each_moved (λ (r : Row). AreOctets r.octets) (kept ∷ rows) new added (subst (λ (r : Row). AreOctets r.octets) same octets, all)

abbrev same_place : Row → Row → Bool
same_place a b = is_eq (row_place_order (row_place_of a) (row_place_of b))

is_eq_reverse : (o : Ordering) → is_eq o ≡ is_eq (ordering_reverse o)
is_eq_reverse Less = refl
is_eq_reverse Equal = refl
is_eq_reverse Greater = refl

flips : (a b : Row) → same_place a b ≡ same_place b a
flips a b = is_eq_reverse (row_place_order (row_place_of a) (row_place_of b)) ∙ ap is_eq (sym (rows_total.antisymm (row_place_of b) (row_place_of a)))

pub at_middle : {X : Type 0} (P : X → Type 0) (done : List X) (x : X) (more : List X) → AllByRecursion P (done ++ x ∷ more) → P x
at_middle P [] x more h = h.0
at_middle P (d ∷ done) x more h = at_middle P done x more h.1

before_apart : (done : List Row) (x : Row) (more : List Row) → IsDistinct same_place (done ++ x ∷ more) → AllByRecursion (λ d. same_place d x ≡ false) done
unfolding IsDistinct
before_apart [] x more h = tt
before_apart (d ∷ done) x more h = (at_middle (λ y. same_place d y ≡ false) done x more h.0, before_apart done x more h.1)

none_found : (q : Row → Bool) (rows : List Row) → AllByRecursion (λ r. q r ≡ false) rows → find q rows ≡ None
none_found q [] h = refl
none_found q (r ∷ rows) h = rw h.0 (none_found q rows h.1)

map_split : (done : List Values) (x : Values) (more : List Values) → map row_of_cells (done ++ x ∷ more) ≡ map row_of_cells done ++ row_of_cells x ∷ map row_of_cells more
map_split [] x more = refl
map_split (d ∷ done) x more = ap (λ l. row_of_cells d ∷ l) (map_split done x more)

-- The place of a row is free of those before it, where all are rows of one order.
free_before : (done more : List Values) (x : Values) (rows all : List Row) → IsPermutation (map row_of_cells done) rows
    → IsPermutation (map row_of_cells (done ++ x ∷ more)) all → IsRising all → ¬ IsPlaceTaken rows (row_of_cells x)
free_before done more x rows all some every rising taken =
    let apart = IsDistinct-IsPermutation same_place flips all (map row_of_cells (done ++ x ∷ more)) (IsPermutation-sym _ all every) (rising_distinct all rising) in
    let free = before_apart (map row_of_cells done) (row_of_cells x) (map row_of_cells more) (subst (IsDistinct same_place) (map_split done x more) apart) in
    let none = none_found (is_at (row_place_of (row_of_cells x))) rows (each_moved (λ d. same_place d (row_of_cells x) ≡ false) _ rows some free) in
    let no : is_some (row_at (row_of_cells x).kind (row_of_cells x).inst (row_of_cells x).key rows) ≡ false = ap is_some (row_at_is (row_place_of (row_of_cells x)) rows ∙ none) in
    let wrong : true ≡ false = sym taken ∙ no in cc

pub each_and : {X : Type 0} (P : X → Type 0) (xs : List X) (x : X) → AllByRecursion P xs → P x → AllByRecursion P (xs ++ x ∷ [])
each_and P [] x all last = (last, tt)
each_and P (y ∷ ys) x all last = (all.0, each_and P ys x all.1 last)

last_first : (done : List Values) (x : Values) → IsPermutation (map row_of_cells (done ++ x ∷ [])) (row_of_cells x ∷ map row_of_cells done)
last_first done x = subst (λ l. IsPermutation l (row_of_cells x ∷ map row_of_cells done)) (sym (map_split done x [])) (IsPermutation-to_front (map row_of_cells done) (row_of_cells x))

-- a good row that is added
pub good_next : (done : List Values) (x : Values) (rows new : List Row) → AreGood done rows → IsGood x
    → IsPermutation (row_of_cells x ∷ rows) new → IsRising new → AreGood (done ++ x ∷ []) new
good_next done x rows new good is_good added rising = record {
  each = each_and IsGood done x good.each is_good;
  same = IsPermutation-trans _ (row_of_cells x ∷ rows) new
      (IsPermutation-trans _ (row_of_cells x ∷ map row_of_cells done) _ (last_first done x) (IsPermutation-cons (row_of_cells x) _ rows good.same)) added;
  rising = rising;
}

-- a row that is bad, or whose place is taken, is none of good ones
pub bad_next : (found done more : List Values) (x : Values) (rows : List Row) → done ++ x ∷ more ≡ found → AreGood done rows
    → (IsGood x → IsPlaceTaken rows (row_of_cells x)) → (all : List Row) → ¬ AreGood found all
bad_next found done more x rows whole good bad all every =
    let is_good = at_middle IsGood done x more (subst (AllByRecursion IsGood) (sym whole) every.each) in
    free_before done more x rows all good.same (subst (λ l. IsPermutation (map row_of_cells l) all) (sym whole) every.same) every.rising (bad is_good)

pub none_good : AreGood [] []
unfolding IsRising
none_good = record { each = tt; same = IsPermutation-refl []; rising = tt }
