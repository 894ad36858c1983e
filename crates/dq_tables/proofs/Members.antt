-- Which rows there are after an edit, in any order.
use Rattle.std.proofs.Common.{◌≡◌, ℕ, Bool, true, false, not, List, [], ◌∷◌, ◌++◌, Option, Some, None, refl, sym, ◌∙◌, ap, subst, append-nil, append_assoc, filter, arith, inl, inr}
use Rattle.std.specs.List.{AllByRecursion, find}
use Rattle.std.specs.Ordering.{is_lt, is_eq, is_gt}
use Rattle.std.specs.declared.cmp.Ordering.{Ordering}
use Rattle.std.specs.declared.cmp.Ordering.TheVariants.{Less, Equal, Greater}
use Rattle.std.specs.List.Sorted.{IsPermutation}
use Rattle.std.proofs.lemmas.List.Elements.{filter-append}
use Rattle.std.proofs.lemmas.List.Sorted.{IsPermutation-sym, IsPermutation-middle}
use Rattle.dq_list.specs.Among.{IsAmong}
use Rattle.dq_tables.specs.declared.row.Kind.{Kind}
use Rattle.dq_tables.specs.declared.row.Row.{Row}
use Rattle.dq_tables.specs.Rows.{IsRising, RowPlace, place, row_place_of, row_place_order, rows_before, rows_past, rows_elsewhere, after_edit, Put, Remove, record_of}
use Rattle.dq_tables.specs.Lookups.{row_at}
use Rattle.dq_tables.proofs.Order.{is_at, is_past, all_past, later_past, IsRising-split, filter_all, filter_none, each_passed}
use Rattle.dq_tables.proofs.InOrder.{row_at_is}

before_apart : (p : RowPlace) (row : Row) (o : Ordering) → row_place_order (row_place_of row) p ≡ o → is_lt o ≡ true → not (is_at p row) ≡ true
before_apart p row Less e h = ap (λ o. not (is_eq o)) e
before_apart p row Equal e h = absurd cc
before_apart p row Greater e h = ap (λ o. not (is_eq o)) e

past_apart : (p : RowPlace) (row : Row) (o : Ordering) → row_place_order (row_place_of row) p ≡ o → is_gt o ≡ true → not (is_at p row) ≡ true
past_apart p row Less e h = ap (λ o. not (is_eq o)) e
past_apart p row Equal e h = absurd cc
past_apart p row Greater e h = ap (λ o. not (is_eq o)) e

-- of rows in order, those before a place and those past it are those that are not at it
pub apart_is : (p : RowPlace) (rows : List Row) → IsRising rows → rows_before p rows ++ rows_past p rows ≡ rows_elsewhere p rows
apart_is p rows rising =
    let q : Row → Bool = λ row. not (is_at p row) in
    let before : filter q (rows_before p rows) ≡ rows_before p rows =
    filter_all q (rows_before p rows) (each_passed (λ (row : Row). q row ≡ true) _ (λ (row : Row) h. before_apart p row _ refl (ap is_lt refl ∙ h)) rows) in
    let past : filter q (rows_past p rows) ≡ rows_past p rows =
    filter_all q (rows_past p rows) (each_passed (λ (row : Row). q row ≡ true) (is_past p) (λ (row : Row) h. past_apart p row _ refl h) rows) in
    let here : filter q (filter (is_at p) rows) ≡ [] =
    filter_none q (filter (is_at p) rows) (each_passed (λ (row : Row). q row ≡ false) (is_at p) (λ (row : Row) h. ap not h) rows) in
    sym (ap (filter q) (IsRising-split p rows rising)
    ∙ filter-append q (rows_before p rows ++ filter (is_at p) rows) (rows_past p rows)
    ∙ ap (λ l. l ++ filter q (rows_past p rows)) (filter-append q (rows_before p rows) (filter (is_at p) rows))
    ∙ rw (before, past, here, append-nil (rows_before p rows)) refl)

-- a row that is put is there, and those that are not at its place
pub put_has : (row : Row) (rows : List Row) → IsRising rows
    → IsPermutation (row ∷ rows_elsewhere (row_place_of row) rows) (after_edit row.inst (Put (record_of row)) rows)
unfolding after_edit
put_has row rows rising =
    let p = row_place_of row in
    let moved = IsPermutation-middle (rows_before p rows) row (rows_past p rows) in
    let whole : rows_before p rows ++ row ∷ rows_past p rows ≡ (rows_before p rows ++ row ∷ []) ++ rows_past p rows =
    sym (append_assoc (rows_before p rows) (row ∷ []) (rows_past p rows)) in
    IsPermutation-sym _ _ (subst (λ l. IsPermutation l (row ∷ rows_elsewhere p rows)) whole
    (subst (λ l. IsPermutation (rows_before p rows ++ row ∷ rows_past p rows) (row ∷ l)) (apart_is p rows rising) moved))

-- a row that is removed is gone, and the others are there
pub removed_has : (kind : Kind) (institution key : List ℕ) (rows : List Row) → IsRising rows
    → after_edit institution (Remove kind key) rows ≡ rows_elsewhere (place kind institution key) rows
unfolding after_edit
removed_has kind institution key rows rising = grind (arith, append-nil, apart_is)

none_step : {X : Type 0} (p : X → Bool) (x : X) (xs : List X) (b : Bool) → p x ≡ b → find p (x ∷ xs) ≡ None
    → (find p xs ≡ None → filter (λ y. not (p y)) xs ≡ xs) → filter (λ y. not (p y)) (x ∷ xs) ≡ x ∷ xs
none_step p x xs true h e on = absurd (let f = rw h at e in cc)
none_step p x xs false h e on = rw h (ap (λ l. x ∷ l) (on (rw h at e)))

find_none : {X : Type 0} (p : X → Bool) (xs : List X) → find p xs ≡ None → filter (λ x. not (p x)) xs ≡ xs
find_none p [] e = refl
find_none p (x ∷ xs) e = none_step p x xs (p x) refl e (find_none p xs)

-- where a place is free, all rows are others
pub free_is : (kind : Kind) (institution key : List ℕ) (rows : List Row) → row_at kind institution key rows ≡ None
    → rows_elsewhere (place kind institution key) rows ≡ rows
free_is kind institution key rows free =
    find_none (is_at (place kind institution key)) rows (sym (row_at_is (place kind institution key) rows) ∙ free)

-- a row that is put where its place is free is added to the rows
pub added_has : (row : Row) (rows : List Row) → IsRising rows → row_at row.kind row.inst row.key rows ≡ None
    → IsPermutation (row ∷ rows) (after_edit row.inst (Put (record_of row)) rows)
added_has row rows rising free =
    subst (λ l. IsPermutation (row ∷ l) (after_edit row.inst (Put (record_of row)) rows)) (free_is row.kind row.inst row.key rows free)
    (put_has row rows rising)

held_or : {X : Type 0} → X → Option X → X
held_or x None = x
held_or x (Some y) = y

pub one_inside : {X : Type 0} (x y : X) → Some x ≡ Some y → x ≡ y
unfolding held_or
one_inside x y e = ap (held_or x) e

among_step : {X : Type 0} (p : X → Bool) (x y : X) (xs : List X) (b : Bool) → p y ≡ b → find p (y ∷ xs) ≡ Some x
    → (find p xs ≡ Some x → IsAmong x xs × (p x ≡ true)) → IsAmong x (y ∷ xs) × (p x ≡ true)
among_step p x y xs true e found on = (let same : y ≡ x = one_inside y x (rw e at found) in (inl same, ap p (sym same) ∙ e))
among_step p x y xs false e found on = (let later = on (rw e at found) in (inr later.0, later.1))

pub find_among : {X : Type 0} (p : X → Bool) (x : X) (xs : List X) → find p xs ≡ Some x → IsAmong x xs × (p x ≡ true)
find_among p x [] found = absurd cc
find_among p x (y ∷ xs) found = among_step p x y xs (p y) refl found (find_among p x xs)

first_passed : {X : Type 0} (p : X → Bool) (x y : X) (xs : List X) (b : Bool) → p x ≡ b → find p (x ∷ xs) ≡ Some y
    → (find p xs ≡ Some y → (ys : List X) × (filter p xs ≡ y ∷ ys)) → (ys : List X) × (filter p (x ∷ xs) ≡ y ∷ ys)
first_passed p x y xs true h e on = (filter p xs, rw h (ap (λ z. z ∷ filter p xs) (one_inside x y (rw h at e))))
first_passed p x y xs false h e on = let later = on (rw h at e) in (later.0, rw h later.1)

-- what is found comes first of what is kept
found_first : {X : Type 0} (p : X → Bool) (xs : List X) (y : X) → find p xs ≡ Some y → (ys : List X) × (filter p xs ≡ y ∷ ys)
found_first p [] y e = absurd (cc)
found_first p (x ∷ xs) y e = first_passed p x y xs (p x) refl e (found_first p xs y)

one_step : (p : RowPlace) (x row : Row) (rows : List Row) (o : Ordering) → row_place_order (row_place_of x) p ≡ o
    → AllByRecursion (λ (later : Row). row_place_order (row_place_of x) (row_place_of later) ≡ Less) rows → find (is_at p) (x ∷ rows) ≡ Some row
    → (find (is_at p) rows ≡ Some row → filter (is_at p) rows ≡ row ∷ []) → filter (is_at p) (x ∷ rows) ≡ row ∷ []
one_step p x row rows Less e h found on = rw e (on (rw e at found))
one_step p x row rows Equal e h found on =
    let past = all_past p rows (later_past p (row_place_of x) (ap is_lt e) rows h) in
    rw (e, past.1) (ap (λ r. r ∷ []) (one_inside x row (rw e at found)))
one_step p x row rows Greater e h found on = grind (arith, all_past, later_past, found_first, is_at)

one_found : (p : RowPlace) (rows : List Row) (row : Row) → IsRising rows → find (is_at p) rows ≡ Some row → filter (is_at p) rows ≡ row ∷ []
unfolding IsRising
one_found p [] row rising found = absurd (cc)
one_found p (x ∷ rows) row rising found = one_step p x row rows (row_place_order (row_place_of x) p) refl rising.0 found (one_found p rows row rising.1)

-- of rows in order, one is at a place where a row is found
pub one_at : (p : RowPlace) (rows : List Row) (row : Row) → IsRising rows → row_at p.kind p.institution p.key rows ≡ Some row
    → filter (is_at p) rows ≡ row ∷ []
one_at p rows row rising found = one_found p rows row rising (sym (row_at_is p rows) ∙ found)
