-- The order of rows.
use Rattle.std.proofs.Common.{◌≡◌, Bool, true, false, ◌&&◌, List, [], ◌∷◌, ◌++◌, refl, sym, ◌∙◌, ap, if◌then◌else◌, arith}
use Rattle.std.specs.declared.cmp.Ordering.{Ordering}
use Rattle.std.specs.declared.cmp.Ordering.TheVariants.{Less, Equal, Greater}
use Rattle.std.specs.Ordering.{is_lt, is_eq, is_gt, ordering_reverse}
use Rattle.std.specs.Cmp.{IsTotalOrder}
use Rattle.std.specs.List.{filter, AllByRecursion}
use Rattle.std.proofs.lemmas.Cmp.{nat_cmp_total, nat_list_cmp_total, on_total, then_total}
use Rattle.dq_tables.specs.declared.row.Row.{Row}
use Rattle.dq_tables.specs.Rows.{RowPlace, row_place_order, row_place_of, number_of_kind, IsRising, rows_before, rows_past}

pub rows_total : IsTotalOrder row_place_order
rows_total =
    then_total (then_total (on_total (λ (p : RowPlace). number_of_kind p.kind) nat_cmp_total) (on_total (λ (p : RowPlace). p.institution) nat_list_cmp_total))
    (on_total (λ (p : RowPlace). p.key) nat_list_cmp_total)

pub greater_from : (p q : RowPlace) → row_place_order p q ≡ Less → row_place_order q p ≡ Greater
greater_from p q less = rows_total.antisymm q p ∙ ap ordering_reverse less

pub less_from : (p q : RowPlace) → row_place_order p q ≡ Greater → row_place_order q p ≡ Less
less_from p q greater = rows_total.antisymm q p ∙ ap ordering_reverse greater

-- what a fact of each element gives another
pub each_weaker : {X : Type 0} (P Q : X → Type 0) → ((x : X) → P x → Q x) → (xs : List X) → AllByRecursion P xs → AllByRecursion Q xs
each_weaker P Q f [] h = tt
each_weaker P Q f (x ∷ xs) h = (f x h.0, each_weaker P Q f xs h.1)

pub each_filtered : {X : Type 0} (P : X → Type 0) (p : X → Bool) (xs : List X) → AllByRecursion P xs → AllByRecursion P (filter p xs)
each_filtered P p [] h = tt
each_filtered P p (x ∷ xs) h = grind (arith, each_filtered P p xs h.1)

pub each_appended : {X : Type 0} (P : X → Type 0) (xs ys : List X) → AllByRecursion P xs → AllByRecursion P ys → AllByRecursion P (xs ++ ys)
each_appended P [] ys h k = k
each_appended P (x ∷ xs) ys h k = (h.0, each_appended P xs ys h.1 k)

each_passed_step : {X : Type 0} (P : X → Type 0) (p : X → Bool) → ((x : X) → p x ≡ true → P x) → (x : X) (b : Bool) → p x ≡ b → (kept : List X)
    → AllByRecursion P kept → AllByRecursion P (if b then x ∷ kept else kept)
each_passed_step P p f x true e kept h = (f x e, h)
each_passed_step P p f x false e kept h = h

-- each element that a filter keeps has passed
pub each_passed : {X : Type 0} (P : X → Type 0) (p : X → Bool) → ((x : X) → p x ≡ true → P x) → (xs : List X) → AllByRecursion P (filter p xs)
each_passed P p f [] = tt
each_passed P p f (x ∷ xs) = each_passed_step P p f x (p x) refl (filter p xs) (each_passed P p f xs)

-- a filter that every element passes, and one that none passes
pub filter_all : {X : Type 0} (p : X → Bool) (xs : List X) → AllByRecursion (λ x. p x ≡ true) xs → filter p xs ≡ xs
filter_all p [] h = refl
filter_all p (x ∷ xs) h = rw h.0 (ap (λ ys. x ∷ ys) (filter_all p xs h.1))

pub filter_none : {X : Type 0} (p : X → Bool) (xs : List X) → AllByRecursion (λ x. p x ≡ false) xs → filter p xs ≡ []
filter_none p [] h = refl
filter_none p (x ∷ xs) h = rw h.0 (filter_none p xs h.1)

-- one filter after the other
pub both_tests : {X : Type 0} (p q : X → Bool) (xs : List X) → filter q (filter p xs) ≡ filter (λ x. p x && q x) xs
both_tests p q [] = refl
both_tests p q (x ∷ xs) = grind (arith, both_tests p q xs)

abbrev pub is_before : RowPlace → Row → Bool
is_before p row = is_lt (row_place_order (row_place_of row) p)

abbrev pub is_past : RowPlace → Row → Bool
is_past p row = is_gt (row_place_order (row_place_of row) p)

abbrev pub is_at : RowPlace → Row → Bool
is_at p row = is_eq (row_place_order (row_place_of row) p)

-- rows after one that is at a place or past it are past the place
past_cases : (p q r : RowPlace) (o : Ordering) → row_place_order q p ≡ o → is_lt o ≡ false → row_place_order q r ≡ Less
    → row_place_order r p ≡ Greater
past_cases p q r Less e late less = cc
past_cases p q r Equal e late less = greater_from p r (sym (rows_total.congr q p r e) ∙ less)
past_cases p q r Greater e late less = greater_from p r (rows_total.trans p q r (less_from q p e) less)

pub later_past : (p q : RowPlace) → is_lt (row_place_order q p) ≡ false → (rows : List Row)
    → AllByRecursion (λ (later : Row). row_place_order q (row_place_of later) ≡ Less) rows
    → AllByRecursion (λ (later : Row). row_place_order (row_place_of later) p ≡ Greater) rows
later_past p q late rows h =
    each_weaker (λ (r : Row). row_place_order q (row_place_of r) ≡ Less) (λ (r : Row). row_place_order (row_place_of r) p ≡ Greater)
    (λ (r : Row) less. past_cases p q (row_place_of r) (row_place_order q p) refl late less) rows h

pub all_past : (p : RowPlace) (rows : List Row) → AllByRecursion (λ (later : Row). row_place_order (row_place_of later) p ≡ Greater) rows
    → (rows_before p rows ≡ []) × (filter (is_at p) rows ≡ []) × (rows_past p rows ≡ rows)
all_past p rows h = grind (arith, filter_none, each_weaker, filter_all)

split_step : (p : RowPlace) (row : Row) (rows : List Row) (o : Ordering) → row_place_order (row_place_of row) p ≡ o
    → AllByRecursion (λ (later : Row). row_place_order (row_place_of row) (row_place_of later) ≡ Less) rows
    → rows ≡ rows_before p rows ++ filter (is_at p) rows ++ rows_past p rows
    → row ∷ rows ≡ rows_before p (row ∷ rows) ++ filter (is_at p) (row ∷ rows) ++ rows_past p (row ∷ rows)
split_step p row rows Less e h split = rw e (ap (λ (rs : List Row). row ∷ rs) split)
split_step p row rows Equal e h split =
    let past = all_past p rows (later_past p (row_place_of row) (ap is_lt e) rows h) in
    rw (e, past.0, past.1, past.2) refl
split_step p row rows Greater e h split =
    let past = all_past p rows (later_past p (row_place_of row) (ap is_lt e) rows h) in
    rw (e, past.0, past.1, past.2) refl

-- rows that rise are those before a place, those at it, and those past it
pub IsRising-split : (p : RowPlace) (rows : List Row) → IsRising rows → rows ≡ rows_before p rows ++ filter (is_at p) rows ++ rows_past p rows
unfolding IsRising
IsRising-split p [] h = refl
IsRising-split p (row ∷ rows) h = split_step p row rows (row_place_order (row_place_of row) p) refl h.0 (IsRising-split p rows h.1)

pub IsRising-filter : (p : Row → Bool) (rows : List Row) → IsRising rows → IsRising (filter p rows)
unfolding IsRising
IsRising-filter p [] h = tt
IsRising-filter p (row ∷ rows) h = grind (arith, each_filtered, IsRising-filter p rows h.1)

pub IsRising-append : (xs ys : List Row) → IsRising xs → IsRising ys
    → AllByRecursion (λ (x : Row). AllByRecursion (λ (y : Row). row_place_order (row_place_of x) (row_place_of y) ≡ Less) ys) xs → IsRising (xs ++ ys)
unfolding IsRising
IsRising-append [] ys h k between = k
IsRising-append (x ∷ xs) ys h k between = (each_appended _ xs ys h.0 between.0, IsRising-append xs ys h.1 k between.1)
