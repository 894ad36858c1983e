-- Rows in order are the only order of themselves.
use Rattle.std.proofs.Common.{◌≡◌, ◌≢◌, ◌⊎◌, inl, inr, zero, suc, Bool, false, List, [], ◌∷◌, refl, sym, ◌∙◌, ap, ap₂, subst, arith, ◌+◌, length}
use Rattle.std.specs.List.{AllByRecursion, IsDistinct, Contains}
use Rattle.std.specs.List.Sorted.{IsPermutation}
use Rattle.std.specs.Ordering.{is_lt, is_eq, ordering_reverse}
use Rattle.std.specs.declared.cmp.Ordering.{Ordering}
use Rattle.std.specs.declared.cmp.Ordering.TheVariants.{Less, Equal, Greater}
use Rattle.std.proofs.lemmas.List.Sorted.{IsPermutation-sym, Contains-permutation}
use Rattle.std.proofs.lemmas.Cmp.{tied_itself}
use Rattle.std.proofs.lemmas.Map.Keys.{IsDistinct-IsPermutation}
use Rattle.dq_list.specs.Among.{IsAmong}
use Rattle.dq_tables.specs.declared.row.Row.{Row}
use Rattle.dq_tables.specs.Rows.{row_place_of, row_place_order, IsRising}
use Rattle.dq_tables.proofs.Order.{rows_total, greater_from, less_from, each_weaker}
use Rattle.dq_tables.proofs.RisingLists.{Rises, only_one}

abbrev place_cmp : Row → Row → Ordering
place_cmp a b = row_place_order (row_place_of a) (row_place_of b)

is_eq_reverse : (o : Ordering) → is_eq o ≡ is_eq (ordering_reverse o)
is_eq_reverse Less = refl
is_eq_reverse Equal = refl
is_eq_reverse Greater = refl

abbrev same_place : Row → Row → Bool
same_place a b = is_eq (place_cmp a b)

flips : (a b : Row) → same_place a b ≡ same_place b a
flips a b = is_eq_reverse (place_cmp a b) ∙ ap is_eq (sym (rows_total.antisymm (row_place_of b) (row_place_of a)))

-- none comes before the one ahead of it
abbrev pub NeverFalls : List Row → Type 0
NeverFalls [] = Unit {0}
NeverFalls (a ∷ []) = Unit {0}
NeverFalls (a ∷ b ∷ rows) = (is_lt (place_cmp b a) ≡ false) × NeverFalls (b ∷ rows)

pub rising_distinct : (rows : List Row) → IsRising rows → IsDistinct same_place rows
unfolding IsRising IsDistinct
rising_distinct [] h = tt
rising_distinct (row ∷ rows) h = (each_weaker _ _ (λ later less. ap is_eq less) rows h.0, rising_distinct rows h.1)

strictly : (a b : Row) (o : Ordering) → place_cmp a b ≡ o → is_lt (place_cmp b a) ≡ false → same_place a b ≡ false → place_cmp a b ≡ Less
strictly a b Less e f d = e
strictly a b Equal e f d = absurd (let g = ap is_eq e in cc)
strictly a b Greater e f d = absurd (let g = ap is_lt (less_from (row_place_of a) (row_place_of b) e) in cc)

later_still : (a b : Row) → place_cmp a b ≡ Less → (rows : List Row) → AllByRecursion (λ (c : Row). place_cmp b c ≡ Less) rows
    → AllByRecursion (λ (c : Row). place_cmp a c ≡ Less) rows
later_still a b less = each_weaker _ _ (λ c next. rows_total.trans (row_place_of a) (row_place_of b) (row_place_of c) less next)

pub distinct_rising : (rows : List Row) → IsDistinct same_place rows → NeverFalls rows → IsRising rows
unfolding IsRising IsDistinct
distinct_rising [] d n = tt
distinct_rising (a ∷ []) d n = (tt, tt)
distinct_rising (a ∷ b ∷ rows) d n =
    let less = strictly a b (place_cmp a b) refl n.0 d.0.0 in
    let on = distinct_rising (b ∷ rows) d.1 n.1 in
    ((less, later_still a b less rows on.0), on)

member_of : {X : Type 0} (x : X) (xs : List X) (y : X) → Contains (x ∷ xs) y → (y ≡ x) ⊎ Contains xs y
member_of x xs y (zero, within, is) = inl (sym is)
member_of x xs y (suc k, within, is) = inr (k, omega arith, is)

head_in : {X : Type 0} (x : X) (xs : List X) → Contains (x ∷ xs) x
head_in x xs = (0, omega arith, refl)

tail_in : {X : Type 0} (x : X) (xs : List X) (y : X) → Contains xs y → Contains (x ∷ xs) y
tail_in x xs y h = (suc h.0, omega (arith, h.1), h.2)

each_in : {X : Type 0} (P : X → Type 0) (xs : List X) → AllByRecursion P xs → (y : X) → Contains xs y → P y
each_in P [] h y in_it = absurd (omega (arith, in_it.1))
each_in P (x ∷ xs) h y in_it = elim (member_of x xs y in_it) [
  | inl e ↦ subst P (sym e) h.0
  | inr later ↦ each_in P xs h.1 y later
]

never_self : (row : Row) → place_cmp row row ≢ Less
never_self row less = let e = tied_itself rows_total (row_place_of row) in let wrong : Less ≡ Equal = sym less ∙ e in cc

abbrev HasAll : List Row → List Row → Type 0
HasAll xs ys = (row : Row) → Contains xs row → Contains ys row

one_head : (x y : Row) (xs ys : List Row) → IsRising (x ∷ xs) → IsRising (y ∷ ys) → (x ≡ y) ⊎ Contains ys x → (y ≡ x) ⊎ Contains xs y → x ≡ y
unfolding IsRising
one_head x y xs ys p q (inl e) other = e
one_head x y xs ys p q (inr h) (inl e) = sym e
one_head x y xs ys p q (inr h) (inr k) =
    let below : place_cmp y x ≡ Less = each_in _ ys q.0 x h in
    let above : place_cmp x y ≡ Less = each_in _ xs p.0 y k in
    absurd (let wrong : Less ≡ Greater = sym above ∙ greater_from (row_place_of y) (row_place_of x) below in cc)

tail_has : (x y : Row) (xs ys : List Row) → x ≡ y → IsRising (x ∷ xs) → HasAll (x ∷ xs) (y ∷ ys) → HasAll xs ys
unfolding IsRising
tail_has x y xs ys same rising has row in_xs = elim (member_of y ys row (has row (tail_in x xs row in_xs))) [
  | inl e ↦ absurd (never_self x (subst (λ r. place_cmp x r ≡ Less) (e ∙ sym same) (each_in _ xs rising.0 row in_xs)))
  | inr on ↦ on
]

one_members : (xs ys : List Row) → IsRising xs → IsRising ys → HasAll xs ys → HasAll ys xs → xs ≡ ys
unfolding IsRising
one_members [] [] p q f g = refl
one_members [] (y ∷ ys) p q f g = absurd (omega (arith, (g y (head_in y ys)).1))
one_members (x ∷ xs) [] p q f g = absurd (omega (arith, (f x (head_in x xs)).1))
one_members (x ∷ xs) (y ∷ ys) p q f g =
    let same = one_head x y xs ys p q (member_of y ys x (f x (head_in x xs))) (member_of x xs y (g y (head_in y ys))) in
    ap₂ ◌∷◌ same (one_members xs ys p.1 q.1 (tail_has x y xs ys same p f) (tail_has y x ys xs (sym same) q g))

-- two lists of the same rows, both in order, are one
pub one_order : (xs ys : List Row) → IsRising xs → IsRising ys → IsPermutation xs ys → xs ≡ ys
one_order xs ys p q h =
    one_members xs ys p q (λ row. Contains-permutation xs ys row h) (λ row. Contains-permutation ys xs row (IsPermutation-sym xs ys h))

-- what has the rows of a list in order, and never falls, is that list
pub in_order : (rows found : List Row) → IsRising rows → IsPermutation rows found → NeverFalls found → found ≡ rows
in_order rows found rising h falls =
    let apart = IsDistinct-IsPermutation same_place flips rows found h (rising_distinct rows rising) in
    sym (one_order rows found rising (distinct_rising found apart falls) h)

-- ---- by their members

abbrev ComesBefore : Row → Row → Type 0
ComesBefore a b = row_place_order (row_place_of a) (row_place_of b) ≡ Less

not_both : (a b : Row) → ComesBefore a b → ComesBefore b a → ⊥
not_both a b less more = absurd (let wrong : Less ≡ Greater = sym more ∙ greater_from (row_place_of a) (row_place_of b) less in cc)

rises : (rows : List Row) → IsRising rows → Rises ComesBefore not_both rows
unfolding IsRising
rises [] rising = tt
rises (row ∷ rows) rising = (rising.0, rises rows rising.1)

pub one_list : (xs ys : List Row) → IsRising xs → IsRising ys → ((row : Row) → IsAmong row xs → IsAmong row ys) → ((row : Row) → IsAmong row ys → IsAmong row xs)
    → xs ≡ ys
one_list xs ys rising_x rising_y to back =
    only_one ComesBefore not_both (length xs + length ys) xs ys (rises xs rising_x) (rises ys rising_y) (λ row h. inl (to row h)) (λ row h. inl (back row h))
    (omega arith) (omega arith)
