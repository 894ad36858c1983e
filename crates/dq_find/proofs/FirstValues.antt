-- The first of some values in order.
use Rattle.std.proofs.Common.{◌≡◌, ℕ, zero, suc, ◌+◌, ◌≤◌, List, [], ◌∷◌, ◌++◌, take, drop, length, get_or, ◌<◌, refl, sym, ap, ◌∙◌, arith, append_assoc, take-append-drop}
use Rattle.std.proofs.lemmas.List.{take_more}
use Rattle.dq_match.proofs.Parts.{from_place}
use Rattle.dq_find.proofs.FromPlace.{past_all}
use Rattle.std.specs.declared.cmp.Ordering.{Ordering}
use Rattle.std.specs.declared.cmp.Ordering.TheVariants.{Less, Equal, Greater}
use Rattle.dq_tables.specs.Rows.{octet_order}
use Rattle.dq_find.specs.ComputedKeys.{value_inserted, put_in_order, all_in_order}

abbrev Values : Type 0
Values = List (List ℕ)

take_again : (n : ℕ) (xs : Values) → take n (take n xs) ≡ take n xs
take_again zero xs = refl
take_again (suc n) [] = refl
take_again (suc n) (x ∷ xs) = ap (λ (ys : Values). x ∷ ys) (take_again n xs)

take_after : (n : ℕ) (x : List ℕ) (xs : Values) → take n (x ∷ take n xs) ≡ take n (x ∷ xs)
take_after zero x xs = refl
take_after (suc n) x [] = refl
take_after (suc n) x (y ∷ ys) = ap (λ (zs : Values). x ∷ zs) (take_after n y ys)

placed_take : (n : ℕ) (o : Ordering) (value first : List ℕ) (others : Values) (put put_all : Values) → take n put ≡ take n put_all
    → take (suc n) (value_inserted o value first (take n others) put) ≡ take (suc n) (value_inserted o value first others put_all)
placed_take n Less value first others put put_all h = ap (λ (xs : Values). value ∷ xs) (take_after n first others)
placed_take n Equal value first others put put_all h = ap (λ (xs : Values). first ∷ xs) (take_again n others)
placed_take n Greater value first others put put_all h = ap (λ (xs : Values). first ∷ xs) h

-- what is past the first ones may be dropped before a value is put in
pub put_take : (n : ℕ) (value : List ℕ) (xs : Values) → take n (put_in_order value (take n xs)) ≡ take n (put_in_order value xs)
unfolding put_in_order
put_take zero value xs = refl
put_take (suc n) value [] = refl
put_take (suc n) value (first ∷ others) =
    placed_take n (octet_order value first) value first others (put_in_order value (take n others)) (put_in_order value others) (put_take n value others)

pub all_take : (n : ℕ) (values xs : Values) → take n (all_in_order values (take n xs)) ≡ take n (all_in_order values xs)
unfolding all_in_order
all_take n [] xs = take_again n xs
all_take n (value ∷ values) xs =
    sym (all_take n values (put_in_order value (take n xs)))
    ∙ ap (λ (ys : Values). take n (all_in_order values ys)) (put_take n value xs)
    ∙ all_take n values (put_in_order value xs)

pub all_append : (values more xs : Values) → all_in_order (values ++ more) xs ≡ all_in_order more (all_in_order values xs)
unfolding all_in_order
all_append [] more xs = refl
all_append (value ∷ values) more xs = all_append values more (put_in_order value xs)

-- ---- the place of a value

put_by : (o : Ordering) (value x : List ℕ) (rest : Values) → octet_order value x ≡ o
    → put_in_order value (x ∷ rest) ≡ value_inserted o value x rest (put_in_order value rest)
unfolding put_in_order
put_by o value x rest e = ap (λ (p : Ordering). value_inserted p value x rest (put_in_order value rest)) e

module _ (value x : List ℕ) (xs : Values) (at : ℕ) (lt : at < length xs) (is : x ≡ get_or xs at x)
    (so_far : put_in_order value xs ≡ take at xs ++ put_in_order value (drop at xs)) where
  here : (o : Ordering) → octet_order value x ≡ o
      → put_in_order value (drop at xs) ≡ value_inserted o value x (drop (at + 1) xs) (put_in_order value (drop (at + 1) xs))
  here o e = ap (put_in_order value) (from_place xs at x lt is) ∙ put_by o value x (drop (at + 1) xs) e

  pub place_later : octet_order value x ≡ Greater → put_in_order value xs ≡ take (at + 1) xs ++ put_in_order value (drop (at + 1) xs)
  place_later e =
      so_far ∙ ap (λ (ys : Values). take at xs ++ ys) (here Greater e) ∙ sym (append_assoc (take at xs) (x ∷ []) (put_in_order value (drop (at + 1) xs)))
      ∙ ap (λ (ys : Values). ys ++ put_in_order value (drop (at + 1) xs)) (ap (λ (y : List ℕ). take at xs ++ y ∷ []) is ∙ sym (take_more xs at x lt))

  pub place_found : octet_order value x ≡ Less → put_in_order value xs ≡ take at xs ++ value ∷ drop at xs
  place_found e =
      so_far ∙ ap (λ (ys : Values). take at xs ++ ys) (here Less e ∙ ap (λ (ys : Values). value ∷ ys) (sym (from_place xs at x lt is)))

  pub place_taken : octet_order value x ≡ Equal → put_in_order value xs ≡ xs
  place_taken e =
      so_far ∙ ap (λ (ys : Values). take at xs ++ ys) (here Equal e ∙ sym (from_place xs at x lt is)) ∙ take-append-drop at xs

-- a value that comes after all others
pub place_last : (value : List ℕ) (xs : Values) (at : ℕ) → at ≡ length xs → put_in_order value xs ≡ take at xs ++ put_in_order value (drop at xs)
    → put_in_order value xs ≡ take (length xs) xs ++ value ∷ drop (length xs) xs
unfolding put_in_order
place_last value xs at all so_far = grind (arith, past_all)

-- ---- values of one series after the other

pub few_stay : (n : ℕ) (xs : Values) → length xs ≤ n → take n xs ≡ xs
few_stay zero [] h = refl
few_stay zero (x ∷ xs) h = absurd (omega arith)
few_stay (suc n) [] h = refl
few_stay (suc n) (x ∷ xs) h = ap (λ (ys : Values). x ∷ ys) (few_stay n xs (omega arith))

pub put_more : (n : ℕ) (value : List ℕ) (values before after whole : Values) → after ≡ take n (put_in_order value before)
    → take n (all_in_order (value ∷ values) before) ≡ whole → take n (all_in_order values after) ≡ whole
unfolding all_in_order
put_more n value values before after whole put so_far =
    ap (λ (ys : Values). take n (all_in_order values ys)) put ∙ all_take n values (put_in_order value before) ∙ so_far

pub all_more : (n : ℕ) (first others before after whole : Values) → after ≡ take n (all_in_order first before)
    → take n (all_in_order (first ++ others) before) ≡ whole → take n (all_in_order others after) ≡ whole
all_more n first others before after whole put so_far = grind (arith, all_take, all_append)
