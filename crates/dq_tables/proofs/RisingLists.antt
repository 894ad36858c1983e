-- Two lists that rise and have the same members are one, also where each has only so many of them.
use Rattle.std.proofs.Common.{◌≡◌, ◌↔◌, ◌⊎◌, ◌≤◌, ◌+◌, ℕ, zero, suc, inl, inr, List, [], ◌∷◌, length, refl, sym, ap, subst, arith}
use Rattle.std.specs.List.{AllByRecursion}
use Rattle.std.specs.declared.cmp.Ordering.TheVariants.{Less}
use Rattle.std.proofs.lemmas.Cmp.{nat_list_cmp_total}
use Rattle.dq_list.specs.Among.{IsAmong}
use Rattle.dq_tables.specs.Rows.{Record, octet_order}
use Rattle.dq_tables.specs.Records.{AreInOrder}

pub each_among : {X : Type 0} (P : X → Type 0) (x : X) (xs : List X) → AllByRecursion P xs → IsAmong x xs → P x
each_among P x [] all h = absurd h
each_among P x (y ∷ ys) all (inl e) = subst P e all.0
each_among P x (y ∷ ys) all (inr h) = each_among P x ys all.1 h

module _ {X : Type 0} (Before : X → X → Type 0) (apart : (x y : X) → Before x y → Before y x → ⊥) where
  abbrev pub Rises : List X → Type 0
  Rises [] = Unit {0}
  Rises (x ∷ xs) = AllByRecursion (Before x) xs × Rises xs

  -- they are as many as they may be, and come before the value
  abbrev pub IsBehind : ℕ → List X → X → Type 0
  IsBehind n xs x = (length xs ≡ n) × AllByRecursion (λ (y : X). Before y x) xs

  -- the members of a list are among others, or behind as many as there may be
  abbrev pub HaveTheirs : ℕ → List X → List X → Type 0
  HaveTheirs n xs ys = (x : X) → IsAmong x xs → IsAmong x ys ⊎ IsBehind n ys x

  first_up_to : (n : ℕ) (x y : X) (ys : List X) → Rises (y ∷ ys) → IsAmong x (y ∷ ys) ⊎ IsBehind n (y ∷ ys) x → (y ≡ x) ⊎ Before y x
  first_up_to n x y ys rises (inl (inl e)) = inl e
  first_up_to n x y ys rises (inl (inr h)) = inr (each_among (Before y) x ys rises.0 h)
  first_up_to n x y ys rises (inr behind) = inr behind.1.0

  one_first : (x y : X) → (y ≡ x) ⊎ Before y x → (x ≡ y) ⊎ Before x y → x ≡ y
  one_first x y (inl e) h = sym e
  one_first x y (inr less) (inl e) = e
  one_first x y (inr less) (inr more) = absurd (apart x y more less)

  past_first : (n : ℕ) (x z : X) (xs ys : List X) → Before x z → IsAmong z (x ∷ ys) ⊎ IsBehind (suc n) (x ∷ ys) z → IsAmong z ys ⊎ IsBehind n ys z
  past_first n x z xs ys less (inl (inl e)) = (let itself : Before x x = subst (Before x) (sym e) less in absurd (apart x x itself itself))
  past_first n x z xs ys less (inl (inr h)) = inl h
  past_first n x z xs ys less (inr behind) = (let whole = behind.0 in inr (omega (arith, whole), behind.1.1))

  others_theirs : (n : ℕ) (x : X) (xs ys : List X) → Rises (x ∷ xs) → HaveTheirs (suc n) (x ∷ xs) (x ∷ ys) → HaveTheirs n xs ys
  others_theirs n x xs ys rises theirs z h = past_first n x z xs ys (each_among (Before x) z xs rises.0 h) (theirs z (inr h))

  none_more : (n : ℕ) (y : X) (ys : List X) → length (y ∷ ys) ≤ n → IsAmong y [] ⊎ IsBehind n [] y → [] ≡ y ∷ ys
  none_more n y ys few (inl h) = absurd h
  none_more n y ys few (inr behind) = (let none = behind.0 in absurd (omega (arith, none, few)))

  pub only_one : (n : ℕ) (xs ys : List X) → Rises xs → Rises ys → HaveTheirs n xs ys → HaveTheirs n ys xs → length xs ≤ n → length ys ≤ n → xs ≡ ys
  only_one n [] [] rx ry to back few_x few_y = refl
  only_one n [] (y ∷ ys) rx ry to back few_x few_y = none_more n y ys few_y (back y (inl refl))
  only_one n (x ∷ xs) [] rx ry to back few_x few_y = sym (none_more n x xs few_x (to x (inl refl)))
  only_one zero (x ∷ xs) (y ∷ ys) rx ry to back few_x few_y = absurd (omega (arith, few_x))
  only_one (suc n) (x ∷ xs) (y ∷ ys) rx ry to back few_x few_y =
      let same = one_first x y (first_up_to (suc n) x y ys ry (to x (inl refl))) (first_up_to (suc n) y x xs rx (back y (inl refl))) in
      let few_others : length xs ≤ n = omega (arith, few_x) in
      let few_more : length ys ≤ n = omega (arith, few_y) in
      subst (λ (z : X). Rises (z ∷ ys) → HaveTheirs (suc n) (x ∷ xs) (z ∷ ys) → HaveTheirs (suc n) (z ∷ ys) (x ∷ xs) → x ∷ xs ≡ z ∷ ys) same
      (λ r t b. ap (λ (others : List X). x ∷ others)
      (only_one n xs ys rx.1 r.1 (others_theirs n x xs ys rx t) (others_theirs n x ys xs r b) few_others few_more)) ry to back

-- ---- records in the order of their keys

abbrev ComesBefore : Record → Record → Type 0
ComesBefore r s = octet_order r.key s.key ≡ Less

not_both : (r s : Record) → ComesBefore r s → ComesBefore s r → ⊥
not_both r s less more = absurd (cc (sym (nat_list_cmp_total.antisymm s.key r.key), more))

rises : (records : List Record) → AreInOrder records → Rises ComesBefore not_both records
rises [] ordered = tt
rises (r ∷ records) ordered = (ordered.0, rises records ordered.1)

pub one_list : (xs ys : List Record) → AreInOrder xs → AreInOrder ys → ((r : Record) → IsAmong r xs ↔ IsAmong r ys) → xs ≡ ys
one_list xs ys in_order_x in_order_y same =
    only_one ComesBefore not_both (length xs + length ys) xs ys (rises xs in_order_x) (rises ys in_order_y) (λ r h. inl ((same r).0 h))
    (λ r h. inl ((same r).1 h)) (omega arith) (omega arith)
