-- Odd octets that are distinct: there are at most 128.
use Rattle.std.proofs.Common.{◌≡◌, ℕ, zero, suc, ◌+◌, ◌%◌, ◌<◌, ◌≤◌, true, false, cond, eqb, ltb, List, [], ◌∷◌, length, refl, arith, inl, inr}
use Rattle.std.specs.Prelude.{not}
use Rattle.std.specs.List.{list_all}
use Rattle.std.proofs.lemmas.Bool.{and_parts, or_parts, eqb-true, eqb-false, ltb-true, not-true, cases_Bool}
use Rattle.dq_pdu.specs.Octets.{is_number_among, are_distinct}
use Rattle.dq_pdu.specs.PduReader.{is_odd}
use Rattle.dq_pdu.specs.Acceptances.{AreContextIds}

-- odd numbers below a bound
abbrev OddBelow : ℕ → List ℕ → Type 0
OddBelow n [] = Unit {0}
OddBelow n (x ∷ xs) = (x % 2 ≡ 1) × (x < n) × OddBelow n xs

abbrev without : ℕ → List ℕ → List ℕ
without x [] = []
without x (y ∷ ys) = cond (eqb x y) (without x ys) (y ∷ without x ys)

-- the number is not lost twice
without_absent : (x : ℕ) (xs : List ℕ) → is_number_among x xs ≡ false → without x xs ≡ xs
without_absent x [] e = refl
without_absent x (y ∷ ys) e =
    let p = or_parts (eqb x y) (is_number_among x ys) e in
    rw (p.0, without_absent x ys p.1) refl

fewer_by_one : (x : ℕ) (xs : List ℕ) → are_distinct xs ≡ true → length xs ≤ length (without x xs) + 1
fewer_by_one x [] e = omega arith
fewer_by_one x (y ∷ ys) e =
    let p = and_parts (not (is_number_among y ys)) (are_distinct ys) e in
    elim (cases_Bool (eqb x y)) [
      | inl same ↦
          let absent : is_number_among x ys ≡ false = rw (eqb-true x y same) (not-true (is_number_among y ys) p.0) in
          rw (same, without_absent x ys absent) (omega arith)
      | inr other ↦
          let ih = fewer_by_one x ys p.1 in
          rw other (omega (arith, ih))
    ]

absent_without : (x z : ℕ) (xs : List ℕ) → is_number_among z xs ≡ false → is_number_among z (without x xs) ≡ false
absent_without x z [] e = refl
absent_without x z (y ∷ ys) e =
    let p = or_parts (eqb z y) (is_number_among z ys) e in
    let ih = absent_without x z ys p.1 in
    elim (cases_Bool (eqb x y)) [
      | inl same ↦ rw same ih
      | inr other ↦ rw (other, p.0) ih
    ]

distinct_without : (x : ℕ) (xs : List ℕ) → are_distinct xs ≡ true → are_distinct (without x xs) ≡ true
distinct_without x [] e = refl
distinct_without x (y ∷ ys) e =
    let p = and_parts (not (is_number_among y ys)) (are_distinct ys) e in
    let ih = distinct_without x ys p.1 in
    elim (cases_Bool (eqb x y)) [
      | inl same ↦ rw same ih
      | inr other ↦ rw (other, absent_without x y ys (not-true (is_number_among y ys) p.0)) ih
    ]

-- without the greatest odd number below the bound, the others are below a lower one
below_without : (k n : ℕ) (xs : List ℕ) → n ≡ k + k + 2 → OddBelow n xs → OddBelow (k + k) (without (k + k + 1) xs)
below_without k n [] e h = tt
below_without k n (y ∷ ys) e h = grind (arith, cases_Bool, eqb-false, below_without k n ys e h.2)

few : (k n : ℕ) (xs : List ℕ) → n ≡ k + k → are_distinct xs ≡ true → OddBelow n xs → length xs ≤ k
few zero n [] e d h = omega arith
few zero n (x ∷ xs) e d h = absurd (omega (arith, e, h.1))
few (suc k) n xs e d h =
    let ih = few k (k + k) (without (k + k + 1) xs) refl (distinct_without (k + k + 1) xs d) (below_without k n xs (omega (arith, e)) h) in
    omega (arith, ih, fewer_by_one (k + k + 1) xs d)

odd_below : (xs : List ℕ) → list_all is_odd xs ≡ true → list_all (λ id. ltb id 256) xs ≡ true → OddBelow 256 xs
odd_below [] o b = tt
odd_below (x ∷ xs) o b =
    let p = and_parts (is_odd x) (list_all is_odd xs) o in
    let q = and_parts (ltb x 256) (list_all (λ id. ltb id 256) xs) b in
    (eqb-true _ _ p.0, ltb-true x 256 q.0, odd_below xs p.1 q.1)

pub few_ids : (ids : List ℕ) → AreContextIds ids → length ids ≤ 128
few_ids ids are = few 128 256 ids refl are.distinct (odd_below ids are.odd are.octets)
