-- Numbers and their digits.
use Rattle.std.proofs.Common.{◌≡◌, ℕ, zero, suc, ◌+◌, ◌-◌, ◌*◌, ◌/◌, ◌%◌, ◌^◌, ◌<◌, ◌≤◌, Bool, true, false, cond, List, [], ◌∷◌, ◌++◌, length, Option, Some, None, refl, sym, ap, ◌∙◌, arith}
use Rattle.std.proofs.Math.Nat.{pow-suc, pow-succ', div-one, div-div-eq-div-mul, lt-div-mul-add, one-le-pow}
use Rattle.std.proofs.lemmas.Bool.Decides.{nat_tests}
use Rattle.std.proofs.lemmas.List.{length-append}
use Rattle.dq_value.specs.Digits.{is_digit, number_after, number, digits}

-- one more digit behind a number
abbrev with_digit : ℕ → Option ℕ → Option ℕ
with_digit x None = None
with_digit x (Some n) = cond (is_digit x) (Some (10 * n + (x - 48))) None

push-case : (b : Bool) (x : ℕ) (o r : Option ℕ) → r ≡ with_digit x o → cond b r None ≡ with_digit x (cond b o None)
push-case true x o r e = e
push-case false x o r e = refl

number_after-push : (before x : ℕ) (xs : List ℕ) → number_after before (xs ++ x ∷ []) ≡ with_digit x (number_after before xs)
unfolding number_after
number_after-push before x [] = refl
number_after-push before x (y ∷ ys) = search (push-case, number_after-push (10 * before + (y - 48)) x ys)

with_last : (n r : ℕ) → r < 10 → with_digit (48 + r) (Some n) ≡ Some (10 * n + r)
with_last n r small = grind (arith, nat_tests)

after-digits : (count n : ℕ) → n < 10 ^ count → number_after 0 (digits count n) ≡ Some n
unfolding number_after digits
after-digits zero n small = ap Some (omega arith)
after-digits (suc count) n small =
    let front : n / 10 < 10 ^ count = omega (arith, pow-succ' 10 count) in
    let whole : 10 * (n / 10) + n % 10 ≡ n = omega arith in
    number_after-push 0 (48 + n % 10) (digits count (n / 10))
    ∙ ap (with_digit (48 + n % 10)) (after-digits count (n / 10) front)
    ∙ with_last (n / 10) (n % 10) (omega arith)
    ∙ ap Some whole

pub length-digits : (count n : ℕ) → length (digits count n) ≡ count
unfolding digits
length-digits zero n = refl
length-digits (suc count) n = simp length-append (rw (length-digits count (n / 10)) (omega arith))

pub number-some : (octets : List ℕ) → 0 < length octets → number octets ≡ number_after 0 octets
unfolding number
number-some [] some = absurd (omega arith)
number-some (octet ∷ others) some = refl

pub number-digits : (count n : ℕ) → 0 < count → n < 10 ^ count → number (digits count n) ≡ Some n
number-digits count n some small = number-some (digits count n) (omega (arith, length-digits count n)) ∙ after-digits count n small

-- the first digit
digits-cons : (count n : ℕ) → digits (suc count) n ≡ (48 + n / 10 ^ count % 10) ∷ digits count n
unfolding digits
digits-cons zero n = ap (λ m. (48 + m % 10) ∷ []) (sym (div-one n))
digits-cons (suc count) n = grind (arith, nat_tests, div-div-eq-div-mul, pow-succ', digits-cons count (n / 10))

abbrev AreDigits : List ℕ → ℕ → ℕ → Type 0
AreDigits xs before n = (xs ≡ digits (length xs) n) × (n / 10 ^ length xs ≡ before)

first_digit : (m before x : ℕ) → m ≡ 10 * before + (x - 48) → 48 ≤ x → x ≤ 57 → x ≡ 48 + m % 10
first_digit m before x e low high = omega arith

digits_before : (m before x : ℕ) → m ≡ 10 * before + (x - 48) → 48 ≤ x → x ≤ 57 → m / 10 ≡ before
digits_before m before x e low high = omega arith

only-case : (b : Bool) (x before n : ℕ) (xs : List ℕ) → is_digit x ≡ b
    → (number_after (10 * before + (x - 48)) xs ≡ Some n → AreDigits xs (10 * before + (x - 48)) n)
    → cond b (number_after (10 * before + (x - 48)) xs) None ≡ Some n → AreDigits (x ∷ xs) before n
only-case false x before n xs shown inner e = absurd (cc)
only-case true x before n xs shown inner e =
    let low : 48 ≤ x = grind (arith, nat_tests) in
    let high : x ≤ 57 = grind (arith, nat_tests) in
    let rest = inner e in
    let count = length xs in
    let first = first_digit (n / 10 ^ count) before x rest.1 low high in (
      ap (λ d. d ∷ xs) first ∙ ap (λ ds. (48 + n / 10 ^ count % 10) ∷ ds) rest.0 ∙ sym (digits-cons count n),
      ap (λ p. n / p) (pow-suc 10 count) ∙ sym (div-div-eq-div-mul n (10 ^ count) 10) ∙ digits_before (n / 10 ^ count) before x rest.1 low high,
    )

number_after-only : (xs : List ℕ) (before n : ℕ) → number_after before xs ≡ Some n → AreDigits xs before n
unfolding number_after digits
number_after-only [] before n e = grind (arith, nat_tests, div-one)
number_after-only (x ∷ xs) before n e = only-case (is_digit x) x before n xs refl (number_after-only xs (10 * before + (x - 48)) n) e

below_power : (n p : ℕ) → 0 < p → n / p ≡ 0 → n < p
below_power n p some e = grind (arith, nat_tests, lt-div-mul-add)

pub number-only : (octets : List ℕ) (n : ℕ) → number octets ≡ Some n → (octets ≡ digits (length octets) n) × (n < 10 ^ length octets)
unfolding number
number-only [] n e = absurd cc
number-only (x ∷ xs) n e =
    let octets = x ∷ xs in
    let found = number_after-only octets 0 n e in
    (found.0, below_power n (10 ^ length octets) (one-le-pow (length octets) 10 (omega arith)) found.1)
