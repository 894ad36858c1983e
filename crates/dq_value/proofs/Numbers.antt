-- A number of few digits is small.
use Rattle.std.proofs.Common.{◌≡◌, ℕ, ◌+◌, ◌*◌, ◌<◌, ◌^◌, ◌-◌, sym, ap, ◌∙◌, arith}
use Rattle.std.proofs.Math.Nat.{pow-le-pow_right, pow-succ', one-le-pow, mul-lt-mul_of_pos_right}
use Rattle.std.proofs.lemmas.Nat.{pow-add}

pub one_more_fits : (n d i : ℕ) → n < 10 ^ i → i < 18 → d < 10 → 10 * n + d < 10 ^ 18
one_more_fits n d i below few small = grind (arith, pow-le-pow_right, pow-succ')

pub unit_positive : (k : ℕ) → 0 < 10 ^ (6 - k)
unit_positive k = one-le-pow (6 - k) 10 (omega arith)

-- a fraction of a second of k digits is less than a second
pub fraction_fits : (n k : ℕ) → n < 10 ^ k → k < 7 → n * 10 ^ (6 - k) < 1_000_000
fraction_fits n k below few =
    let six : k + (6 - k) ≡ 6 = omega arith in
    let whole : 10 ^ k * 10 ^ (6 - k) ≡ 10 ^ 6 = sym (pow-add 10 k (6 - k)) ∙ ap (λ i. 10 ^ i) six in
    let unit = unit_positive k in
    omega (arith, whole, mul-lt-mul_of_pos_right below unit)
