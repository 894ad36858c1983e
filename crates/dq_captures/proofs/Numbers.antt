-- Decimal digits without leading zeros are what is printed of one number, and of one alone.
use Rattle.std.proofs.Common.{◌≡◌, ◌≢◌, ℕ, zero, suc, ◌<◌, ◌≤◌, true, List, length, get_or, Result, Ok, Err, MatchResult, sym, ap, arith, lit<}
use Rattle.std.specs.Str.{all_ascii_digits}
use Rattle.std.specs.Str.Parse.{ParsesUnsigned, digits_value}
use Rattle.std.specs.Fmt.{decimal}
use Rattle.std.proofs.lemmas.Str.Parse.{IsNumeralModel, numerals_by_value, tells_all_ascii_digits, parse_plain, not_in_digits}
use Rattle.std.proofs.lemmas.Fmt.{decimal-digits_value, parse-decimal, decimal_nonempty, decimal_digit, first_decimal, digits_decimal}
use Rattle.dq_captures.specs.Captures.{IsNumber}

own : IsNumeralModel (λ ds. all_ascii_digits ds ≡ true) (digits_value 10)
own = numerals_by_value _ tells_all_ascii_digits

-- what `parse` gives, where neither a sign nor a leading zero is there
pub IsNumber-parsed : {E : Type 0} (bs : List ℕ) (r : Result ℕ E) → ParsesUnsigned 64 10 bs r → get_or bs 0 0 ≢ 43 → (get_or bs 0 0 ≡ 48 → length bs ≤ 1)
    → MatchResult r (IsNumber bs) (λ _. (n : ℕ) → IsNumber bs n → ⊥)
IsNumber-parsed {E} bs (Ok n) parsed unsigned short =
    let read = parse_plain own {E = E} 64 bs (Ok n) parsed unsigned in
    let digits = read.0 in
    let same = decimal-digits_value own bs digits.0 digits.1 (λ zero. omega (arith, short zero, digits.1)) digits.2 in
    (rw read.1 digits.2, rw read.1 (sym same))
IsNumber-parsed {E} bs (Err e) parsed unsigned short = λ n is. let read = parse-decimal {E = E} 64 n bs (Err e) is.0 is.0 is.1 parsed in cc

pub IsNumber-signed : (bs : List ℕ) → get_or bs 0 0 ≡ 43 → (n : ℕ) → IsNumber bs n → ⊥
IsNumber-signed bs plus n is =
    let digits = digits_decimal own n is.0 in
    let some = decimal_nonempty n is.0 in
    let apart : get_or (decimal n) 0 0 ≢ 43 = not_in_digits own (decimal n) 43 digits (λ range. omega (arith, range)) 0 some in
    apart (rw (← is.1) plus)

pub IsNumber-zero : (bs : List ℕ) → get_or bs 0 0 ≡ 48 → 1 < length bs → (n : ℕ) → IsNumber bs n → ⊥
IsNumber-zero bs starts long zero is =
    let one = decimal_digit 0 (lit< tt) in
    omega (arith, rw one at (ap length is.1))
IsNumber-zero bs starts long (suc n) is =
    let first = first_decimal (suc n) (omega arith) is.0 in
    omega (arith, rw (← is.1) at first)

-- no space is among the digits
pub IsNumber-spaceless : (bs : List ℕ) (n : ℕ) → IsNumber bs n → (i : ℕ) → i < length bs → get_or bs i 0 ≢ 32
IsNumber-spaceless bs n is i below =
    rw is.1 (not_in_digits own (decimal n) 32 (digits_decimal own n is.0) (λ range. omega (arith, range)) i (rw is.1 at below))
