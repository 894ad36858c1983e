-- Numbers that options tell.
use Rattle.std.proofs.Common.{◌≡◌, ◌≢◌, ◌^◌, ◌<◌, ℕ, Bool, true, false, if◌then◌else◌, List, length, get_or, Some, None, option_and_then, Result, Ok, Err, refl, ◌∙◌, ap}
use Rattle.std.specs.Prelude.{◌&&◌, nat_lt}
use Rattle.std.specs.Result.{result_ok}
use Rattle.std.specs.Str.{all_ascii_digits}
use Rattle.std.specs.Str.Parse.{ParsesUnsigned, digits_value}
use Rattle.std.proofs.lemmas.Bool.{ltb-true, lt-ltb}
use Rattle.std.proofs.lemmas.Str.Parse.{IsNumeralModel, numerals_by_value, tells_all_ascii_digits, parse_plain}
use Rattle.dq_cli.specs.CommandLine.{number_below, positive_below}

own : IsNumeralModel (λ ds. all_ascii_digits ds ≡ true) (digits_value 10)
own = numerals_by_value _ tells_all_ascii_digits

if_true : {T : Type 0} (b : Bool) (x : T) → b ≡ true → Some x ≡ (if b then Some x else None)
if_true true x is = refl
if_true false x is = cc

if_false : {T : Type 0} (b : Bool) (x : T) → (b ≡ true → ⊥) → None ≡ (if b then Some x else None)
if_false true x = λ no. absurd (no refl)
if_false false x = λ no. refl

all_three : (a b c : Bool) → a ≡ true → b ≡ true → c ≡ true → (a && (b && c)) ≡ true
all_three a b c p q r = rw (p, q, r) refl

of_three : (a b c : Bool) → (a && (b && c)) ≡ true → (a ≡ true) × (b ≡ true) × (c ≡ true)
of_three true true true is = (refl, refl, refl)
of_three true true false is = cc
of_three true false c is = cc
of_three false b c is = cc

-- what `parse` gives, where no sign is there
pub number-told : {E : Type 0} (bits : ℕ) (text : List ℕ) (r : Result ℕ E) → ParsesUnsigned bits 10 text r → get_or text 0 0 ≢ 43
    → result_ok r ≡ number_below (2 ^ bits) text
number-told {E} bits text (Ok n) parsed unsigned =
    let read = parse_plain own {E = E} bits text (Ok n) parsed unsigned in
    let digits = read.0 in
    rw read.1 (if_true _ (digits_value 10 text)
    (all_three (all_ascii_digits text) _ _ digits.0 (lt-ltb 0 (length text) digits.1) (lt-ltb (digits_value 10 text) (2 ^ bits) digits.2)))
number-told {E} bits text (Err e) parsed unsigned =
    let unread = parse_plain own {E = E} bits text (Err e) parsed unsigned in
    if_false _ (digits_value 10 text) (λ is.
    let parts = of_three (all_ascii_digits text) (nat_lt 0 (length text)) (nat_lt (digits_value 10 text) (2 ^ bits)) is in
    unread (parts.0, ltb-true 0 (length text) parts.1, ltb-true (digits_value 10 text) (2 ^ bits) parts.2))

-- no text, no number; and one that is no 0 is told
pub no-positive : (bound : ℕ) (text : List ℕ) → None ≡ number_below bound text → None ≡ positive_below bound text
no-positive bound text told = ap (option_and_then (λ number. if nat_lt 0 number then Some number else None)) told

pub positive-told : (bound : ℕ) (text : List ℕ) (number : ℕ) → 0 < number → Some number ≡ number_below bound text
    → Some number ≡ positive_below bound text
positive-told bound text number some told =
    if_true (nat_lt 0 number) number (lt-ltb 0 number some)
    ∙ ap (option_and_then (λ number. if nat_lt 0 number then Some number else None)) told
