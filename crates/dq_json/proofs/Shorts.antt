-- The number that decimal digits spell.
use Rattle.std.proofs.Common.{◌≡◌, ℕ, ◌<◌, ◌^◌, List, [], ◌∷◌, length, true, false, nat_lt, Option, Some, None, Result, Ok, Err, arith, rules, refl}
use Rattle.std.specs.Char.{is_ascii_digit}
use Rattle.std.specs.List.{list_all}
use Rattle.std.specs.Result.{OkIff, result_ok}
use Rattle.std.specs.Str.Parse.{ParsesUnsigned, digits_value}
use Rattle.std.proofs.lemmas.Str.Parse.{IsNumeralModel, numerals_by_value, parse_digits}
use Rattle.dq_json.specs.Values.{short_in}

own : IsNumeralModel (λ ds. list_all is_ascii_digit ds ≡ true) (digits_value 10)
own = numerals_by_value _ (search rules)

outcome : {E : Type 0} (text : List ℕ) (r : Result ℕ E) → list_all is_ascii_digit text ≡ true
    → OkIff r ((0 < length text) × (digits_value 10 text < 2 ^ 16)) (digits_value 10 text) → result_ok r ≡ short_in text
unfolding short_in
outcome text (Ok number) digits is = grind (arith, digits)
outcome text (Err e) digits is = grind (arith, digits)

pub short_read : {E : Type 0} (text : List ℕ) (r : Result ℕ E) → ParsesUnsigned 16 10 text r → list_all is_ascii_digit text ≡ true
    → result_ok r ≡ short_in text
short_read text r parses digits = outcome text r digits (parse_digits own 16 text r parses digits)
