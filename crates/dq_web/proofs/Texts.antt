-- Octets that are all ASCII, and what a Content-Length says.
use Rattle.std.proofs.Common.{◌≡◌, ◌<◌, ◌^◌, ◌∙◌, ℕ, Bool, true, false, not, List, [], ◌∷◌, length, Result, Err, ap, sym, refl, eqb, inl, inr, arith}
use Rattle.std.specs.Prelude.{◌&&◌}
use Rattle.std.specs.Char.{is_ascii_digit}
use Rattle.std.specs.List.{list_all}
use Rattle.std.specs.Str.{IsAscii, IsUtf8, is_utf8, all_ascii_digits}
use Rattle.std.specs.Str.Parse.{ParsesUnsigned, digits_value}
use Rattle.std.proofs.lemmas.Bool.{and_parts, cases_lt, false_from_ne_true}
use Rattle.std.proofs.lemmas.Bool.Decides.{nat_tests}
use Rattle.std.proofs.lemmas.Str.{IsUtf8-from_ascii, IsUtf8-from_is_utf8}
use Rattle.std.proofs.lemmas.Str.Ascii.{IsAscii-nil, IsAscii-cons}
use Rattle.std.proofs.lemmas.Str.Parse.{IsNumeralModel, numerals_by_value, tells_all_ascii_digits, parse_digits}
use Rattle.std.proofs.lemmas.Result.{OkIff-at_err}
use Rattle.dq_web.specs.Aims.{is_visible}
use Rattle.dq_web.specs.Requests.{is_numeral}

ascii : (test : ℕ → Bool) → ((octet : ℕ) → test octet ≡ true → octet < 128) → (octets : List ℕ) → list_all test octets ≡ true → IsAscii octets
ascii test each [] all = IsAscii-nil
ascii test each (octet ∷ octets) all =
    let both = and_parts (test octet) (list_all test octets) all in
    IsAscii-cons octet octets (each octet both.0) (ascii test each octets both.1)

visible-ascii : (octet : ℕ) → is_visible octet ≡ true → octet < 128
visible-ascii octet is = grind (arith, nat_tests)

digit-ascii : (octet : ℕ) → is_ascii_digit octet ≡ true → octet < 128
digit-ascii octet is = grind (arith, nat_tests)

-- visible octets are text
pub visible-text : (octets : List ℕ) → list_all is_visible octets ≡ true → IsUtf8 octets
visible-text octets all = IsUtf8-from_ascii octets (ascii is_visible visible-ascii octets all)

-- so are digits
pub digits-text : (octets : List ℕ) → list_all is_ascii_digit octets ≡ true → IsUtf8 octets
digits-text octets all = IsUtf8-from_ascii octets (ascii is_ascii_digit digit-ascii octets all)

pub no-text : (octets : List ℕ) → ¬ (IsUtf8 octets) → is_utf8 octets ≡ false
no-text octets none = false_from_ne_true (is_utf8 octets) (λ is. none (IsUtf8-from_is_utf8 octets is))

same-digits : (octets : List ℕ) → list_all is_ascii_digit octets ≡ all_ascii_digits octets
same-digits [] = refl
same-digits (octet ∷ octets) = ap (λ (rest : Bool). is_ascii_digit octet && rest) (same-digits octets)

own : IsNumeralModel (λ ds. all_ascii_digits ds ≡ true) (digits_value 10)
own = numerals_by_value _ tells_all_ascii_digits

nonzero : (text : List ℕ) → not (eqb (length text) 0) ≡ true → 0 < length text
nonzero text is = grind (arith, nat_tests)

-- digits that no 64 bits hold
pub too-large : {E : Type 0} → (text : List ℕ) (result : Result ℕ E) (error : E) → ParsesUnsigned 64 10 text result → result ≡ Err error
    → is_numeral text ≡ true → 0x100000 < digits_value 10 text
too-large text result error parses is numeral =
    let both = and_parts (not (eqb (length text) 0)) (list_all is_ascii_digit text) numeral in
    let none = OkIff-at_err result _ _ error (parse_digits own 64 text result parses (sym (same-digits text) ∙ both.1)) is in
    elim (cases_lt (digits_value 10 text) (2 ^ 64)) [
      | inl less ↦ absurd (none (nonzero text both.0, less))
      | inr more ↦ omega arith
    ]
