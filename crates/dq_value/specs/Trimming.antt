-- The padding at the ends of a value (PS3.5 section 6.2).
use Rattle.std.specs.Prelude.{◌≡◌, ℕ, Bool, true, false, List, [], ◌∷◌, ◌++◌, nat_eq, ◌||◌, ◌&&◌, if◌then◌else◌}
use Rattle.std.specs.List.{list_all}
use Rattle.dq_vr.specs.declared.Vr.{Vr}
use Rattle.dq_vr.specs.declared.Vr.TheVariants.{AE, CS, DS, IS, LO, SH, UI}
use Rattle.dq_vr.specs.Vr.{is_text}
use Rattle.dq_value.specs.declared.padding.Padding.{Padding}
use Rattle.dq_value.specs.declared.padding.Padding.TheVariants.{Spaces, SpacesAndZeros}

-- character strings and UI are padded at the end to an even length (PS3.5 sections 6.2 and 9.1)
unfoldable pub is_padded : Vr → Bool
is_padded UI = true
is_padded vr = is_text vr

-- leading spaces are not significant (PS3.5 table 6.2-1)
unfoldable pub ignores_leading_spaces : Vr → Bool
ignores_leading_spaces AE = true
ignores_leading_spaces CS = true
ignores_leading_spaces DS = true
ignores_leading_spaces IS = true
ignores_leading_spaces LO = true
ignores_leading_spaces SH = true
ignores_leading_spaces _ = false

-- a space is 20H, and a pad is a space or 00H
abbrev pub is_space : ℕ → Bool
is_space octet = nat_eq octet 0x20

abbrev pub is_pad : ℕ → Bool
is_pad octet = nat_eq octet 0x20 || nat_eq octet 0

-- whether an octet is of a padding
abbrev pub is_padding : Padding → ℕ → Bool
is_padding Spaces = is_space
is_padding SpacesAndZeros = is_pad

-- the octets from the first that fails the test on
unfoldable pub without_leading : (ℕ → Bool) → List ℕ → List ℕ
without_leading test [] = []
without_leading test (octet ∷ others) =
    if test octet then without_leading test others else octet ∷ others

-- an octet is kept before another that is, and at the end where it fails the test
unfoldable pub kept_before : (ℕ → Bool) → ℕ → List ℕ → List ℕ
kept_before test octet [] = if test octet then [] else octet ∷ []
kept_before test octet (next ∷ others) = octet ∷ (next ∷ others)

-- the octets up to the last that fails the test
unfoldable pub without_trailing : (ℕ → Bool) → List ℕ → List ℕ
without_trailing test [] = []
without_trailing test (octet ∷ others) = kept_before test octet (without_trailing test others)

-- a value without the padding at its end
unfoldable pub without_padding : Vr → List ℕ → List ℕ
without_padding vr octets = if is_padded vr then without_trailing is_pad octets else octets

-- a value without padding at its end, and without leading spaces where they are not significant
unfoldable pub trimmed_value : Vr → List ℕ → List ℕ
trimmed_value vr octets =
    if ignores_leading_spaces vr then without_leading is_space (without_padding vr octets)
    else without_padding vr octets

-- the first octet, or the last, passes the test
abbrev pub first_is : (ℕ → Bool) → List ℕ → Bool
first_is test [] = false
first_is test (octet ∷ others) = test octet

abbrev pub last_is : (ℕ → Bool) → List ℕ → Bool
last_is test [] = false
last_is test (octet ∷ []) = test octet
last_is test (octet ∷ (next ∷ others)) = last_is test (next ∷ others)

-- what is kept of a value: all but spaces before it, where leading ones have no meaning, and pads
-- behind it, where it is padded, and none of those is left
pub record IsTrimming (leading padded : Bool) (octets kept : List ℕ) : Type 0 where
  pub before : List ℕ
  pub after : List ℕ
  pub whole : octets ≡ before ++ (kept ++ after)
  pub spaces : list_all (λ octet. leading && is_space octet) before ≡ true
  pub pads : list_all (λ octet. padded && is_pad octet) after ≡ true
  pub no_space : (leading && first_is is_space kept) ≡ false
  pub no_pad : (padded && last_is is_pad kept) ≡ false
