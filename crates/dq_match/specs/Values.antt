-- Matching of one element without items, by its VR (PS3.4 sections C.2.2.2.1 to C.2.2.2.3).
use Rattle.std.specs.Prelude.{ℕ, Bool, true, false, List, [], ◌∷◌, is_some, nat_eq, ◌||◌, ◌&&◌}
use Rattle.std.specs.List.{list_any, list_all}
use Rattle.std.specs.Cmp.Lexicographic.{pointwise}
use Rattle.dq_list.specs.Lengths.{is_empty}
use Rattle.dq_vr.specs.declared.Vr.{Vr}
use Rattle.dq_vr.specs.declared.Vr.TheVariants.{AE, CS, DA, LO, LT, PN, SH, ST, TM, UC, UT}
use Rattle.dq_value.specs.Day.{day}
use Rattle.dq_value.specs.Time.{span}
use Rattle.dq_value.specs.Trimming.{is_padded, without_trailing}
use Rattle.dq_value.specs.Parts.{element_values}
use Rattle.dq_match.specs.declared.values.Matching.{Matching}
use Rattle.dq_match.specs.declared.values.Matching.TheVariants.{Name, WildCard, Date, Time, Equality}
use Rattle.dq_match.specs.declared.wildcards.Casing.TheVariants.{Exact, Folded}
use Rattle.dq_match.specs.Wildcards.{wild, any_run}
use Rattle.dq_match.specs.Ranges.{bounds, date_meets, time_meets}

abbrev pub is_same : List ℕ → List ℕ → Bool
is_same a b = pointwise nat_eq a b

-- how a VR is matched: names by wild card whatever their case, other text by wild card, dates and
-- times by range, and the rest by equality
unfoldable pub matching_of : Vr → Matching
matching_of PN = Name
matching_of AE = WildCard
matching_of CS = WildCard
matching_of LO = WildCard
matching_of LT = WildCard
matching_of SH = WildCard
matching_of ST = WildCard
matching_of UC = WildCard
matching_of UT = WildCard
matching_of DA = Date
matching_of TM = Time
matching_of _ = Equality

-- spaces and the delimiters `^` and `=` after the last component of a name say nothing (PS3.5
-- section 6.2.1)
abbrev pub is_name_pad : ℕ → Bool
is_name_pad octet = (nat_eq octet 0x20 || nat_eq octet 0x5e) || nat_eq octet 0x3d

abbrev pub compared_name : List ℕ → List ℕ
compared_name octets = without_trailing is_name_pad octets

-- one value of the key is met by one of the record (C.2.2.2.1)
abbrev pub value_meets : Matching → List ℕ → List ℕ → Bool
value_meets Name key value = wild Folded (compared_name key) (compared_name value)
value_meets WildCard key value = wild Exact key value
value_meets Date key value = date_meets key value
value_meets Time key value = time_meets key value
value_meets Equality key value = is_same key value

-- a key without values, or whose only value is `*` in text or a UID, is universal (C.2.2.2.3)
abbrev pub is_asterisk : List (List ℕ) → Bool
is_asterisk [] = false
is_asterisk (value ∷ []) = is_same value (any_run ∷ [])
is_asterisk (value ∷ (next ∷ others)) = false

unfoldable pub is_universal : Vr → List ℕ → Bool
is_universal vr octets =
    is_empty (element_values vr octets) || (is_padded vr && is_asterisk (element_values vr octets))

-- some value of the key is met by one of the record
abbrev pub is_met_by_value : Matching → List (List ℕ) → List ℕ → Bool
is_met_by_value matching keys value = list_any (λ key. value_meets matching key value) keys

-- and by some value of the record (C.2.2.2.2)
abbrev pub some_meet : Matching → List (List ℕ) → List (List ℕ) → Bool
some_meet matching keys values = list_any (is_met_by_value matching keys) values

-- A record without values is unknown, and meets every key.
unfoldable pub octets_meet : Vr → List ℕ → List ℕ → Bool
octets_meet vr key held =
    (is_universal vr key || is_empty (element_values vr held))
    || some_meet (matching_of vr) (element_values vr key) (element_values vr held)

-- a value of a date or time key is one date or time, or a range
abbrev pub is_well_formed_value : Matching → List ℕ → Bool
is_well_formed_value Date key = is_some (bounds day key)
is_well_formed_value Time key = is_some (bounds span key)
is_well_formed_value _ key = true

unfoldable pub are_well_formed : Vr → List ℕ → Bool
are_well_formed vr key =
    is_universal vr key || list_all (is_well_formed_value (matching_of vr)) (element_values vr key)
