-- Several values of a key, looked at together.
use Rattle.std.specs.Prelude.{◌≡◌, ℕ, Bool, not, nat_eq, ◌||◌, List}
use Rattle.std.specs.List.{list_any, list_all}
use Rattle.dq_match.specs.declared.values.Matching.{Matching}
use Rattle.dq_match.specs.Values.{is_same, is_met_by_value}
use Rattle.dq_match.specs.Wildcards.{any_run, any_one}

abbrev pub is_one_of_values : List ℕ → List (List ℕ) → Bool
is_one_of_values value values = list_any (is_same value) values

-- the values of a key are met by equality
abbrev pub AreMetByEquality : Matching → List (List ℕ) → Type 0
AreMetByEquality matching keys =
    (value : List ℕ) → is_met_by_value matching keys value ≡ is_one_of_values value keys

-- an octet is no wild card
abbrev pub is_plain_octet : ℕ → Bool
is_plain_octet octet = not (nat_eq octet any_run || nat_eq octet any_one)

abbrev pub is_plain : List ℕ → Bool
is_plain value = list_all is_plain_octet value
