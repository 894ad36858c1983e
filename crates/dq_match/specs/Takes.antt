-- The values of a key as they are read once, before records are matched against it.
use Rattle.std.specs.Prelude.{◌≡◌, ℕ, Bool, List, option_map}
use Rattle.std.specs.List.{list_any}
use Rattle.dq_list.specs.Octets.{octets_of_vectors}
use Rattle.dq_vr.specs.declared.Vr.{Vr}
use Rattle.dq_value.specs.Day.{day}
use Rattle.dq_value.specs.Time.{span}
use Rattle.dq_value.specs.Parts.{element_values}
use Rattle.dq_match.specs.declared.value_keys.KeyValues.{KeyValues}
use Rattle.dq_match.specs.declared.value_keys.KeyValues.TheVariants.{Equal, Dates, Times, Patterns}
use Rattle.dq_match.specs.declared.values.Matching.{Matching}
use Rattle.dq_match.specs.Ranges.{both, has_day, has_time}
use Rattle.dq_match.specs.DateBounds.{days_of}
use Rattle.dq_match.specs.Values.{matching_of, is_met_by_value}
use Rattle.dq_match.specs.SeveralValues.{is_one_of_values}

-- a value is taken: it is one of the set, or in a range, or some value of the key is met by it
abbrev pub is_taken : KeyValues → Matching → List (List ℕ) → List ℕ → Bool
is_taken (Equal set) matching keys value = is_one_of_values value (octets_of_vectors set.keys)
is_taken (Dates ranges) matching keys value =
    list_any (λ range. both has_day (option_map days_of range) (day value)) ranges
is_taken (Times ranges) matching keys value =
    list_any (λ range. both has_time range (span value)) ranges
is_taken Patterns matching keys value = is_met_by_value matching keys value

-- what is read of a key takes the values that meet it, and no others
abbrev pub AreTaken : Vr → List ℕ → KeyValues → Type 0
AreTaken vr octets values =
    (value : List ℕ) → is_taken values (matching_of vr) (element_values vr octets) value
    ≡ is_met_by_value (matching_of vr) (element_values vr octets) value
