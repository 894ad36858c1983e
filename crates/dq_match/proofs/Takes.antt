-- What is read of a key takes the values that meet it.
use Rattle.std.proofs.Common.{◌≡◌, ℕ, Bool, ◌||◌, List, [], ◌∷◌, map, Option, option_map, refl, sym, ap, ◌∙◌}
use Rattle.std.specs.List.{list_any}
use Rattle.jiff_core.specs.declared.civil.date.Date.{Date}
use Rattle.dq_vr.specs.declared.Vr.{Vr}
use Rattle.dq_value.specs.Day.{day}
use Rattle.dq_value.specs.Time.{Span, span}
use Rattle.dq_value.specs.Parts.{element_values}
use Rattle.dq_match.specs.declared.value_keys.KeyValues.{KeyValues}
use Rattle.dq_match.specs.declared.values.Matching.TheVariants.{Date as ByDate, Time as ByTime}
use Rattle.dq_match.specs.Ranges.{Bounds, bounds, both, has_day, has_time, date_meets, time_meets}
use Rattle.dq_match.specs.DateBounds.{days_of}
use Rattle.dq_match.specs.Values.{matching_of, is_met_by_value}
use Rattle.dq_match.specs.Takes.{is_taken, AreTaken}

any_map : {A B : Type 0} (test : B → Bool) (f : A → B) (xs : List A) → list_any (λ x. test (f x)) xs ≡ list_any test (map f xs)
any_map test f [] = refl
any_map test f (x ∷ xs) = ap (λ (b : Bool). test (f x) || b) (any_map test f xs)

pub dates_taken : (ranges : List (Option (Bounds Date))) (keys : List (List ℕ)) (value : List ℕ) → map (option_map days_of) ranges ≡ map (bounds day) keys
    → list_any (λ range. both has_day (option_map days_of range) (day value)) ranges ≡ is_met_by_value ByDate keys value
unfolding date_meets
dates_taken ranges keys value same =
    any_map (λ range. both has_day range (day value)) (option_map days_of) ranges ∙ ap (list_any (λ range. both has_day range (day value))) same
    ∙ sym (any_map (λ range. both has_day range (day value)) (bounds day) keys)

pub times_taken : (ranges : List (Option (Bounds Span))) (keys : List (List ℕ)) (value : List ℕ) → ranges ≡ map (bounds span) keys
    → list_any (λ range. both has_time range (span value)) ranges ≡ is_met_by_value ByTime keys value
unfolding time_meets
times_taken ranges keys value same =
    ap (list_any (λ range. both has_time range (span value))) same ∙ sym (any_map (λ range. both has_time range (span value)) (bounds span) keys)

-- what is taken of the values as they were read
pub takes_by : (vr : Vr) (octets : List ℕ) (it : Vr × List ℕ) (all values : KeyValues) (value : List ℕ) (taken : Bool) → (vr, octets) ≡ it → all ≡ values
    → AreTaken vr octets all → taken ≡ is_taken values (matching_of vr) (element_values vr octets) value
    → taken ≡ is_met_by_value (matching_of it.0) (element_values it.0 it.1) value
takes_by vr octets it all values value taken view is facts here =
    here ∙ ap (λ (x : KeyValues). is_taken x (matching_of vr) (element_values vr octets) value) (sym is) ∙ facts value
    ∙ ap (λ (x : Vr × List ℕ). is_met_by_value (matching_of x.0) (element_values x.0 x.1) value) view
