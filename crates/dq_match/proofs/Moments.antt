-- Ranges of dates as an order of days, and periods as an order of moments.
use Rattle.std.proofs.Common.{◌≡◌, ℕ, ℤ, ◌≤◌, ◌≤ℤ◌, ◌<ℤ◌, Bool, true, false, nat_le, ◌&&◌, ◌↔◌, ◌⊎◌, List, Some, None, refl, arith}
use Rattle.std.specs.Prelude.{int_le}
use Rattle.std.proofs.lemmas.Int.{ints}
use Rattle.std.proofs.lemmas.Bool.{and_parts, or_cases}
use Rattle.std.proofs.lemmas.Bool.Decides.{nat_tests, Decides-int_eq}
use Rattle.dq_value.specs.Day.{day}
use Rattle.dq_value.specs.Time.{Span}
use Rattle.dq_value.specs.Range.{range_ends, end_of}
use Rattle.dq_match.specs.Ranges.{Bounds, unless_open, has_day, has_time, date_meets, is_from, is_until}
use Rattle.dq_match.proofs.Between.{no_day, closed, single}

pub le_true : (a b : ℤ) → int_le a b ≡ true → a ≤ℤ b
le_true a b h = grind (arith, ints)

pub true_le : (a b : ℤ) → a ≤ℤ b → int_le a b ≡ true
true_le a b h = grind (arith, ints)

pub has_day_between : (first last date : ℤ) → (has_day (Some first, Some last) date ≡ true) ↔ ((first ≤ℤ date) × (date ≤ℤ last))
has_day_between first last date = grind (arith, nat_tests, and_parts, le_true, true_le)

-- a moment is at or after another: by day, and then by microsecond
pub is_from_is_order : (first : ℤ) (time : Span) (date : ℤ) (microsecond : ℕ)
    → (is_from (Some first) (Some time) date microsecond ≡ true) ↔ ((first <ℤ date) ⊎ ((first ≡ date) × (time.0 ≤ microsecond)))
is_from_is_order first time date microsecond = grind (arith, nat_tests, ints, Decides-int_eq, and_parts, or_cases)

pub is_until_is_order : (last : ℤ) (time : Span) (date : ℤ) (microsecond : ℕ)
    → (is_until (Some last) (Some time) date microsecond ≡ true) ↔ ((date <ℤ last) ⊎ ((date ≡ last) × (microsecond ≤ time.1)))
is_until_is_order last time date microsecond = grind (arith, nat_tests, ints, Decides-int_eq, and_parts, or_cases)

-- ---- the two halves of a range

halves : (a b : Bool) → (a && b) ≡ ((a && true) && b)
halves true b = refl
halves false b = refl

pub day_halves : (range : Bounds ℤ) (date : ℤ) → has_day range date ≡ (has_day (range.0, None) date && has_day (None, range.1) date)
day_halves range date = halves (unless_open (λ first. int_le first date) range.0) (unless_open (λ last. int_le date last) range.1)

pub time_halves : (range : Bounds Span) (time : Span) → has_time range time ≡ (has_time (range.0, None) time && has_time (None, range.1) time)
time_halves range time = halves (unless_open (λ first. nat_le first.0 time.0) range.0) (unless_open (λ last. nat_le time.0 last.1) range.1)

-- ---- a date or a range as it is spelled

pub range_met : (key from to value : List ℕ) (first last date : ℤ) → range_ends key ≡ Some (end_of from, end_of to) → day from ≡ Some first → day to ≡ Some last
    → day value ≡ Some date → date_meets key value ≡ has_day (Some first, Some last) date
unfolding date_meets
range_met key from to value first last date split is_first is_last is_date =
    closed day no_day has_day key value date is_date from to first last split is_first is_last

pub single_met : (value : List ℕ) (date : ℤ) → range_ends value ≡ None → day value ≡ Some date → date_meets value value ≡ true
unfolding date_meets
single_met value date one is_date = rw (single day no_day has_day value value date is_date date one is_date) (grind (arith, ints, true_le))

pub ruleset ranges = (has_day_between, range_met, single_met, day_halves, time_halves)

pub ruleset periods = (is_from_is_order, is_until_is_order)
