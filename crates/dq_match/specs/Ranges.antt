-- Range matching of dates and of times (PS3.4 section C.2.2.2.5).
use Rattle.dq_value.specs.Digits.{◌>>=◌}
use Rattle.std.specs.Prelude.{ℕ, ℤ, Bool, true, false, List, Option, Some, None, option_map, int_le, int_lt, nat_le, ◌||◌, ◌&&◌}
use Rattle.std.specs.Ordering.{int_eq}
use Rattle.dq_value.specs.Day.{day}
use Rattle.dq_value.specs.Time.{Span, span}
use Rattle.dq_value.specs.Range.{Ends, range_ends}

-- the first and the last that a key takes, none for an end that is left open
abbrev pub Bounds : Type 0 → Type 0
Bounds A = Option A × Option A

-- an end of a range is left open, or it is one date or time
abbrev pub bound : {A : Type 0} → (List ℕ → Option A) → Option (List ℕ) → Option (Option A)
bound read None = Some None
bound read (Some octets) = option_map Some (read octets)

abbrev pub bounds_of_ends : {A : Type 0} → (List ℕ → Option A) → Ends → Option (Bounds A)
bounds_of_ends read found = do
  from ← bound read found.0
  to ← bound read found.1
  Some (from, to)

-- a range
unfoldable pub range_bounds : {A : Type 0} → (List ℕ → Option A) → List ℕ → Option (Bounds A)
range_bounds read octets = do
  found ← range_ends octets
  bounds_of_ends read found

-- one date or time is a range from itself to itself
abbrev pub single : {A : Type 0} → A → Bounds A
single value = (Some value, Some value)

-- a range, or else one date or time
abbrev pub bounds_by_ends : {A : Type 0} → (List ℕ → Option A) → List ℕ → Option Ends
    → Option (Bounds A)
bounds_by_ends read octets None = option_map single (read octets)
bounds_by_ends read octets (Some found) = bounds_of_ends read found

unfoldable pub bounds : {A : Type 0} → (List ℕ → Option A) → List ℕ → Option (Bounds A)
bounds read octets = bounds_by_ends read octets (range_ends octets)

-- what is left open sets no bound
abbrev pub unless_open : {A : Type 0} → (A → Bool) → Option A → Bool
unless_open test None = true
unless_open test (Some end) = test end

-- both ends are included
abbrev pub has_day : Bounds ℤ → ℤ → Bool
has_day range date =
    unless_open (λ first. int_le first date) range.0
    && unless_open (λ last. int_le date last) range.1

-- a time is where its first microsecond is, and a range ends with the last microsecond of its end
abbrev pub has_time : Bounds Span → Span → Bool
has_time range time =
    unless_open (λ first. nat_le first.0 time.0) range.0
    && unless_open (λ last. nat_le time.0 last.1) range.1

-- a key is met by a value that is well formed and not outside
abbrev pub both : {A B : Type 0} → (A → B → Bool) → Option A → Option B → Bool
both test None value = false
both test (Some range) None = false
both test (Some range) (Some value) = test range value

unfoldable pub date_meets : List ℕ → List ℕ → Bool
date_meets key value = both has_day (bounds day key) (day value)

unfoldable pub time_meets : List ℕ → List ℕ → Bool
time_meets key value = both has_time (bounds span key) (span value)

-- ---- a date and a time together (PS3.4 table K.6-1)

-- A moment is not before the first day and, on that day, not before the first time. A day that is
-- left open sets no bound, and a time that is left open none within its day.
abbrev pub is_from : Option ℤ → Option Span → ℤ → ℕ → Bool
is_from days times date microsecond =
    let in_time = unless_open (λ time. nat_le time.0 microsecond) times in
    unless_open (λ first. int_lt first date || (int_eq first date && in_time)) days

-- nor after the last day and, on that day, after the last time
abbrev pub is_until : Option ℤ → Option Span → ℤ → ℕ → Bool
is_until days times date microsecond =
    let in_time = unless_open (λ time. nat_le microsecond time.1) times in
    unless_open (λ last. int_lt date last || (int_eq date last && in_time)) days

abbrev pub is_in_range : Bounds ℤ → Bounds Span → ℤ → Span → Bool
is_in_range days times date time =
    is_from days.0 times.0 date time.0 && is_until days.1 times.1 date time.0
