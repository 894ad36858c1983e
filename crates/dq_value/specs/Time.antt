-- A time, VR TM: HH, HHMM, HHMMSS or HHMMSS.F with one to six digits F (PS3.5 table 6.2-1). What is
-- left out at the end may be anything, so that a time is a span of microseconds of the day.
use Rattle.std.specs.Prelude.{◌≡◌, ◌≤◌, ◌<◌, ◌++◌, ◌∷◌, ℕ, ◌+◌, ◌-◌, ◌*◌, ◌^◌, Bool, List, length, take, drop, slice_index, Option, Some, None, nat_eq, nat_le, ◌&&◌, if◌then◌else◌}
use Rattle.dq_list.specs.Readers.{◌>>=◌, only_if}
use Rattle.dq_value.specs.Digits.{number, digits}

-- the first and the last microsecond
abbrev pub Span : Type 0
Span = ℕ × ℕ

abbrev pub span_from : ℕ → ℕ → Option Span
span_from first length = Some (first, first + length - 1)

-- two digits from a place on, up to a greatest number
unfoldable pub field : ℕ → ℕ → List ℕ → Option ℕ
field place greatest octets = do
  n ← number (take 2 (drop place octets))
  only_if (nat_le n greatest) n

-- the microsecond at which the hour, the minute or the second begins; second 60 is a leap second
unfoldable pub hour_start : List ℕ → Option ℕ
hour_start octets = do
  hour ← field 0 23 octets
  Some (hour * 3_600_000_000)

unfoldable pub minute_start : List ℕ → Option ℕ
minute_start octets = do
  start ← hour_start octets
  minute ← field 2 59 octets
  Some (start + minute * 60_000_000)

unfoldable pub second_start : List ℕ → Option ℕ
second_start octets = do
  start ← minute_start octets
  second ← field 4 60 octets
  Some (start + second * 1_000_000)

-- how many microseconds the last of so many digits of a fraction stands for
abbrev pub unit_at : ℕ → ℕ
unit_at count = 10 ^ (6 - count)

abbrev pub unit_of : List ℕ → ℕ
unit_of fraction = unit_at (length fraction)

-- the span that HH, HHMM, HHMMSS or HHMMSS.F names
unfoldable pub hour_span : List ℕ → Option Span
hour_span octets = do
  start ← hour_start octets
  span_from start 3_600_000_000

unfoldable pub minute_span : List ℕ → Option Span
minute_span octets = do
  start ← minute_start octets
  span_from start 60_000_000

unfoldable pub second_span : List ℕ → Option Span
second_span octets = do
  start ← second_start octets
  span_from start 1_000_000

unfoldable pub fraction_span : List ℕ → List ℕ → Option Span
fraction_span octets fraction = do
  start ← second_start octets
  parts ← number fraction
  span_from (start + parts * unit_of fraction) (unit_of fraction)

-- a point and one to six digits behind HHMMSS
abbrev pub has_fraction : List ℕ → Bool
has_fraction octets =
    (nat_le 8 (length octets) && nat_le (length octets) 13) && nat_eq (slice_index octets 6) 0x2e

-- the span that a time names, by its length
unfoldable pub span : List ℕ → Option Span
span octets =
    if nat_eq (length octets) 2 then hour_span octets
    else (if nat_eq (length octets) 4 then minute_span octets
    else (if nat_eq (length octets) 6 then second_span octets
    else (if has_fraction octets then fraction_span octets (drop 7 octets) else None)))

-- the microsecond at which a second of the day begins
abbrev pub micros_at : ℕ → ℕ → ℕ → ℕ
micros_at hour minute second = ((hour * 60 + minute) * 60 + second) * 1_000_000

-- a time of the day; second 60 is a leap second
pub record IsClock (hour minute second : ℕ) : Type 0 where
  pub hours : hour ≤ 23
  pub minutes : minute ≤ 59
  pub seconds : second ≤ 60

-- HHMM, HHMMSS and HHMMSS.F
abbrev pub spelled_minute : ℕ → ℕ → List ℕ
spelled_minute hour minute = digits 2 hour ++ digits 2 minute

abbrev pub spelled_second : ℕ → ℕ → ℕ → List ℕ
spelled_second hour minute second = digits 2 hour ++ (digits 2 minute ++ digits 2 second)

abbrev pub spelled_fraction : ℕ → ℕ → ℕ → ℕ → ℕ → List ℕ
spelled_fraction hour minute second count fraction =
    digits 2 hour ++ (digits 2 minute ++ (digits 2 second ++ 0x2e ∷ digits count fraction))

-- octets spell a time, to the hour, the minute, the second or one of the digits behind it, and the
-- time is a span
pub data SpellsTime (octets : List ℕ) (found : Span) : Type 0 where
  to_hour : (hour : ℕ) → IsClock hour 0 0 → octets ≡ digits 2 hour
      → span_from (micros_at hour 0 0) 3_600_000_000 ≡ Some found → SpellsTime octets found
  to_minute : (hour minute : ℕ) → IsClock hour minute 0 → octets ≡ spelled_minute hour minute
      → span_from (micros_at hour minute 0) 60_000_000 ≡ Some found → SpellsTime octets found
  to_second : (hour minute second : ℕ) → IsClock hour minute second
      → octets ≡ spelled_second hour minute second
      → span_from (micros_at hour minute second) 1_000_000 ≡ Some found → SpellsTime octets found
  to_fraction : (hour minute second count fraction : ℕ) → IsClock hour minute second
      → 1 ≤ count → count ≤ 6 → fraction < 10 ^ count
      → octets ≡ spelled_fraction hour minute second count fraction
      → span_from (micros_at hour minute second + fraction * unit_at count) (unit_at count)
      ≡ Some found → SpellsTime octets found
