-- A date, VR DA: YYYYMMDD (PS3.5 table 6.2-1).
use Rattle.std.specs.Prelude.{◌≡◌, ◌<◌, ◌++◌, ℕ, Bool, true, List, length, take, drop, Option, None, option_map, nat_eq, nat_le, ◌&&◌, if◌then◌else◌, ℤ, pos}
use Rattle.jiff_core.specs.Calendar.{days_in_month, days_from_civil}
use Rattle.jiff_core.specs.declared.civil.date.Date.{Date}
use Rattle.dq_list.specs.Readers.{◌>>=◌, only_if}
use Rattle.dq_value.specs.Digits.{number, digits}

-- year, month and day of the month
abbrev pub Ymd : Type 0
Ymd = ℤ × ℕ × ℕ

abbrev pub ymd_of : Date → Ymd
ymd_of date = (date.year, date.month, date.day)

-- the Gregorian calendar, from the year 0000 on, has the day
abbrev pub is_in_calendar : Ymd → Bool
is_in_calendar date =
    (nat_le 1 date.1 && nat_le date.1 12)
    && (nat_le 1 date.2 && nat_le date.2 (days_in_month date.0 date.1))

-- four digits of the year, two of the month and two of the day
unfoldable pub digits_of_date : List ℕ → Option Ymd
digits_of_date octets = do
  year ← number (take 4 octets)
  month ← number (take 2 (drop 4 octets))
  day ← number (drop 6 octets)
  only_if (is_in_calendar (pos year, month, day)) (pos year, month, day)

-- eight digits that name a day of the calendar
unfoldable pub date_in : List ℕ → Option Ymd
date_in octets = if nat_eq (length octets) 8 then digits_of_date octets else None

-- the number of the day, counted from 1 January 1970
abbrev pub day_number : Ymd → ℤ
day_number date = days_from_civil date.0 date.1 date.2

unfoldable pub day : List ℕ → Option ℤ
day octets = option_map day_number (date_in octets)

-- the date YYYYMMDD
abbrev pub spelled_date : ℕ → ℕ → ℕ → List ℕ
spelled_date year month day = digits 4 year ++ (digits 2 month ++ digits 2 day)

-- octets spell a date of the calendar
pub record SpellsDate (octets : List ℕ) (date : Ymd) : Type 0 where
  pub year : ℕ
  pub in_calendar : is_in_calendar date ≡ true
  pub four_digits : (date.0 ≡ pos year) × (year < 10_000)
  pub spelled : octets ≡ spelled_date year date.1 date.2
