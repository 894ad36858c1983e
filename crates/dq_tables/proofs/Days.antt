-- Dates as numbers YYYYMMDD go with their days.
use Rattle.std.proofs.Common.{◌≡◌, ℕ, ℤ, pos, ◌+◌, ◌*◌, ◌<◌, ◌≤◌, ◌≤ℤ◌, ◌⊎◌, inl, inr, true, ◌&&◌, nat_le, List, Option, Some, None, option_map, option_and_then, unsigned_abs, refl, sym, ap, ◌∙◌, arith}
use Rattle.std.proofs.lemmas.Bool.{and_parts, cases_order}
use Rattle.std.proofs.lemmas.Bool.Decides.{nat_tests}
use Rattle.jiff_core.specs.Calendar.{days_in_month, days_from_civil, day_count, IsCivilDate}
use Rattle.jiff_core.proofs.CalendarLemmas.{days_from_civil-day_count, day_count-lt_year, day_count-lt_month, day_count-day, days_in_month_bounds}
use Rattle.jiff_core.proofs.SignedLemmas.{signed_arith}
use Rattle.dq_value.specs.Day.{Ymd, SpellsDate, is_in_calendar, date_in, day_number, day}
use Rattle.dq_vr.specs.Tags.{study_date}
use Rattle.dq_dataset.specs.Tree.{ElementList}
use Rattle.dq_dataset.specs.Values.{sole_at}
use Rattle.dq_tables.specs.declared.row.Kind.{Kind}
use Rattle.dq_tables.specs.declared.row.Kind.TheVariants.{Study, Series, Image, Entry, Step}
use Rattle.dq_tables.specs.declared.row.Row.{Row}
use Rattle.dq_tables.specs.Records.{data_set_of}
use Rattle.dq_tables.specs.Labels.{date_number, day_named, day_in, day_of}

-- a date of the calendar, by a year that is not negative
record IsDated (date : Ymd) : Type 0 where
  year : ℕ
  is : date.0 ≡ pos year
  civil : IsCivilDate (pos year) date.1 date.2

le_from : (a b : ℕ) → nat_le a b ≡ true → a ≤ b
le_from a b h = grind (arith, nat_tests)

dated : (octets : List ℕ) (date : Ymd) → SpellsDate octets date → IsDated date
dated octets date spelled =
    let calendar : is_in_calendar (pos spelled.year, date.1, date.2) ≡ true =
    ap (λ y. is_in_calendar (y, date.1, date.2)) (sym spelled.four_digits.0) ∙ spelled.in_calendar in
    let parts = and_parts (nat_le 1 date.1 && nat_le date.1 12) (nat_le 1 date.2 && nat_le date.2 (days_in_month (pos spelled.year) date.1)) calendar in
    let month = and_parts (nat_le 1 date.1) (nat_le date.1 12) parts.0 in
    let last = and_parts (nat_le 1 date.2) (nat_le date.2 (days_in_month (pos spelled.year) date.1)) parts.1 in
    record {
      year = spelled.year;
      is = spelled.four_digits.0;
      civil = (
        (omega (arith, signed_arith), omega (arith, signed_arith, spelled.four_digits.1)),
        (le_from 1 date.1 month.0, le_from date.1 12 month.1),
        (le_from 1 date.2 last.0, le_from date.2 (days_in_month (pos spelled.year) date.1) last.1),
      );
    }

abbrev digits_of : ℕ → ℕ → ℕ → ℕ
digits_of y m d = 10_000 * y + (100 * m + d)

-- of two dates of the calendar the one with no more days before it is no greater number
not_greater : (y m d z n e : ℕ) → IsCivilDate (pos y) m d → IsCivilDate (pos z) n e → day_count (pos y) m d ≤ day_count (pos z) n e
    → digits_of y m d ≤ digits_of z n e
not_greater y m d z n e first second upto = by_year (cases_order y z)
  where
    by_day : y ≡ z → m ≡ n → digits_of y m d ≤ digits_of z n e
    by_day same alike =
        let counted = rw (same, alike) at (day_count-day (pos y) m d e first.2.0 second.2.0) in
        let here : day_count (pos z) n d ≤ day_count (pos z) n e = rw (same, alike) at upto in
        omega (arith, same, alike, counted, here)

    by_month : y ≡ z → (m ≡ n) ⊎ ((m < n) ⊎ (n < m)) → digits_of y m d ≤ digits_of z n e
    by_month same (inr (inl less)) = omega (arith, same, less, first.2.1, days_in_month_bounds (pos y) m, second.2.0)
    by_month same (inr (inr more)) =
        let here : day_count (pos y) m d ≤ day_count (pos y) n e = rw (sym same) at upto in
        let turned : IsCivilDate (pos y) n e = rw (sym same) at second in
        absurd (omega (arith, here, day_count-lt_month (pos y) n e m d turned first.2.0 more))
    by_month same (inl alike) = by_day same alike

    by_year : (y ≡ z) ⊎ ((y < z) ⊎ (z < y)) → digits_of y m d ≤ digits_of z n e
    by_year (inr (inl less)) = omega (arith, less, first.1.1, first.2.1, days_in_month_bounds (pos y) m)
    by_year (inr (inr more)) = absurd (omega (arith, upto, day_count-lt_year (pos z) n e (pos y) m d second first.2.0 (omega (arith, signed_arith))))
    by_year (inl same) = by_month same (cases_order m n)

-- the number of a date
number_is : (date : Ymd) (it : IsDated date) → date_number date ≡ pos (digits_of it.year date.1 date.2)
number_is date it = rw it.is refl

abbrev OnlyDates : Type 0
OnlyDates = (octets : List ℕ) (date : Ymd) → date_in octets ≡ Some date → SpellsDate octets date

module _ (law : OnlyDates) where
  named_by : (octets : List ℕ) (o : Option Ymd) → date_in octets ≡ o → option_map pos (option_map (λ date. unsigned_abs (date_number date)) o) ≡ option_map date_number o
  named_by octets None is = refl
  named_by octets (Some date) is =
      let number = number_is date (dated octets date (law octets date is)) in
      ap Some (ap (λ n. pos (unsigned_abs n)) number ∙ sym number)

  -- a day as a number is that of its date
  pub named : (octets : List ℕ) → option_map pos (day_named octets) ≡ option_map date_number (date_in octets)
  unfolding day_named
  named octets = named_by octets (date_in octets) refl

  ordered_by : (a b : List ℕ) (o p : Option Ymd) → date_in a ≡ o → date_in b ≡ p → (x y : ℤ) (m n : ℕ)
      → option_map day_number o ≡ Some x → option_map day_number p ≡ Some y
      → option_map (λ date. unsigned_abs (date_number date)) o ≡ Some m → option_map (λ date. unsigned_abs (date_number date)) p ≡ Some n
      → x ≤ℤ y → m ≤ n
  ordered_by a b None p is at x y m n e f g h le = absurd cc
  ordered_by a b (Some date) None is at x y m n e f g h le = absurd cc
  ordered_by a b (Some date) (Some other) is at x y m n e f g h le =
      let it = dated a date (law a date is) in
      let its = dated b other (law b other at) in
      let first : days_from_civil (pos it.year) date.1 date.2 ≡ x = ap (λ z. days_from_civil z date.1 date.2) (sym it.is) ∙ cc e in
      let second : days_from_civil (pos its.year) other.1 other.2 ≡ y = ap (λ z. days_from_civil z other.1 other.2) (sym its.is) ∙ cc f in
      let upto : day_count (pos it.year) date.1 date.2 ≤ day_count (pos its.year) other.1 other.2 =
      omega (arith, signed_arith, first, second, le, days_from_civil-day_count (pos it.year) date.1 date.2, days_from_civil-day_count (pos its.year) other.1 other.2) in
      let one : digits_of it.year date.1 date.2 ≡ m = ap unsigned_abs (sym (number_is date it)) ∙ cc g in
      let two : digits_of its.year other.1 other.2 ≡ n = ap unsigned_abs (sym (number_is other its)) ∙ cc h in
      let not_more = not_greater it.year date.1 date.2 its.year other.1 other.2 it.civil its.civil upto in
      omega (arith, one, two, not_more)

  -- a date that is not after another is no greater number
  pub ordered : (a b : List ℕ) (x y : ℤ) (m n : ℕ) → day a ≡ Some x → day b ≡ Some y → day_named a ≡ Some m → day_named b ≡ Some n → x ≤ℤ y → m ≤ n
  unfolding day day_named
  ordered a b = ordered_by a b (date_in a) (date_in b) refl refl

  natural_date : (octets : List ℕ) (o : Option Ymd) → date_in octets ≡ o → (z : ℤ) → option_map date_number o ≡ Some z → pos 0 ≤ℤ z
  natural_date octets None is z e = absurd cc
  natural_date octets (Some date) is z e =
      let it = dated octets date (law octets date is) in
      let number : pos (digits_of it.year date.1 date.2) ≡ z = sym (number_is date it) ∙ cc e in
      omega (arith, signed_arith, number)

  natural_said : (said : Option (List ℕ)) (z : ℤ) → option_map date_number (option_and_then date_in said) ≡ Some z → pos 0 ≤ℤ z
  natural_said None z e = absurd cc
  natural_said (Some octets) z e = natural_date octets (date_in octets) refl z e

  natural_in : (kind : Kind) (d : ElementList) (z : ℤ) → day_in kind d ≡ Some z → pos 0 ≤ℤ z
  natural_in Study d z e = natural_said (sole_at study_date d) z e
  natural_in Series d z e = absurd cc
  natural_in Image d z e = absurd cc
  natural_in Entry d z e = absurd cc
  natural_in Step d z e = absurd cc

  -- the day of a study is never negative
  pub natural : (row : Row) (z : ℤ) → day_of row ≡ Some z → pos 0 ≤ℤ z
  unfolding day_of
  natural row z e = natural_in row.kind (data_set_of row.octets) z e
