-- Dates and times against their digits.
use Rattle.std.proofs.Common.{◌≡◌, ℕ, ◌+◌, ◌-◌, ◌*◌, ◌^◌, ◌<◌, ◌≤◌, Bool, true, false, cond, List, [], ◌∷◌, ◌++◌, length, take, drop, slice_index, Option, Some, None, ◌&&◌, ◌||◌, ◌==◌, ◌⊎◌, inl, inr, drop-cons, nat_le, nat_eq, refl, sym, subst, ap, ◌∙◌, arith, length-append, append-nil, drop-drop, ℤ, pos}
use Rattle.std.proofs.lemmas.List.{take-append-drop, length-take-le, length-drop, get_or-drop}
use Rattle.std.proofs.Math.Seq.{take-append_seam, drop-append_seam}
use Rattle.std.proofs.lemmas.Bool.Decides.{nat_tests}
use Rattle.jiff_core.specs.Calendar.{days_in_month, is_leap_year}
use Rattle.dq_list.proofs.Readers.{bind_some, provided_some}
use Rattle.dq_value.specs.Digits.{number, digits}
use Rattle.dq_value.specs.Day.{Ymd, SpellsDate, is_in_calendar, date_in, digits_of_date, spelled_date}
use Rattle.dq_value.specs.Time.{Span, IsClock, SpellsTime, to_hour, to_minute, to_second, to_fraction, unit_at, unit_of, has_fraction, span, span_from, field, hour_start, minute_start, second_start, hour_span, minute_span, second_span, fraction_span, micros_at, spelled_minute, spelled_second, spelled_fraction}
use Rattle.dq_value.proofs.Spelled.{length-digits, number-digits, number-only}

take_front : (n : ℕ) (xs ys : List ℕ) → length xs ≡ n → take n (xs ++ ys) ≡ xs
take_front n xs ys e = ap (λ m. take m (xs ++ ys)) (sym e) ∙ take-append_seam xs ys

drop_front : (n : ℕ) (xs ys : List ℕ) → length xs ≡ n → drop n (xs ++ ys) ≡ ys
drop_front n xs ys e = ap (λ m. drop m (xs ++ ys)) (sym e) ∙ drop-append_seam xs ys

date_at : (a b c : List ℕ) (y m d : ℕ) → length a ≡ 4 → length b ≡ 2 → length c ≡ 2 → number a ≡ Some y → number b ≡ Some m → number c ≡ Some d
    → is_in_calendar (pos y, m, d) ≡ true → date_in (a ++ (b ++ c)) ≡ Some (pos y, m, d)
unfolding date_in digits_of_date
date_at a b c y m d four two too year month day good =
    let len : length (a ++ (b ++ c)) ≡ 8 = simp length-append (omega arith) in
    let front : take 4 (a ++ (b ++ c)) ≡ a = take_front 4 a (b ++ c) four in
    let rest : drop 4 (a ++ (b ++ c)) ≡ b ++ c = drop_front 4 a (b ++ c) four in
    let middle : take 2 (drop 4 (a ++ (b ++ c))) ≡ b = ap (take 2) rest ∙ take_front 2 b c two in
    let last : drop 6 (a ++ (b ++ c)) ≡ c = sym (drop-drop 2 4 (a ++ (b ++ c))) ∙ ap (drop 2) rest ∙ drop_front 2 b c two in
    rw (len, front, year, middle, month, last, day, good) refl

short_month : (a b c : Bool) → cond a (cond b 29 28) (cond c 30 31) ≤ 31
short_month true true c = omega arith
short_month true false c = omega arith
short_month false b true = omega arith
short_month false b false = omega arith

days_bound : (y : ℤ) (m : ℕ) → days_in_month y m ≤ 31
days_bound y m = short_month (m == 2) (is_leap_year y) (((m == 4) || (m == 6)) || (m == 9) || (m == 11))

calendar_bounds : (y : ℤ) (m d days : ℕ) → days ≤ 31 → ((nat_le 1 m && nat_le m 12) && (nat_le 1 d && nat_le d days)) ≡ true → (m < 100) × (d < 100)
calendar_bounds y m d days few good = (grind (arith, nat_tests), grind (arith, nat_tests))

spelled_read : (year : ℕ) (date : Ymd) → date.0 ≡ pos year → year < 10000 → is_in_calendar date ≡ true → date_in (spelled_date year date.1 date.2) ≡ Some date
spelled_read year (y, m, d) same four good =
    grind (arith, nat_tests, calendar_bounds, days_bound, date_at, length-digits, number-digits)

pub date_read : (octets : List ℕ) (date : Ymd) → SpellsDate octets date → date_in octets ≡ Some date
date_read octets date is = ap date_in is.spelled ∙ spelled_read is.year date is.four_digits.0 is.four_digits.1 is.in_calendar

nat_le_true : (a b : ℕ) → nat_le a b ≡ true → a ≤ b
nat_le_true a b e = grind (arith, nat_tests)

-- a test passed, and a step went on
record Passed {A : Type 0} (b : Bool) (o : Option A) (x : A) : Type 0 where
  test : b ≡ true
  answer : o ≡ Some x

passed : {A : Type 0} (b : Bool) (o : Option A) (x : A) → cond b o None ≡ Some x → Passed b o x
passed true o x e = record { test = refl; answer = e }
passed false o x e = absurd (cc)

record Spells (xs : List ℕ) (count n : ℕ) : Type 0 where
  is : xs ≡ digits count n
  few : n < 10 ^ count

spells : (xs : List ℕ) (count n : ℕ) → length xs ≡ count → number xs ≡ Some n → Spells xs count n
spells xs count n len e =
    let found = number-only xs n e in
    record { is = found.0 ∙ ap (λ k. digits k n) len; few = rw len at found.1 }

date_spelled : (octets : List ℕ) (date : Ymd) (y m d : ℕ) → length octets ≡ 8 → number (take 4 octets) ≡ Some y → number (take 2 (drop 4 octets)) ≡ Some m
    → number (drop 6 octets) ≡ Some d → is_in_calendar (pos y, m, d) ≡ true → (pos y, m, d) ≡ date → SpellsDate octets date
date_spelled octets date y m d eight year month day good same =
    let rest : length (drop 4 octets) ≡ 4 = length-drop 4 octets ∙ ap (λ n. n - 4) eight in
    let last : drop 2 (drop 4 octets) ≡ drop 6 octets = drop-drop 2 4 octets in
    let two : length (drop 6 octets) ≡ 2 = length-drop 6 octets ∙ ap (λ n. n - 6) eight in
    let years = spells (take 4 octets) 4 y (length-take-le 4 octets (omega arith)) year in
    let months = spells (take 2 (drop 4 octets)) 2 m (length-take-le 2 (drop 4 octets) (omega arith)) month in
    let days = spells (drop 6 octets) 2 d two day in
    let behind : drop 4 octets ≡ digits 2 m ++ digits 2 d =
    sym (take-append-drop 2 (drop 4 octets)) ∙ ap (λ xs. xs ++ drop 2 (drop 4 octets)) months.is
    ∙ ap (λ xs. digits 2 m ++ xs) (last ∙ days.is) in
    let whole : octets ≡ spelled_date y m d = sym (take-append-drop 4 octets) ∙ ap (λ xs. xs ++ drop 4 octets) years.is ∙ ap (λ xs. digits 4 y ++ xs) behind in
    subst (SpellsDate octets) same (record { year = y; in_calendar = good; four_digits = (refl, years.few); spelled = whole })

date_parts : (octets : List ℕ) (date : Ymd) → length octets ≡ 8 → digits_of_date octets ≡ Some date → SpellsDate octets date
unfolding digits_of_date
date_parts octets date eight e = grind (arith, nat_tests, bind_some, provided_some, date_spelled)

pub date_only : (octets : List ℕ) (date : Ymd) → date_in octets ≡ Some date → SpellsDate octets date
unfolding date_in
date_only octets date e = grind (arith, nat_tests, passed, date_parts)

-- a field of two digits, at the front or behind what is before it
field_at : (place greatest n : ℕ) (octets xs ys : List ℕ) → drop place octets ≡ xs ++ ys → length xs ≡ 2 → number xs ≡ Some n → n ≤ greatest
    → field place greatest octets ≡ Some n
unfolding field
field_at place greatest n octets xs ys at two e few =
    let digits_here : take 2 (drop place octets) ≡ xs = ap (take 2) at ∙ take_front 2 xs ys two in
    let fits : nat_le n greatest ≡ true = grind (arith, nat_tests) in
    rw (digits_here, e, fits) refl

fraction_case : (octets fraction : List ℕ) (start n : ℕ) → 8 ≤ length octets → length octets ≤ 13 → slice_index octets 6 ≡ 0x2e → drop 7 octets ≡ fraction
    → second_start octets ≡ Some start → number fraction ≡ Some n → span octets ≡ span_from (start + n * unit_of fraction) (unit_of fraction)
unfolding span fraction_span
fraction_case octets fraction start n low high point cut second e = grind (arith, nat_tests)

module _ (h m s : ℕ) (clock : IsClock h m s) where
  hour_at : (rest : List ℕ) → hour_start (digits 2 h ++ rest) ≡ Some (h * 3_600_000_000)
  unfolding hour_start
  hour_at rest =
      let hours = clock.hours in
      rw (field_at 0 23 h (digits 2 h ++ rest) (digits 2 h) rest refl (length-digits 2 h) (number-digits 2 h (omega arith) (omega arith)) hours) refl

  minute_at : (rest : List ℕ) → minute_start (digits 2 h ++ (digits 2 m ++ rest)) ≡ Some (h * 3_600_000_000 + m * 60_000_000)
  unfolding minute_start
  minute_at rest =
      let minutes = clock.minutes in
      let octets = digits 2 h ++ (digits 2 m ++ rest) in
      let at = drop_front 2 (digits 2 h) (digits 2 m ++ rest) (length-digits 2 h) in
      let number_is = number-digits 2 m (omega arith) (omega arith) in
      rw (hour_at (digits 2 m ++ rest), field_at 2 59 m octets (digits 2 m) rest at (length-digits 2 m) number_is minutes) refl

  behind_minute : (rest : List ℕ) → drop 4 (digits 2 h ++ (digits 2 m ++ rest)) ≡ rest
  behind_minute rest =
      sym (drop-drop 2 2 (digits 2 h ++ (digits 2 m ++ rest)))
      ∙ ap (drop 2) (drop_front 2 (digits 2 h) (digits 2 m ++ rest) (length-digits 2 h))
      ∙ drop_front 2 (digits 2 m) rest (length-digits 2 m)

  second_at : (rest : List ℕ) → second_start (digits 2 h ++ (digits 2 m ++ (digits 2 s ++ rest))) ≡ Some (h * 3_600_000_000 + m * 60_000_000 + s * 1_000_000)
  unfolding second_start
  second_at rest =
      let seconds = clock.seconds in
      let octets = digits 2 h ++ (digits 2 m ++ (digits 2 s ++ rest)) in
      let at = behind_minute (digits 2 s ++ rest) in
      let number_is = number-digits 2 s (omega arith) (omega arith) in
      rw (minute_at (digits 2 s ++ rest), field_at 4 60 s octets (digits 2 s) rest at (length-digits 2 s) number_is seconds) refl

  behind_second : (rest : List ℕ) → drop 6 (digits 2 h ++ (digits 2 m ++ (digits 2 s ++ rest))) ≡ rest
  behind_second rest =
      sym (drop-drop 2 4 (digits 2 h ++ (digits 2 m ++ (digits 2 s ++ rest))))
      ∙ ap (drop 2) (behind_minute (digits 2 s ++ rest))
      ∙ drop_front 2 (digits 2 s) rest (length-digits 2 s)

  length_spelled : (rest : List ℕ) → length (digits 2 h ++ (digits 2 m ++ (digits 2 s ++ rest))) ≡ 6 + length rest
  length_spelled rest = grind (arith, nat_tests, length-append, length-digits)

  pub hours_read : span (digits 2 h) ≡ span_from (micros_at h 0 0) 3_600_000_000
  unfolding span hour_span
  hours_read =
      let start : hour_start (digits 2 h) ≡ Some (h * 3_600_000_000) = ap hour_start (sym (append-nil (digits 2 h))) ∙ hour_at [] in
      let micros : h * 3_600_000_000 ≡ micros_at h 0 0 = omega arith in
      rw (length-digits 2 h, start) (ap (λ n. span_from n 3_600_000_000) micros)

  pub minutes_read : span (spelled_minute h m) ≡ span_from (micros_at h m 0) 60_000_000
  unfolding span minute_span
  minutes_read =
      let octets = spelled_minute h m in
      let len : length octets ≡ 4 = simp length-append (rw (length-digits 2 h, length-digits 2 m) refl) in
      let start : minute_start octets ≡ Some (h * 3_600_000_000 + m * 60_000_000) =
      ap (λ xs. minute_start (digits 2 h ++ xs)) (sym (append-nil (digits 2 m))) ∙ minute_at [] in
      let micros : h * 3_600_000_000 + m * 60_000_000 ≡ micros_at h m 0 = omega arith in
      rw (len, start) (ap (λ n. span_from n 60_000_000) micros)

  pub seconds_read : span (spelled_second h m s) ≡ span_from (micros_at h m s) 1_000_000
  unfolding span second_span
  seconds_read =
      let octets = spelled_second h m s in
      let same : octets ≡ digits 2 h ++ (digits 2 m ++ (digits 2 s ++ [])) = ap (λ xs. digits 2 h ++ (digits 2 m ++ xs)) (sym (append-nil (digits 2 s))) in
      let len : length octets ≡ 6 = ap length same ∙ length_spelled [] in
      let start : second_start octets ≡ Some (h * 3_600_000_000 + m * 60_000_000 + s * 1_000_000) = ap second_start same ∙ second_at [] in
      let micros : h * 3_600_000_000 + m * 60_000_000 + s * 1_000_000 ≡ micros_at h m s = omega arith in
      rw (len, start) (ap (λ n. span_from n 1_000_000) micros)

  pub fractions_read : (count fraction : ℕ) → 1 ≤ count → count ≤ 6 → fraction < 10 ^ count
      → span (spelled_fraction h m s count fraction) ≡ span_from (micros_at h m s + fraction * unit_at count) (unit_at count)
  unfolding span fraction_span
  fractions_read count fraction some few small =
      grind (
        arith,
        nat_tests,
        length_spelled,
        length-digits,
        behind_second,
        get_or-drop,
        drop-drop,
        fraction_case,
        second_at,
        number-digits,
      )

pub time_read : (octets : List ℕ) (found : Span) → SpellsTime octets found → span octets ≡ Some found
time_read octets found (to_hour h clock e is) = ap span e ∙ hours_read h 0 0 clock ∙ is
time_read octets found (to_minute h m clock e is) = ap span e ∙ minutes_read h m 0 clock ∙ is
time_read octets found (to_second h m s clock e is) = ap span e ∙ seconds_read h m s clock ∙ is
time_read octets found (to_fraction h m s count fraction clock some few small e is) = ap span e ∙ fractions_read h m s clock count fraction some few small ∙ is

-- what a field, and what a start of an hour, minute or second, was read from
record Field (place greatest n : ℕ) (octets : List ℕ) : Type 0 where
  here : drop place octets ≡ digits 2 n ++ drop (place + 2) octets
  most : n ≤ greatest

field_only : (place greatest n : ℕ) (octets : List ℕ) → place + 2 ≤ length octets → field place greatest octets ≡ Some n → Field place greatest n octets
unfolding field
field_only place greatest n octets long e =
    let read = bind_some (number (take 2 (drop place octets))) _ n e in
    let fits = provided_some (nat_le read.0 greatest) read.0 n read.2 in
    let same : read.0 ≡ n = fits.1 in
    let len : length (take 2 (drop place octets)) ≡ 2 = length-take-le 2 (drop place octets) (rw length-drop (omega arith)) in
    let spelled = spells (take 2 (drop place octets)) 2 n len (read.1 ∙ ap Some same) in
    let most : n ≤ greatest = rw same at (nat_le_true read.0 greatest fits.0) in
    record {
      here = sym (take-append-drop 2 (drop place octets)) ∙ ap (λ xs. xs ++ drop 2 (drop place octets)) spelled.is
          ∙ ap (λ xs. digits 2 n ++ xs) (drop-drop 2 place octets);
      most = most;
    }

record Hour (octets : List ℕ) (start : ℕ) : Type 0 where
  hour : ℕ
  hours : Field 0 23 hour octets
  is : hour * 3_600_000_000 ≡ start

record Minute (octets : List ℕ) (start : ℕ) : Type 0 where
  hour : ℕ
  minute : ℕ
  hours : Field 0 23 hour octets
  minutes : Field 2 59 minute octets
  is : hour * 3_600_000_000 + minute * 60_000_000 ≡ start

record Second (octets : List ℕ) (start : ℕ) : Type 0 where
  hour : ℕ
  minute : ℕ
  second : ℕ
  hours : Field 0 23 hour octets
  minutes : Field 2 59 minute octets
  seconds : Field 4 60 second octets
  is : hour * 3_600_000_000 + minute * 60_000_000 + second * 1_000_000 ≡ start

hour_only : (octets : List ℕ) (start : ℕ) → 2 ≤ length octets → hour_start octets ≡ Some start → Hour octets start
unfolding hour_start
hour_only octets start long e =
    let hour = bind_some (field 0 23 octets) _ start e in
    let is : hour.0 * 3_600_000_000 ≡ start = cc in
    record { hour = hour.0; hours = field_only 0 23 hour.0 octets (omega arith) hour.1; is = is }

minute_only : (octets : List ℕ) (start : ℕ) → 4 ≤ length octets → minute_start octets ≡ Some start → Minute octets start
unfolding minute_start
minute_only octets start long e =
    let before = bind_some (hour_start octets) _ start e in
    let minute = bind_some (field 2 59 octets) _ start before.2 in
    let hour = hour_only octets before.0 (omega arith) before.1 in
    let is : before.0 + minute.0 * 60_000_000 ≡ start = cc in
    record {
      hour = hour.hour;
      minute = minute.0;
      hours = hour.hours;
      minutes = field_only 2 59 minute.0 octets (omega arith) minute.1;
      is = ap (λ n. n + minute.0 * 60_000_000) hour.is ∙ is;
    }

second_only : (octets : List ℕ) (start : ℕ) → 6 ≤ length octets → second_start octets ≡ Some start → Second octets start
unfolding second_start
second_only octets start long e =
    let before = bind_some (minute_start octets) _ start e in
    let second = bind_some (field 4 60 octets) _ start before.2 in
    let minute = minute_only octets before.0 (omega arith) before.1 in
    let is : before.0 + second.0 * 1_000_000 ≡ start = cc in
    record {
      hour = minute.hour;
      minute = minute.minute;
      second = second.0;
      hours = minute.hours;
      minutes = minute.minutes;
      seconds = field_only 4 60 second.0 octets (omega arith) second.1;
      is = ap (λ n. n + second.0 * 1_000_000) minute.is ∙ is;
    }

empty : (xs : List ℕ) → length xs ≡ 0 → xs ≡ []
empty [] e = refl
empty (x ∷ xs) e = absurd (omega arith)

nothing_behind : (n : ℕ) (octets : List ℕ) → length octets ≡ n → drop n octets ≡ []
nothing_behind n octets e = empty (drop n octets) (length-drop n octets ∙ ap (λ k. k - n) e ∙ omega arith)

-- the fields of octets, and what is behind them
minute_fields : (octets : List ℕ) (h m : ℕ) → Field 0 23 h octets → Field 2 59 m octets → octets ≡ digits 2 h ++ (digits 2 m ++ drop 4 octets)
minute_fields octets h m hours minutes = hours.here ∙ ap (λ xs. digits 2 h ++ xs) minutes.here

second_fields : (octets : List ℕ) (h m s : ℕ) → Field 0 23 h octets → Field 2 59 m octets → Field 4 60 s octets
    → octets ≡ digits 2 h ++ (digits 2 m ++ (digits 2 s ++ drop 6 octets))
second_fields octets h m s hours minutes seconds = minute_fields octets h m hours minutes ∙ ap (λ xs. digits 2 h ++ (digits 2 m ++ xs)) seconds.here

hour_spelled : (octets : List ℕ) (found : Span) → length octets ≡ 2 → hour_span octets ≡ Some found → SpellsTime octets found
unfolding hour_span
hour_spelled octets found len e =
    let start = bind_some (hour_start octets) _ found e in
    let at = hour_only octets start.0 (omega arith) start.1 in
    let same : octets ≡ digits 2 at.hour = at.hours.here ∙ ap (λ xs. digits 2 at.hour ++ xs) (nothing_behind 2 octets len) ∙ append-nil (digits 2 at.hour) in
    let micros : micros_at at.hour 0 0 ≡ start.0 = omega (arith, at.is) in
    to_hour at.hour (record { hours = at.hours.most; minutes = omega arith; seconds = omega arith }) same
    (ap (λ n. span_from n 3_600_000_000) micros ∙ start.2)

minute_spelled : (octets : List ℕ) (found : Span) → length octets ≡ 4 → minute_span octets ≡ Some found → SpellsTime octets found
unfolding minute_span
minute_spelled octets found len e =
    let start = bind_some (minute_start octets) _ found e in
    let at = minute_only octets start.0 (omega arith) start.1 in
    let same : octets ≡ spelled_minute at.hour at.minute =
    minute_fields octets at.hour at.minute at.hours at.minutes
    ∙ ap (λ xs. digits 2 at.hour ++ (digits 2 at.minute ++ xs)) (nothing_behind 4 octets len)
    ∙ ap (λ xs. digits 2 at.hour ++ xs) (append-nil (digits 2 at.minute)) in
    let micros : micros_at at.hour at.minute 0 ≡ start.0 = omega (arith, at.is) in
    to_minute at.hour at.minute (record { hours = at.hours.most; minutes = at.minutes.most; seconds = omega arith }) same
    (ap (λ n. span_from n 60_000_000) micros ∙ start.2)

second_spelled : (octets : List ℕ) (found : Span) → length octets ≡ 6 → second_span octets ≡ Some found → SpellsTime octets found
unfolding second_span
second_spelled octets found len e =
    let start = bind_some (second_start octets) _ found e in
    let at = second_only octets start.0 (omega arith) start.1 in
    let same : octets ≡ spelled_second at.hour at.minute at.second =
    second_fields octets at.hour at.minute at.second at.hours at.minutes at.seconds
    ∙ ap (λ xs. digits 2 at.hour ++ (digits 2 at.minute ++ (digits 2 at.second ++ xs))) (nothing_behind 6 octets len)
    ∙ ap (λ xs. digits 2 at.hour ++ (digits 2 at.minute ++ xs)) (append-nil (digits 2 at.second)) in
    let micros : micros_at at.hour at.minute at.second ≡ start.0 = omega (arith, at.is) in
    to_second at.hour at.minute at.second (record { hours = at.hours.most; minutes = at.minutes.most; seconds = at.seconds.most }) same
    (ap (λ n. span_from n 1_000_000) micros ∙ start.2)

fraction_spelled : (octets : List ℕ) (found : Span) → has_fraction octets ≡ true → fraction_span octets (drop 7 octets) ≡ Some found → SpellsTime octets found
unfolding fraction_span
fraction_spelled octets found has e =
    let low : 8 ≤ length octets = grind (arith, nat_tests) in
    let high : length octets ≤ 13 = grind (arith, nat_tests) in
    let point : slice_index octets 6 ≡ 0x2e = grind (arith, nat_tests) in
    let start = bind_some (second_start octets) _ found e in
    let at = second_only octets start.0 (omega arith) start.1 in
    let parts = bind_some (number (drop 7 octets)) _ found start.2 in
    let behind : drop 6 octets ≡ 0x2e ∷ drop 7 octets = drop-cons octets 6 0 (omega arith) ∙ ap (λ o. o ∷ drop 7 octets) point in
    let count = length octets - 7 in
    let len : length (drop 7 octets) ≡ count = length-drop 7 octets in
    let spelled = spells (drop 7 octets) count parts.0 len parts.1 in
    let same : octets ≡ spelled_fraction at.hour at.minute at.second count parts.0 =
    second_fields octets at.hour at.minute at.second at.hours at.minutes at.seconds
    ∙ ap (λ xs. digits 2 at.hour ++ (digits 2 at.minute ++ (digits 2 at.second ++ xs))) (behind ∙ ap (λ xs. 0x2e ∷ xs) spelled.is) in
    let micros : micros_at at.hour at.minute at.second ≡ start.0 = omega (arith, at.is) in
    let unit : unit_at count ≡ unit_of (drop 7 octets) = ap unit_at (sym len) in
    let clock : IsClock at.hour at.minute at.second = record { hours = at.hours.most; minutes = at.minutes.most; seconds = at.seconds.most } in
    to_fraction at.hour at.minute at.second count parts.0 clock (omega arith) (omega arith) spelled.few same
    (ap (λ n. span_from (n + parts.0 * unit_at count) (unit_at count)) micros
    ∙ ap (λ u. span_from (start.0 + parts.0 * u) u) unit ∙ parts.2)

chosen : (b : Bool) (x y : Option Span) (found : Span) → cond b x y ≡ Some found → ((b ≡ true) × (x ≡ Some found)) ⊎ (y ≡ Some found)
chosen true x y found e = inl (refl, e)
chosen false x y found e = inr e

nat_eq_true : (a b : ℕ) → nat_eq a b ≡ true → a ≡ b
nat_eq_true a b e = grind (arith, nat_tests)

pub time_only : (octets : List ℕ) (found : Span) → span octets ≡ Some found → SpellsTime octets found
unfolding span
time_only octets found e =
    elim (chosen (nat_eq (length octets) 2) (hour_span octets) _ found e) [
      | inl two ↦ hour_spelled octets found (nat_eq_true (length octets) 2 two.0) two.1
      | inr longer ↦ elim (chosen (nat_eq (length octets) 4) (minute_span octets) _ found longer) [
        | inl four ↦ minute_spelled octets found (nat_eq_true (length octets) 4 four.0) four.1
        | inr later ↦ elim (chosen (nat_eq (length octets) 6) (second_span octets) _ found later) [
          | inl six ↦ second_spelled octets found (nat_eq_true (length octets) 6 six.0) six.1
          | inr last ↦ fraction_spelled octets found (passed (has_fraction octets) (fraction_span octets (drop 7 octets)) found last).test
              (passed (has_fraction octets) (fraction_span octets (drop 7 octets)) found last).answer
        ]
      ]
    ]
