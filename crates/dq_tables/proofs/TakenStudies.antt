-- A patient and a day that are as they are asked for are taken.
use Rattle.std.proofs.Common.{◌≡◌, ℕ, ℤ, pos, ◌≤◌, ◌≤ℤ◌, int_le, Bool, true, false, ◌&&◌, List, Option, Some, None, option_map, option_and_then, unsigned_abs, refl, sym, ◌∙◌, arith, if◌then◌else◌}
use Rattle.std.specs.Str.{bytes_eq}
use Rattle.std.proofs.lemmas.Int.{ints}
use Rattle.dq_value.specs.Day.{Ymd, date_in, day_number, day}
use Rattle.dq_tables.specs.Keys.{value_passing}
use Rattle.dq_tables.specs.Labels.{date_number, day_named}
use Rattle.dq_tables.specs.StudyChoices.{is_open_or}
use Rattle.dq_tables.specs.StudyQuery.{ends_asked, days_asked}

-- what a law of tables says of days as numbers
pub record DaysAreInOrder : Type 0 where
  pub named : (octets : List ℕ) → option_map pos (day_named octets) ≡ option_map date_number (date_in octets)
  pub ordered : (a b : List ℕ) (x y : ℤ) (m n : ℕ) → day a ≡ Some x → day b ≡ Some y → day_named a ≡ Some m → day_named b ≡ Some n → x ≤ℤ y → m ≤ n

-- ---- the patient

patient_by : (test : List ℕ → Bool) (key : List ℕ) (said : Option (List ℕ)) (b : Bool) → test key ≡ b
    → ((value : List ℕ) → said ≡ Some value → test key ≡ true → bytes_eq key value ≡ true)
    → is_open_or bytes_eq (if b then Some key else None) said ≡ true
patient_by test key said false is same = refl
patient_by test key None true is same = refl
patient_by test key (Some value) true is same = same value refl is

pub patient_taken : (test : List ℕ → Bool) (asked said : Option (List ℕ))
    → ((key value : List ℕ) → asked ≡ Some key → said ≡ Some value → test key ≡ true → bytes_eq key value ≡ true)
    → is_open_or bytes_eq (value_passing test asked) said ≡ true
patient_taken test None said same = refl
patient_taken test (Some key) said same = patient_by test key said (test key) refl (λ value. same key value refl)

-- ---- the day

abbrev is_from : Option ℕ → Option ℤ → Bool
is_from = is_open_or (λ first day. int_le (pos first) day)

abbrev is_until : Option ℕ → Option ℤ → Bool
is_until = is_open_or (λ last day. int_le day (pos last))

true_le : (m n : ℕ) → m ≤ n → int_le (pos m) (pos n) ≡ true
true_le m n h = grind (arith, ints)

-- octets that name a day as a number name one
dated_by : (date : Option Ymd) (m : ℕ) → option_map (λ date. unsigned_abs (date_number date)) date ≡ Some m → (x : ℤ) × (option_map day_number date ≡ Some x)
dated_by None m h = absurd cc
dated_by (Some date) m h = (day_number date, refl)

dated : (octets : List ℕ) (m : ℕ) → day_named octets ≡ Some m → (x : ℤ) × (day octets ≡ Some x)
unfolding day_named day
dated octets m h = dated_by (date_in octets) m h

module _ (law : DaysAreInOrder) where
  pair : (a b : List ℕ) (m n : ℕ) → day_named a ≡ Some m → day_named b ≡ Some n
      → ((x y : ℤ) → day a ≡ Some x → day b ≡ Some y → x ≤ℤ y) → m ≤ n
  pair a b m n first second le = grind (arith, dated)

  module _ (value : List ℕ) where
    from_by : (end : Option (List ℕ)) (m n : Option ℕ) → option_and_then day_named end ≡ m → day_named value ≡ n
        → ((first : List ℕ) (x y : ℤ) → end ≡ Some first → day first ≡ Some x → day value ≡ Some y → x ≤ℤ y) → is_from m (option_map pos n) ≡ true
    from_by end None n first second le = refl
    from_by end (Some m) None first second le = refl
    from_by None (Some m) (Some n) first second le = absurd cc
    from_by (Some octets) (Some m) (Some n) first second le = true_le m n (pair octets value m n first second (λ x y. le octets x y refl))

    until_by : (end : Option (List ℕ)) (m n : Option ℕ) → option_and_then day_named end ≡ m → day_named value ≡ n
        → ((last : List ℕ) (x y : ℤ) → end ≡ Some last → day last ≡ Some x → day value ≡ Some y → y ≤ℤ x) → is_until m (option_map pos n) ≡ true
    until_by end None n first second le = refl
    until_by end (Some m) None first second le = refl
    until_by None (Some m) (Some n) first second le = absurd cc
    until_by (Some octets) (Some m) (Some n) first second le = true_le n m (pair value octets n m second first (λ y x at is. le octets x y refl is at))

  abbrev in_days : Option ℕ × Option ℕ → Option ℤ → Bool
  in_days days said = is_from days.0 said && is_until days.1 said

  unsaid : (first last : Option ℕ) → in_days (first, last) None ≡ true
  unsaid None None = refl
  unsaid None (Some last) = refl
  unsaid (Some first) None = refl
  unsaid (Some first) (Some last) = refl

  pub days_taken : (asked said : Option (List ℕ))
      → ((key value first : List ℕ) (x y : ℤ) → asked ≡ Some key → said ≡ Some value → (ends_asked key).0 ≡ Some first → day first ≡ Some x → day value ≡ Some y
      → x ≤ℤ y)
      → ((key value last : List ℕ) (x y : ℤ) → asked ≡ Some key → said ≡ Some value → (ends_asked key).1 ≡ Some last → day last ≡ Some x → day value ≡ Some y
      → y ≤ℤ x)
      → in_days (days_asked asked) (option_map date_number (option_and_then date_in said)) ≡ true
  days_taken None said from until = refl
  days_taken (Some key) None from until = unsaid (days_asked (Some key)).0 (days_asked (Some key)).1
  days_taken (Some key) (Some value) from until =
      (λ i. in_days (days_asked (Some key)) (sym (law.named value) i))
      ∙ (λ i. from_by value (ends_asked key).0 _ (day_named value) refl refl (λ first x y. from key value first x y refl refl) i
      && until_by value (ends_asked key).1 _ (day_named value) refl refl (λ last x y. until key value last x y refl refl) i)
