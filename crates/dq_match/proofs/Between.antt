-- What a key for a date or a time takes: what is between the ends that are read of it.
use Rattle.std.proofs.Common.{◌≡◌, Bool, false, ℕ, List, [], ◌∷◌, Option, Some, None, refl}
use Rattle.dq_value.specs.Day.{day, date_in}
use Rattle.dq_value.specs.Time.{span}
use Rattle.dq_value.specs.Range.{range_ends, end_of}
use Rattle.dq_match.specs.Ranges.{Bounds, bounds, both}

pub no_day : day [] ≡ None
unfolding day date_in
no_day = refl

pub no_time : span [] ≡ None
unfolding span
no_time = refl

pub unread : {A : Type 0} (has : Bounds A → A → Bool) (range : Option (Bounds A)) (found : Option A) → found ≡ None
    → both has range found ≡ false
unread has None found e = refl
unread has (Some range) found e = rw e refl

module _ {A : Type 0} (read : List ℕ → Option A) (nothing : read [] ≡ None) (has : Bounds A → A → Bool) (key value : List ℕ)
    (found : A) (is : read value ≡ Some found) where
  some : (octets : List ℕ) (end : A) → read octets ≡ Some end → end_of octets ≡ Some octets
  unfolding end_of
  some [] end h = absurd cc
  some (octet ∷ others) end h = refl

  pub closed : (from to : List ℕ) (first last : A) → range_ends key ≡ Some (end_of from, end_of to) → read from ≡ Some first
      → read to ≡ Some last → both has (bounds read key) (read value) ≡ has (Some first, Some last) found
  unfolding bounds
  closed from to first last split is_first is_last = rw (split, some from first is_first, some to last is_last, is_first, is_last, is) refl

  pub from_on : (from : List ℕ) (first : A) → range_ends key ≡ Some (end_of from, end_of []) → read from ≡ Some first
      → both has (bounds read key) (read value) ≡ has (Some first, None) found
  unfolding bounds end_of
  from_on from first split is_first = rw (split, some from first is_first, is_first, is) refl

  pub until : (to : List ℕ) (last : A) → range_ends key ≡ Some (end_of [], end_of to) → read to ≡ Some last
      → both has (bounds read key) (read value) ≡ has (None, Some last) found
  unfolding bounds end_of
  until to last split is_last = rw (split, some to last is_last, is_last, is) refl

  pub single : (asked : A) → range_ends key ≡ None → read key ≡ Some asked
      → both has (bounds read key) (read value) ≡ has (Some asked, Some asked) found
  unfolding bounds
  single asked one is_asked = rw (one, is_asked, is) refl
