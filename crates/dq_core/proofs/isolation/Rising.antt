-- Histories are well formed where the opened numbers rise.
use Rattle.std.proofs.Common.{◌≡◌, ℕ, zero, suc, ◌+◌, ◌<◌, ◌&&◌, nat_lt, Bool, true, false, List, [], ◌∷◌, length, get_or, Option, Some, None, ◌↔◌, refl, sym, ap, ◌∙◌, arith, add-one}
use Rattle.std.specs.Prelude.{IsTrue}
use Rattle.std.specs.List.Sorted.{IsStrictlyIncreasing}
use Rattle.std.proofs.lemmas.Bool.Decides.{nat_tests}
use Rattle.dq_core.proofs.isolation.Vocabulary.{Event, is_above, rises_from, is_well_formed_history, opened_numbers}
use Rattle.dq_core.specs.declared.event.Event.TheVariants as event

abbrev rises : Option ℕ → List ℕ → Bool
rises newest [] = true
rises newest (n ∷ ns) = is_above newest n && rises (Some n) ns

rises-opened : (newest : Option ℕ) (events : List Event) → rises_from newest events ≡ rises newest (opened_numbers events)
rises-opened newest [] = refl
rises-opened newest (event.Open n ∷ events) = ap (λ b. is_above newest n && b) (rises-opened (Some n) events)
rises-opened newest (event ∷ events) = rises-opened newest events

pub both-true : (a b : Bool) → (a && b) ≡ true → (a ≡ true) × (b ≡ true)
both-true true true h = (refl, refl)
both-true true false h = cc
both-true false b h = cc

-- each number is below the next
abbrev GoesUp : List ℕ → Type 0
GoesUp ns = (k : ℕ) → suc k < length ns → get_or ns k 0 < get_or ns (suc k) 0

to-next : (ns : List ℕ) → GoesUp ns → IsStrictlyIncreasing ns
to-next ns up = λ k l. rw add-one (up k (omega arith))

from-next : (ns : List ℕ) → IsStrictlyIncreasing ns → GoesUp ns
from-next ns up = λ k l. let h : get_or ns k 0 < get_or ns (k + 1) 0 = up k (omega arith) in rw add-one at h

increasing : (n : ℕ) (ns : List ℕ) → rises (Some n) ns ≡ true → GoesUp (n ∷ ns)
increasing n [] h k l = absurd (omega arith)
increasing n (m ∷ ms) h zero l = grind (arith, nat_tests, both-true (nat_lt n m) (rises (Some m) ms) h)
increasing n (m ∷ ms) h (suc k) l = increasing m ms (both-true (nat_lt n m) (rises (Some m) ms) h).1 k (omega arith)

increasing-none : (ns : List ℕ) → rises None ns ≡ true → GoesUp ns
increasing-none [] h k l = absurd (omega arith)
increasing-none (n ∷ ns) h k l = increasing n ns h k l

rising : (n : ℕ) (ns : List ℕ) → GoesUp (n ∷ ns) → rises (Some n) ns ≡ true
rising n [] h = refl
rising n (m ∷ ms) h = let first : n < m = h 0 (omega arith) in grind (arith, nat_tests, rising m ms (λ k l. h (suc k) (omega arith)))

rising-none : (ns : List ℕ) → GoesUp ns → rises None ns ≡ true
rising-none [] h = refl
rising-none (n ∷ ns) h = rising n ns h

pub well_formed_increasing : (events : List Event) → IsTrue (is_well_formed_history events) ↔ IsStrictlyIncreasing (opened_numbers events)
well_formed_increasing events = (
  λ h. to-next (opened_numbers events) (increasing-none (opened_numbers events) (sym (rises-opened None events) ∙ h)),
  λ h. rises-opened None events
      ∙ rising-none (opened_numbers events) (from-next (opened_numbers events) h),
)
