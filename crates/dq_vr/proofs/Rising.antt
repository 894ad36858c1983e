-- The tags of the dictionary rise.
use Rattle.std.proofs.Common.{◌≡◌, ℕ, ◌<◌, Bool, true, List, [], ◌∷◌, length, get_or, Some, refl, arith, zero, suc, nat_lt, ◌&&◌, Contains}
use Rattle.std.proofs.lemmas.Bool.{and_parts}
use Rattle.std.proofs.lemmas.Bool.Decides.{nat_tests}
use Rattle.std.proofs.lemmas.List.Kept.{AllPairs-cons}
use Rattle.dq_vr.specs.declared.Tag.{Tag}
use Rattle.dq_vr.specs.Tag.{is_below}
use Rattle.dq_vr.specs.Dictionary.{Entry, Rises, dictionary, known_vr}
use Rattle.dq_vr.proofs.Entries.{vr_in-of_entry}

-- each entry's tag is below the next one's
rising_after : Entry → List Entry → Bool
rising_after entry [] = true
rising_after entry (next ∷ others) = is_below entry.0 next.0 && rising_after next others

is_below-trans : (a b c : Tag) → is_below a b ≡ true → is_below b c ≡ true → is_below a c ≡ true
unfolding is_below
is_below-trans a b c p q = grind (arith, nat_tests)

below_later : (entry : Entry) (xs : List Entry) → rising_after entry xs ≡ true → (k : ℕ) (d : Entry) → k < length xs → is_below entry.0 (get_or xs k d).0 ≡ true
unfolding rising_after
below_later entry [] h k d lt = absurd (omega arith)
below_later entry (x ∷ xs) h zero d lt = (and_parts _ _ h).0
below_later entry (x ∷ xs) h (suc k) d lt =
    is_below-trans entry.0 x.0 (get_or xs k d).0 (and_parts _ _ h).0 (below_later x xs (and_parts _ _ h).1 k d (omega arith))

abbrev AreBelow : Entry → Entry → Type 0
AreBelow earlier later = is_below earlier.0 later.0 ≡ true

rises_from : (entry : Entry) (xs : List Entry) → rising_after entry xs ≡ true → Rises (entry ∷ xs)
unfolding Rises rising_after
rises_from entry [] h = AllPairs-cons AreBelow entry [] (λ k d lt. absurd (omega arith)) (λ i j d lt within. absurd (omega arith))
rises_from entry (x ∷ xs) h =
    AllPairs-cons AreBelow entry (x ∷ xs) (below_later entry (x ∷ xs) h) (rises_from x xs (and_parts _ _ h).1)

pub dictionary_rises : Rises dictionary
unfolding dictionary rising_after is_below
dictionary_rises = rises_from _ _ refl

-- each element number has 16 bits
are_short : List Entry → Bool
are_short [] = true
are_short (entry ∷ others) = nat_lt entry.0.element 65536 && are_short others

short_each : (xs : List Entry) → are_short xs ≡ true → (k : ℕ) (d : Entry) → k < length xs → (get_or xs k d).0.element < 65536
unfolding are_short
short_each [] h k d lt = absurd (omega arith)
short_each (x ∷ xs) h zero d lt =
    let first = (and_parts (nat_lt x.0.element 65536) (are_short xs) h).0 in
    grind (arith, nat_tests)
short_each (x ∷ xs) h (suc k) d lt = short_each xs (and_parts (nat_lt x.0.element 65536) (are_short xs) h).1 k d (omega arith)

pub dictionary_short : (k : ℕ) (d : Entry) → k < length dictionary → (get_or dictionary k d).0.element < 65536
unfolding dictionary are_short
dictionary_short = short_each dictionary refl

pub entries_told : (entry : Entry) → Contains dictionary entry → known_vr entry.0 ≡ Some entry.1
unfolding known_vr
entries_told entry (k, within, here) =
    let short : entry.0.element < 65536 = rw here at (dictionary_short k entry within) in
    vr_in-of_entry dictionary dictionary_rises dictionary_short entry.0 short entry k within here refl
