-- What is asked for of the dictionary is a data set.
use Rattle.std.proofs.Common.{◌≡◌, ◌≢◌, ℕ, ◌+◌, ◌-◌, ◌%◌, ◌<◌, Bool, true, false, not, cond, nat_eq, nat_lt, ◌&&◌, List, [], ◌∷◌, ◌++◌, length, get_or, map, filter, Option, Some, None, Contains, refl, arith, suc, length-append}
use Rattle.std.specs.Prelude.{IfSome, option_to_list}
use Rattle.std.proofs.lemmas.List.{get_or_default}
use Rattle.std.proofs.lemmas.Bool.{and_parts}
use Rattle.std.proofs.lemmas.Bool.Decides.{nat_tests}
use Rattle.dq_vr.specs.declared.Tag.{Tag}
use Rattle.dq_vr.specs.declared.Vr.{Vr}
use Rattle.dq_vr.specs.declared.Vr.TheVariants.{SQ}
use Rattle.dq_vr.specs.Dictionary.{Entry, Rises, dictionary, known_vr}
use Rattle.dq_dataset.specs.Tree.{ElementList}
use Rattle.dq_dataset.specs.View.{as_elements, with_value, items_of}
use Rattle.dq_dataset.specs.Rules.{follows, is_sequence, pad_of, padded_value}
use Rattle.dq_dataset.specs.Facts.{IsElementTag, AreElements, AreItems}
use Rattle.dq_dataset.specs.declared.data_set.Value.TheVariants.{Octets, Items}
use Rattle.dq_request.specs.declared.search.Key.{Key}
use Rattle.dq_request.specs.Searches.{is_asked, asked_octets, asked_items, asked_element, asked_elements, asked_identifier}

-- ---- one element

same_number : (a b : ℕ) → nat_eq a b ≡ true → a ≡ b
same_number a b h = grind (arith, nat_tests)

other_number : (a b : ℕ) → nat_eq a b ≡ false → a ≢ b
other_number a b h e = absurd (grind (arith, nat_tests))

odd_filled : (n : ℕ) → n % 2 ≢ 0 → (n + 1) % 2 ≡ 0
odd_filled n h = omega arith

even_by : (b : Bool) (vr : Vr) (value : List ℕ) → nat_eq (length value % 2) 0 ≡ b → length (cond b value (value ++ pad_of vr ∷ [])) % 2 ≡ 0
even_by true vr value h = same_number (length value % 2) 0 h
even_by false vr value h = rw (length-append value (pad_of vr ∷ [])) (odd_filled (length value) (other_number (length value % 2) 0 h))

is_sq : (vr : Vr) → is_sequence (Some vr) ≡ true → vr ≡ SQ
is_sq vr h = grind arith

-- the step may stand in a sequence of so many levels
abbrev FitsStep : ℕ → Option ElementList → Type 0
FitsStep levels step = IfSome step (λ d. AreElements levels None d)

items_by : (b : Bool) (levels : ℕ) (step : Option ElementList) → FitsStep levels step → AreItems levels (items_of (cond b (option_to_list step) []))
items_by true levels None fits = tt
items_by true levels (Some d) fits = (fits, tt)
items_by false levels step fits = tt

-- ---- the tags of a table

is_sound : Tag → Bool
is_sound tag = not (nat_eq tag.group 0xFFFE) && (not (nat_eq tag.element 0) && (nat_lt tag.group 65536 && nat_lt tag.element 65536))

are_sound : List Entry → Bool
are_sound [] = true
are_sound (entry ∷ others) = is_sound entry.0 && are_sound others

placed : (last : Option Tag) (tag : Tag) → follows last tag ≡ true → is_sound tag ≡ true → IsElementTag last tag
unfolding is_sound
placed last tag rises sound = grind (arith, nat_tests)

dictionary_sound : are_sound dictionary ≡ true
unfolding dictionary are_sound is_sound
dictionary_sound = refl

abbrev IsAbove : Option Tag → List Entry → Type 0
IsAbove last entries = (k : ℕ) (d : Entry) → k < length entries → follows last (get_or entries k d).0 ≡ true

abbrev AreTold : List Entry → Type 0
AreTold entries = (k : ℕ) (d : Entry) → k < length entries → known_vr (get_or entries k d).0 ≡ Some (get_or entries k d).1

module _ (levels : ℕ) (some : 0 < levels) (level : List ℕ) (step : Option ElementList) (fits : FitsStep (levels - 1) step) (keys : List Key) where
  value_by : (b : Bool) (last : Option Tag) (tag : Tag) (vr : Vr) (rest : ElementList) → is_sequence (Some vr) ≡ b → IsElementTag last tag
      → known_vr tag ≡ Some vr → AreElements levels (Some tag) rest
      → AreElements levels last (with_value (record { tag = tag; vr = vr; value = cond b (Items (asked_items step tag)) (Octets (padded_value vr (asked_octets level keys tag))) })
      (cond b (Items (asked_items step tag)) (Octets (padded_value vr (asked_octets level keys tag)))) rest)
  value_by true last tag vr rest sequence placed known others = (
    placed,
    record { is_sq = is_sq vr sequence; allowed = rw known (rw sequence refl) },
    some,
    items_by _ (levels - 1) step fits,
    others,
  )
  value_by false last tag vr rest sequence placed known others = (
    placed,
    record { by_dictionary = rw known refl; no_sequence = rw known sequence; even = even_by _ vr (asked_octets level keys tag) refl },
    others,
  )

  kept_by : (b : Bool) (last : Option Tag) (entry : Entry) (others : List Entry) → IsElementTag last entry.0 → known_vr entry.0 ≡ Some entry.1
      → AreElements levels last (as_elements (map (asked_element level step keys) others))
      → AreElements levels (Some entry.0) (as_elements (map (asked_element level step keys) others))
      → AreElements levels last (as_elements (map (asked_element level step keys) (cond b (entry ∷ others) others)))
  kept_by true last entry others placed known skipped rest =
      value_by (is_sequence (Some entry.1)) last entry.0 entry.1 (as_elements (map (asked_element level step keys) others)) refl placed known rest
  kept_by false last entry others placed known skipped rest = skipped

  entries_are : (last : Option Tag) (entries : List Entry) → IsAbove last entries → Rises entries → AreTold entries → are_sound entries ≡ true
      → AreElements levels last (as_elements (asked_elements level step keys entries))
  unfolding Rises are_sound
  entries_are last [] above rises told sound = tt
  entries_are last (entry ∷ others) above rises told sound =
      let parts = and_parts (is_sound entry.0) (are_sound others) sound in
      let rises_on : Rises others = λ i j d lt within. rises (suc i) (suc j) d (omega arith) (omega arith) in
      let told_on : AreTold others = λ k d lt. told (suc k) d (omega arith) in
      kept_by (is_asked entry) last entry (filter is_asked others) (placed last entry.0 (above 0 entry (omega arith)) parts.0) (told 0 entry (omega arith))
      (entries_are last others (λ k d lt. above (suc k) d (omega arith)) rises_on told_on parts.1)
      (entries_are (Some entry.0) others (λ k d lt. rises 0 (suc k) d (omega arith) (omega arith)) rises_on told_on parts.1)

  pub identifier_is : Rises dictionary → ((entry : Entry) → Contains dictionary entry → known_vr entry.0 ≡ Some entry.1)
      → AreElements levels None (asked_identifier level step keys)
  identifier_is rises told =
      entries_are None dictionary (λ k d lt. refl) rises (λ k d lt. told (get_or dictionary k d) (k, lt, get_or_default dictionary k (get_or dictionary k d) d lt)) dictionary_sound
