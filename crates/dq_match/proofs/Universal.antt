-- A universal key is met by every record.
use Rattle.std.proofs.lemmas.Bool.{cond_both, and_parts, or_cases, or_left, or_right}
use Rattle.std.proofs.lemmas.Slice.Eq.{bytes_eq-Decides}
use Rattle.dq_match.proofs.Alone.{each_of}
use Rattle.dq_match.proofs.Fitting.{each_is}
use Rattle.std.proofs.Common.{◌≡◌, ℕ, Bool, true, false, not, cond, nat_eq, ◌==◌, ◌||◌, ◌&&◌, List, [], ◌∷◌, Option, Some, None, IfSome, find, length, map, refl, ap, ◌∙◌, arith}
use Rattle.std.specs.List.{list_any, list_all}
use Rattle.std.proofs.lemmas.Bool.Decides.{nat_tests}
use Rattle.dq_list.specs.Lengths.{is_empty}
use Rattle.dq_vr.specs.declared.Tag.{Tag}
use Rattle.dq_vr.specs.declared.Vr.{Vr}
use Rattle.dq_value.specs.Digits.{◌>>=◌}
use Rattle.dq_value.specs.Day.{day}
use Rattle.dq_value.specs.Trimming.{trimmed_value, without_padding, without_leading, without_trailing, is_padded, ignores_leading_spaces}
use Rattle.dq_value.specs.Parts.{element_values, value_pieces, sole}
use Rattle.dq_value.specs.Range.{range_ends, ends_of_halves, halves, behind}
use Rattle.dq_dataset.specs.declared.data_set.Element.{Element}
use Rattle.dq_dataset.specs.declared.data_set.Value.{Value}
use Rattle.dq_dataset.specs.declared.data_set.Value.TheVariants.{Octets, Items}
use Rattle.dq_dataset.specs.Tree.{ElementList, no_elements, element, sequence, ItemList, no_items, item}
use Rattle.dq_dataset.specs.View.{elements_of, has_tag, list_of}
use Rattle.dq_dataset.specs.Values.{element_at, value_octets, element_octets, values_of, values_in, sole_at}
use Rattle.dq_match.specs.declared.keys.Nesting.{Nesting}
use Rattle.dq_vr.specs.Tags.{scheduled_procedure_step_start_date}
use Rattle.dq_match.specs.declared.keys.Nesting.TheVariants.{Outer, Inner}
use Rattle.dq_match.specs.Wildcards.{any_run}
use Rattle.dq_match.specs.Ranges.{Bounds, range_bounds}
use Rattle.dq_match.specs.Values.{is_asterisk, is_universal, octets_meet}
use Rattle.dq_match.specs.Keys.{items_in, is_tag, is_key}
use Rattle.dq_match.specs.Matching.{asked_days, period, is_matched_elsewhere, with_period, each_met, items_meet, all_met, fits, meets}
use Rattle.dq_match.specs.Universal.{all_universal, are_universal, has_nothing_to_meet, is_open_key, asks_nothing}

-- ---- one key

pub universal_octets : (vr : Vr) (key held : List ℕ) → is_universal vr key ≡ true → octets_meet vr key held ≡ true
unfolding octets_meet
universal_octets vr key held h = grind (arith, nat_tests, or_left)

-- ---- no period

no_range : {A : Type 0} (read : List ℕ → Option A) → range_bounds read (any_run ∷ []) ≡ None
unfolding range_bounds range_ends ends_of_halves halves behind
no_range read = refl

range_of_sole : {A : Type 0} → (List ℕ → Option A) → List (List ℕ) → Option (Bounds A)
range_of_sole read values = sole values >>= range_bounds read

sole_no_range : {A : Type 0} (read : List ℕ → Option A) (padded : Bool) (values : List (List ℕ)) → (is_empty values || (padded && is_asterisk values)) ≡ true
    → range_of_sole read values ≡ None
unfolding range_of_sole
sole_no_range read padded [] h = refl
sole_no_range read true (value ∷ []) h = ap (range_bounds read) ((bytes_eq-Decides value (any_run ∷ [])).0 h) ∙ no_range read
sole_no_range read false (value ∷ []) h = absurd cc
sole_no_range read true (value ∷ (next ∷ others)) h = refl
sole_no_range read false (value ∷ (next ∷ others)) h = refl

abbrev IsUniversal : Option Element → Type 0
IsUniversal found = IfSome found (λ e. is_universal e.vr (value_octets e.value) ≡ true)

trimmed_nothing : (vr : Vr) → trimmed_value vr [] ≡ []
unfolding trimmed_value without_padding without_leading without_trailing
trimmed_nothing vr = by_tests (ignores_leading_spaces vr) (is_padded vr)
  where
    by_tests : (a b : Bool) → cond a (without_leading (λ octet. nat_eq octet 0x20) (cond b [] [])) (cond b [] []) ≡ []
    by_tests true true = refl
    by_tests true false = refl
    by_tests false true = refl
    by_tests false false = refl

no_parts : (vr : Vr) → element_values vr [] ≡ []
unfolding element_values
no_parts vr = ap (λ (o : List ℕ). cond (length o == 0) [] (map (trimmed_value vr) (value_pieces vr []))) (trimmed_nothing vr)

nothing_universal : (vr : Vr) → is_universal vr [] ≡ true
unfolding is_universal
nothing_universal vr = ap (λ (values : List (List ℕ)). is_empty values || (is_padded vr && is_asterisk values)) (no_parts vr)

found_universal : (tag : Tag) (keys : ElementList) → all_universal keys ≡ true → IsUniversal (element_at tag keys)
found_universal tag no_elements h = tt
found_universal tag (element t v o rest) h =
    let parts = and_parts (is_universal v o) (all_universal rest) h in
    cond_both (is_tag t tag) (Some (record { tag = t; vr = v; value = Octets o })) (element_at tag rest) IsUniversal
    (λ is. parts.0) (λ none. found_universal tag rest parts.1)
found_universal tag (sequence t v items rest) h =
    cond_both (is_tag t tag) (Some (record { tag = t; vr = v; value = Items (list_of items) })) (element_at tag rest) IsUniversal
    (λ is. nothing_universal v) (λ none. found_universal tag rest (and_parts (are_universal items) (all_universal rest) h).1)

not_asked_by : {A : Type 0} (read : List ℕ → Option A) (vr : Vr) (value : Value) → is_universal vr (value_octets value) ≡ true
    → range_of_sole read (values_of vr value) ≡ None
unfolding range_of_sole is_universal
not_asked_by read vr (Octets octets) h = sole_no_range read (is_padded vr) (element_values vr octets) h
not_asked_by read vr (Items items) h = refl

not_asked : {A : Type 0} (read : List ℕ → Option A) (found : Option Element) → IsUniversal found → range_of_sole read (values_in found) ≡ None
unfolding range_of_sole
not_asked read None h = refl
not_asked read (Some e) h = not_asked_by read e.vr e.value h

no_days : (keys : ElementList) → all_universal keys ≡ true → asked_days keys ≡ None
unfolding asked_days sole_at range_of_sole
no_days keys h = not_asked day (element_at _ keys) (found_universal _ keys h)

no_period : (keys held : ElementList) → all_universal keys ≡ true → period keys held ≡ None
unfolding period
no_period keys held h = rw (no_days keys h)

-- ---- all keys

mutual
  each_universal : (keys : ElementList) (place : Nesting) (held : ElementList) → all_universal keys ≡ true → each_met keys place held false ≡ true
  each_universal no_elements place held h = refl
  each_universal (element t v o rest) place held h =
      let parts = and_parts (is_universal v o) (all_universal rest) h in
      λ i. or_right (is_matched_elsewhere place false t) (octets_meet v o (element_octets (element_at t held))) (universal_octets v o (element_octets (element_at t held)) parts.0) i
      && each_universal rest place held parts.1 i
  each_universal (sequence t v items rest) place held h =
      let parts = and_parts (are_universal items) (all_universal rest) h in
      λ i. or_right (is_matched_elsewhere place false t) (items_meet items (items_in (element_at t held))) (items_universal items (items_in (element_at t held)) parts.0) i
      && each_universal rest place held parts.1 i

  items_universal : (items : ItemList) (held : List ElementList) → are_universal items ≡ true → items_meet items held ≡ true
  items_universal no_items held h = refl
  items_universal (item keys others) [] h = refl
  items_universal (item keys others) (d ∷ ds) h =
      let parts = and_parts (all_universal keys) (are_universal others) h in
      or_left (with_period (period keys d) (each_met keys Inner d)) (list_any (λ d. with_period (period keys d) (each_met keys Inner d)) ds)
      (ap (λ (p : Option Bool). with_period p (each_met keys Inner d)) (no_period keys d parts.0) ∙ each_universal keys Inner d parts.0)

pub universal_met : (place : Nesting) (keys held : ElementList) → all_universal keys ≡ true → all_met place keys held ≡ true
universal_met place keys held h =
    ap (λ (p : Option Bool). with_period p (each_met keys place held)) (no_period keys held h) ∙ each_universal keys place held h

-- ---- what asks nothing

nothing_to_meet : (vr : Vr) (value : Value) → has_nothing_to_meet vr value ≡ true → is_universal vr (value_octets value) ≡ true
nothing_to_meet vr (Octets octets) h = h
nothing_to_meet vr (Items items) h = nothing_universal vr

start_is_key : (tag : Tag) → is_tag tag scheduled_procedure_step_start_date ≡ true → is_key Outer tag ≡ true
start_is_key tag h = grind (arith, nat_tests)

open_key : (key : Element) → is_key Outer key.tag ≡ true → is_open_key key ≡ true → has_nothing_to_meet key.vr key.value ≡ true
open_key key is h = grind (arith, or_cases)

start_open : (keys : List Element) → list_all is_open_key keys ≡ true
    → IsUniversal (find (has_tag scheduled_procedure_step_start_date) keys)
start_open [] h = tt
start_open (key ∷ keys) h =
    let parts = and_parts (is_open_key key) (list_all is_open_key keys) h in
    cond_both (is_tag key.tag scheduled_procedure_step_start_date) (Some key)
    (find (has_tag scheduled_procedure_step_start_date) keys) IsUniversal
    (λ is. nothing_to_meet key.vr key.value (open_key key (start_is_key key.tag is) parts.0)) (λ none. start_open keys parts.1)

no_period_asked : (keys held : ElementList) → asks_nothing keys ≡ true → period keys held ≡ None
unfolding period asked_days sole_at range_of_sole
no_period_asked keys held h = rw (not_asked day (element_at _ keys) (start_open (elements_of keys) h)) refl

nothing_met : (t : Tag) (v : Vr) (x : Value) (held : Option Element) → has_nothing_to_meet v x ≡ true
    → meets (record { tag = t; vr = v; value = x }) held ≡ true
nothing_met t v (Octets octets) held h = universal_octets v octets (element_octets held) h
nothing_met t v (Items []) held h = refl
nothing_met t v (Items (d ∷ others)) held h = absurd cc

each_open : (keys held : ElementList) → asks_nothing keys ≡ true → each_met keys Outer held false ≡ true
each_open keys held h =
    (each_is Outer held false keys).1 (λ key among alone. nothing_met key.tag key.vr key.value (element_at key.tag held)
    (open_key key (key_alone (is_key Outer key.tag) alone) (each_of is_open_key (elements_of keys) h key among)))
  where
    key_alone : (is : Bool) → (not is || false) ≡ false → is ≡ true
    key_alone true h = refl
    key_alone false h = absurd cc

pub nothing_asked : (identifier held : ElementList) → asks_nothing identifier ≡ true → fits identifier held ≡ true
nothing_asked identifier held h =
    ap (λ (p : Option Bool). with_period p (each_met identifier Outer held)) (no_period_asked identifier held h) ∙ each_open identifier held h

pub ruleset universal_keys = (universal_octets, universal_met, nothing_asked)
