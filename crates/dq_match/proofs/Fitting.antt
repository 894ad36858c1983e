-- A record fits keys where each that stands alone is met, and the period, if there is one, too.
use Rattle.std.proofs.Common.{◌≡◌, ◌↔◌, Bool, true, false, ◌||◌, ◌&&◌, inl, inr, List, [], ◌∷◌, Option, Some, None, is_some, refl, sym, subst, ap, ◌∙◌, arith}
use Rattle.std.specs.Prelude.{IfSome}
use Rattle.std.specs.List.{list_any}
use Rattle.std.proofs.lemmas.Bool.{and_parts, and_from, or_cases, or_left, or_right}
use Rattle.dq_list.specs.Lengths.{is_empty}
use Rattle.dq_list.specs.Among.{IsAmong}
use Rattle.dq_vr.specs.declared.Tag.{Tag}
use Rattle.dq_vr.specs.declared.Vr.{Vr}
use Rattle.dq_dataset.specs.declared.data_set.Value.{Value}
use Rattle.dq_dataset.specs.Tree.{ElementList}
use Rattle.dq_dataset.specs.View.{as_elements, elements_of, with_value}
use Rattle.dq_dataset.specs.Values.{element_at}
use Rattle.dq_dataset.proofs.Views.{as_elements-elements_of}
use Rattle.dq_dataset.specs.declared.data_set.Element.{Element}
use Rattle.dq_dataset.specs.declared.data_set.Value.TheVariants.{Octets, Items}
use Rattle.dq_match.specs.declared.keys.Nesting.{Nesting}
use Rattle.dq_match.specs.declared.keys.Nesting.TheVariants.{Inner}
use Rattle.dq_match.specs.Matching.{is_matched_elsewhere, with_period, each_met, all_met, meets}
use Rattle.dq_match.specs.StandardMatching.{EachIsMet, PeriodIsMet, SomeItemFits}

-- ---- one key after the other

abbrev AllAreMet : Nesting → ElementList → Bool → List Element → Type 0
AllAreMet place held joined keys = (key : Element) → IsAmong key keys → is_matched_elsewhere place joined key.tag ≡ false → meets key (element_at key.tag held) ≡ true

either_way : (passed met : Bool) → (passed ≡ false → met ≡ true) → (passed || met) ≡ true
either_way true met h = refl
either_way false met h = h refl

module _ (place : Nesting) (held : ElementList) (joined : Bool) where
  first_met : (key : Element) (rest : List Element)
      → (is_matched_elsewhere place joined key.tag || meets key (element_at key.tag held)) ≡ true
      → AllAreMet place held joined rest → AllAreMet place held joined (key ∷ rest)
  first_met key rest here later wanted (inl is) = grind (arith, or_cases)
  first_met key rest here later wanted (inr h) = later wanted h

  each_step : (t : Tag) (v : Vr) (x : Value) (rest : ElementList)
      → each_met (with_value (record { tag = t; vr = v; value = x }) x rest) place held joined
      ≡ ((is_matched_elsewhere place joined t || meets (record { tag = t; vr = v; value = x })
      (element_at t held)) && each_met rest place held joined)
  each_step t v (Octets octets) rest = refl
  each_step t v (Items items) rest = refl

  each_from : (keys : List Element) → each_met (as_elements keys) place held joined ≡ true → AllAreMet place held joined keys
  each_from [] h = λ key none. absurd none
  each_from (key ∷ keys) h =
      let parts = and_parts (is_matched_elsewhere place joined key.tag || meets key (element_at key.tag held))
      (each_met (as_elements keys) place held joined)
      (sym (each_step key.tag key.vr key.value (as_elements keys)) ∙ h) in
      first_met key keys parts.0 (each_from keys parts.1)

  each_to : (keys : List Element) → AllAreMet place held joined keys → each_met (as_elements keys) place held joined ≡ true
  each_to [] all = refl
  each_to (key ∷ keys) all =
      each_step key.tag key.vr key.value (as_elements keys)
      ∙ and_from (is_matched_elsewhere place joined key.tag || meets key (element_at key.tag held))
      (each_met (as_elements keys) place held joined)
      (either_way (is_matched_elsewhere place joined key.tag) (meets key (element_at key.tag held)) (all key (inl refl)))
      (each_to keys (λ other h. all other (inr h)))

  pub each_is : (keys : ElementList) → (each_met keys place held joined ≡ true) ↔ AllAreMet place held joined (elements_of keys)
  each_is keys =
      subst (λ (d : ElementList). (each_met d place held joined ≡ true) ↔ AllAreMet place held joined (elements_of keys))
      (as_elements-elements_of keys)
      (each_from (elements_of keys), each_to (elements_of keys))

-- ---- and the period

with_from : (p : Option Bool) (met : Bool → Bool) → with_period p met ≡ true → (met (is_some p) ≡ true) × IfSome p (λ inside. inside ≡ true)
with_from None met h = (h, tt)
with_from (Some inside) met h = let parts = and_parts inside (met true) h in (parts.1, parts.0)

with_to : (p : Option Bool) (met : Bool → Bool) → met (is_some p) ≡ true → IfSome p (λ inside. inside ≡ true) → with_period p met ≡ true
with_to None met h in_period = h
with_to (Some inside) met h in_period = and_from inside (met true) in_period h

pub fits_each : (place : Nesting) (keys held : ElementList) → (all_met place keys held ≡ true) ↔ (EachIsMet place keys held × PeriodIsMet keys held)
fits_each place keys held = grind (arith, with_from, with_to, each_is)

-- ---- items

item_from : (test : ElementList → Bool) (ds : List ElementList) → list_any test ds ≡ true → (d : ElementList) × IsAmong d ds × (test d ≡ true)
item_from test [] h = absurd cc
item_from test (d ∷ ds) h =
    elim (or_cases (test d) (list_any test ds) h) [
      | inl here ↦ (d, inl refl, here)
      | inr later ↦ let one = item_from test ds later in (one.0, inr one.1, one.2)
    ]

item_to : (test : ElementList → Bool) (d : ElementList) (ds : List ElementList) → IsAmong d ds → test d ≡ true → list_any test ds ≡ true
item_to test d [] h is = absurd h
item_to test d (e ∷ es) (inl same) is = or_left (test e) (list_any test es) (ap test same ∙ is)
item_to test d (e ∷ es) (inr h) is = or_right (test e) (list_any test es) (item_to test d es h is)

pub fits_item : (keys : ElementList) (items : List ElementList) → ((is_empty items || list_any (all_met Inner keys) items) ≡ true)
    ↔ SomeItemFits keys items
fits_item keys [] = (λ h. inl refl, λ some. refl)
fits_item keys (d ∷ ds) = (λ h. inr (item_from (all_met Inner keys) (d ∷ ds) h), some_item)
  where
    some_item : SomeItemFits keys (d ∷ ds) → list_any (all_met Inner keys) (d ∷ ds) ≡ true
    some_item (inl none) = cc
    some_item (inr some) = item_to (all_met Inner keys) some.0 (d ∷ ds) some.1 some.2
