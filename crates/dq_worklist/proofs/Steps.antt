-- The only scheduled procedure step of an entry that fits meets the item that is asked for.
use Rattle.std.proofs.Common.{◌≡◌, ◌↔◌, ℕ, true, false, List, [], ◌∷◌, Option, Some, None, is_some, inl, inr, refl, sym, ap, subst, ◌∙◌}
use Rattle.std.specs.List.{AllByRecursion}
use Rattle.std.proofs.lemmas.Slice.Eq.{bytes_eq-Decides}
use Rattle.dq_list.specs.Among.{IsAmong}
use Rattle.dq_vr.specs.declared.Tag.{Tag}
use Rattle.dq_vr.specs.declared.Vr.TheVariants.{SH}
use Rattle.dq_vr.specs.Dictionary.{dictionary, vr_in, known_vr}
use Rattle.dq_vr.specs.Tags.{scheduled_procedure_step_sequence, scheduled_procedure_step_id}
use Rattle.dq_value.specs.Parts.{sole}
use Rattle.dq_dataset.specs.declared.data_set.Element.{Element}
use Rattle.dq_dataset.specs.declared.data_set.Value.{Value}
use Rattle.dq_dataset.specs.declared.data_set.Value.TheVariants.{Octets, Items}
use Rattle.dq_dataset.specs.Tree.{ElementList, ItemList, no_items, item}
use Rattle.dq_dataset.specs.View.{elements_of, has_tag}
use Rattle.dq_dataset.specs.Values.{element_at, sole_at}
use Rattle.dq_dataset.proofs.KnownVrs.{HasKnownInside, HaveKnownVrs}
use Rattle.dq_match.specs.declared.keys.Nesting.{Nesting}
use Rattle.dq_match.specs.declared.keys.Nesting.TheVariants.{Outer, Inner}
use Rattle.dq_match.specs.Keys.{items_in}
use Rattle.dq_match.specs.Matching.{period, is_matched_elsewhere, items_meet, all_met, fits, meets}
use Rattle.dq_match.specs.StandardMatching.{EachIsMet, PeriodIsMet, SomeItemFits}
use Rattle.dq_match.specs.SeveralValues.{is_plain}
use Rattle.dq_tables.specs.Keys.{sole_item_of, sole_item_at}
use Rattle.dq_match.proofs.Alone.{not_passed}
use Rattle.dq_match.proofs.OneValue.{same_tag, sole_is, found_has, plain_short, one_met}

meets_item : (key : Element) (held : Option Element) (asked : ElementList) → key.value ≡ Items (asked ∷ [])
    → meets key held ≡ items_meet (item asked no_items) (items_in held)
meets_item key held asked is = rw is refl

-- a step that is met has the id that is asked for
ids_are_short : known_vr scheduled_procedure_step_id ≡ Some SH
unfolding known_vr vr_in dictionary
ids_are_short = refl

id_alone : (asked step : ElementList) (id other : List ℕ) → HaveKnownVrs asked → HaveKnownVrs step
    → sole_at scheduled_procedure_step_id asked ≡ Some id
    → sole_at scheduled_procedure_step_id step ≡ Some other → is_plain id ≡ true → EachIsMet Inner asked step → id ≡ other
id_alone asked step id other known_asked known_step is_asked is_held plain each =
    (bytes_eq-Decides id other).0 (plain_short id other plain
    (one_met SH scheduled_procedure_step_id ids_are_short Inner asked step step known_asked known_step refl each
    (not_passed (is_some (period asked step)) Inner scheduled_procedure_step_id refl refl) id other is_asked is_held))

-- ---- the step of an entry

pub record IsOnlyStep (d step : ElementList) : Type 0 where
  pub element : Element
  pub there : element_at scheduled_procedure_step_sequence d ≡ Some element
  pub holds : element.value ≡ Items (step ∷ [])

step_by : (d step : ElementList) (e : Element) (v : Value) → element_at scheduled_procedure_step_sequence d ≡ Some e → e.value ≡ v
    → elim v [ Octets octets ↦ None | Items items ↦ sole items ] ≡ Some step → IsOnlyStep d step
step_by d step e (Octets octets) there is h = absurd cc
step_by d step e (Items items) there is h =
    record { element = e; there = there; holds = is ∙ ap (λ (ds : List ElementList). Items ds) (sole_is items step h) }

step_in : (d step : ElementList) (found : Option Element) → element_at scheduled_procedure_step_sequence d ≡ found → sole_item_of found ≡ Some step
    → IsOnlyStep d step
unfolding sole_item_of
step_in d step None there h = absurd cc
step_in d step (Some e) there h = step_by d step e e.value there refl h

pub step_of : (d step : ElementList) → sole_item_at scheduled_procedure_step_sequence d ≡ Some step → IsOnlyStep d step
unfolding sole_item_at
step_of d step h = step_in d step (element_at scheduled_procedure_step_sequence d) refl h

abbrev pub AllKnownInside : ElementList → Type 0
AllKnownInside d = AllByRecursion (λ (e : Element). HasKnownInside e.value) (elements_of d)

module _ (d step : ElementList) (known : AllKnownInside d) (is : IsOnlyStep d step) where
  step_facts : IsAmong is.element (elements_of d) × HasKnownInside is.element.value × (has_tag scheduled_procedure_step_sequence is.element ≡ true)
  step_facts =
      found_has (λ (e : Element). HasKnownInside e.value) (has_tag scheduled_procedure_step_sequence) is.element (elements_of d) known is.there

  pub step_known : HaveKnownVrs step
  step_known = (subst HasKnownInside is.holds step_facts.1).0

  step_tag : is.element.tag ≡ scheduled_procedure_step_sequence
  step_tag = same_tag is.element.tag scheduled_procedure_step_sequence step_facts.2

-- what the laws of matching say
abbrev pub EachAlone : Type 0
EachAlone = (place : Nesting) (keys held : ElementList) → (all_met place keys held ≡ true) ↔ (EachIsMet place keys held × PeriodIsMet keys held)

abbrev pub ItemsMet : Type 0
ItemsMet = (keys : ElementList) (others : ItemList) (items : List ElementList)
    → (items_meet (item keys others) items ≡ true) ↔ SomeItemFits keys items

some_fit : (asked step : ElementList) → SomeItemFits asked (step ∷ []) → all_met Inner asked step ≡ true
some_fit asked step (inl none) = absurd cc
some_fit asked step (inr (d, inl is, fit)) = ap (all_met Inner asked) is ∙ fit
some_fit asked step (inr (d, inr none, fit)) = absurd none

module _ (each_alone : EachAlone) (items_met : ItemsMet) where
  -- the step of an entry that fits meets the item that is asked for
  pub item_met : (keys d asked step : ElementList) → AllKnownInside keys → sole_item_at scheduled_procedure_step_sequence keys ≡ Some asked
      → sole_item_at scheduled_procedure_step_sequence d ≡ Some step → fits keys d ≡ true → EachIsMet Inner asked step × PeriodIsMet asked step
  item_met keys d asked step known_keys in_keys in_held fit =
      let key = step_of keys asked in_keys in
      let one = step_of d step in_held in
      let key_tag = step_tag keys asked known_keys key in
      let alone : is_matched_elsewhere Outer (is_some (period keys d)) key.element.tag ≡ false =
      ap (is_matched_elsewhere Outer (is_some (period keys d))) key_tag ∙ not_passed (is_some (period keys d)) Outer scheduled_procedure_step_sequence refl refl in
      let at : element_at key.element.tag d ≡ Some one.element = ap (λ (t : Tag). element_at t d) key_tag ∙ one.there in
      let items : items_in (Some one.element) ≡ step ∷ [] = rw one.holds refl in
      let met : items_meet (item asked no_items) (step ∷ []) ≡ true =
      sym (ap (λ (o : Option Element). meets key.element o) at ∙ meets_item key.element (Some one.element) asked key.holds
      ∙ ap (items_meet (item asked no_items)) items) ∙ ((each_alone Outer keys d).0 fit).0 key.element (step_facts keys asked known_keys key).0 alone in
      (each_alone Inner asked step).0 (some_fit asked step ((items_met asked no_items (step ∷ [])).0 met))

  -- an entry that fits has the id that is asked for
  pub fits_alone : (keys d asked step : ElementList) (id other : List ℕ) → AllKnownInside keys → AllKnownInside d
      → sole_item_at scheduled_procedure_step_sequence keys ≡ Some asked → sole_item_at scheduled_procedure_step_sequence d ≡ Some step
      → sole_at scheduled_procedure_step_id asked ≡ Some id → sole_at scheduled_procedure_step_id step ≡ Some other → is_plain id ≡ true
      → fits keys d ≡ true → id ≡ other
  fits_alone keys d asked step id other known_keys known_held in_keys in_held is_asked is_held plain fit =
      id_alone asked step id other (step_known keys asked known_keys (step_of keys asked in_keys)) (step_known d step known_held (step_of d step in_held))
      is_asked is_held plain (item_met keys d asked step known_keys in_keys in_held fit).0

-- a value of the only step
pub record HasStep (tag : Tag) (d : ElementList) (value : List ℕ) : Type 0 where
  pub step : ElementList
  pub there : sole_item_at scheduled_procedure_step_sequence d ≡ Some step
  pub has : sole_at tag step ≡ Some value
