-- What is left of an identifier is supported.
use Rattle.std.proofs.Common.{◌≡◌, false, ◌||◌, ◌↔◌, List, [], ◌∷◌, map, filter, refl, ap, subst, arith}
use Rattle.std.proofs.lemmas.Bool.{or_parts}
use Rattle.dq_dataset.specs.Tree.{ElementList, no_elements, element, sequence, ItemList, no_items, item}
use Rattle.dq_dataset.specs.View.{elements_of, items_of, list_of}
use Rattle.dq_dataset.specs.declared.data_set.Value.TheVariants.{Items}
use Rattle.dq_dataset.proofs.Views.{items_of-list_of}
use Rattle.dq_match.specs.declared.supported.KeyScope.{KeyScope}
use Rattle.dq_match.specs.Supported.{is_supported, below, supported_part, supported_items, supported_value, supported_element, has_unsupported, have_unsupported}

mutual
  pub nothing_left : (scope : KeyScope) (d : ElementList) → has_unsupported scope (supported_part scope d) ≡ false
  nothing_left scope no_elements = refl
  nothing_left scope (element t v o rest) = grind (arith, nothing_left scope rest)
  nothing_left scope (sequence t v items rest) = grind (arith, nothing_left scope rest, nothing_left_inside (below scope t) items)

  nothing_left_inside : (scope : KeyScope) (items : ItemList) → have_unsupported scope (supported_items scope items) ≡ false
  nothing_left_inside scope no_items = refl
  nothing_left_inside scope (item d rest) = λ i. nothing_left scope d i || nothing_left_inside scope rest i

mutual
  untouched : (scope : KeyScope) (d : ElementList) → has_unsupported scope d ≡ false → supported_part scope d ≡ d
  untouched scope no_elements h = refl
  untouched scope (element t v o rest) h = grind (arith, untouched scope rest)
  untouched scope (sequence t v items rest) h = grind (arith, untouched scope rest, untouched_inside (below scope t) items)

  untouched_inside : (scope : KeyScope) (items : ItemList) → have_unsupported scope items ≡ false → supported_items scope items ≡ items
  untouched_inside scope no_items h = refl
  untouched_inside scope (item d rest) h =
      let parts = or_parts (has_unsupported scope d) (have_unsupported scope rest) h in
      λ i. item (untouched scope d parts.0 i) (untouched_inside scope rest parts.1 i)

pub nothing_struck : (scope : KeyScope) (d : ElementList) → (has_unsupported scope d ≡ false) ↔ (supported_part scope d ≡ d)
nothing_struck scope d = (untouched scope d, λ same. subst (λ (x : ElementList). has_unsupported scope x ≡ false) same (nothing_left scope d))

-- ---- what stays

pub what_stays : (scope : KeyScope) (d : ElementList)
    → elements_of (supported_part scope d) ≡ map (supported_element scope) (filter (λ e. is_supported scope e.tag) (elements_of d))
what_stays scope no_elements = refl
what_stays scope (element t v o rest) = grind (arith, what_stays scope rest)
what_stays scope (sequence t v items rest) = grind (arith, what_stays scope rest, items_of-list_of)

items_stay : (scope : KeyScope) (items : List ElementList) → list_of (supported_items scope (items_of items)) ≡ map (supported_part scope) items
items_stay scope [] = refl
items_stay scope (d ∷ ds) = ap (λ (xs : List ElementList). supported_part scope d ∷ xs) (items_stay scope ds)

pub inside_stays : (scope : KeyScope) (items : List ElementList) → supported_value scope (Items items) ≡ Items (map (supported_part scope) items)
inside_stays scope items = ap Items (items_stay scope items)
