-- The elements of the code and those of the definitions say the same.
use Rattle.std.proofs.Common.{◌≡◌, List, [], ◌∷◌, ◌++◌, Result, Ok, Err, OnOk, OnErr, refl, sym, ap, subst, ◌∙◌, arith}
use Rattle.dq_dataset.specs.Facts.{IsDataSet}
use Rattle.dq_dataset.proofs.Types.{Tag, Vr, Element, Value, ElementList, no_elements, element, sequence, ItemList, no_items, item}
use Rattle.dq_dataset.specs.View.{as_elements, items_of, list_of, with_value, elements_of}

pub list_of-items_of : (ds : List ElementList) → list_of (items_of ds) ≡ ds
list_of-items_of [] = refl
list_of-items_of (d ∷ ds) = ap (λ (xs : List ElementList). d ∷ xs) (list_of-items_of ds)

pub elements_of-with_value : (t : Tag) (v : Vr) (x : Value) (rest : ElementList)
    → elements_of (with_value (record { tag = t; vr = v; value = x }) x rest) ≡ record { tag = t; vr = v; value = x } ∷ elements_of rest
elements_of-with_value t v x rest = grind (arith, list_of-items_of)

pub elements_of-as_elements : (es : List Element) → elements_of (as_elements es) ≡ es
elements_of-as_elements [] = refl
elements_of-as_elements (e ∷ es) = elements_of-with_value e.tag e.vr e.value (as_elements es) ∙ ap (λ (xs : List Element). e ∷ xs) (elements_of-as_elements es)

mutual
  pub as_elements-elements_of : (d : ElementList) → as_elements (elements_of d) ≡ d
  as_elements-elements_of no_elements = refl
  as_elements-elements_of (element t v o rest) = ap (element t v o) (as_elements-elements_of rest)
  as_elements-elements_of (sequence t v items rest) = λ i. sequence t v (items_of-list_of items i) (as_elements-elements_of rest i)

  pub items_of-list_of : (items : ItemList) → items_of (list_of items) ≡ items
  items_of-list_of no_items = refl
  items_of-list_of (item d rest) = ap (item d) (items_of-list_of rest)

-- ---- pushing an element

pub pushed_facts : {E : Type 0} (r : Result (Unit {0}) E) (old new : List Element) (d : ElementList) (e : Element) → as_elements old ≡ d
    → IsDataSet (as_elements old)
    → IsDataSet (as_elements (elements_of d ++ e ∷ [])) → OnOk r (new ≡ old ++ e ∷ []) → OnErr r (new ≡ old) → IsDataSet (as_elements new)
pushed_facts (Ok x) old new d e is facts next ok err = grind (arith, elements_of-as_elements)
pushed_facts (Err x) old new d e is facts next ok err = subst (λ (es : List Element). IsDataSet (as_elements es)) (sym err) facts

pub pushed_elements : {E : Type 0} (r : Result (Unit {0}) E) (old new : List Element) (d : ElementList) (e : Element) → as_elements old ≡ d
    → OnOk r (new ≡ old ++ e ∷ []) → OnOk r (elements_of (as_elements new) ≡ elements_of d ++ e ∷ [])
pushed_elements r old new d e is ok = grind (arith, elements_of-as_elements)
