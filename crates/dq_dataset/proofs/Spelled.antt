-- Writing elements or items one after the other, as a loop does.
use Rattle.std.proofs.Common.{◌≡◌, ℕ, zero, suc, ◌+◌, ◌≤◌, ◌<◌, List, [], ◌∷◌, ◌++◌, length, get_or, drop, sym, ap, ◌∙◌, append_assoc, arith}
use Rattle.std.proofs.Common.{add-one, drop-cons}
use Rattle.dq_dataset.proofs.Types.{Tag, Vr, Syntax, Element, Value, Octets, Items, ElementList, no_elements}
use Rattle.dq_dataset.specs.Tree.{item_count, items_count}
use Rattle.dq_dataset.specs.View.{as_elements, items_of, with_value}
use Rattle.dq_dataset.specs.Canonical.{canonical, canonical_items, item_header_of, HasLengths, ItemsHaveLengths}
use Rattle.dq_dataset.specs.Parts.{ElementHasLengths}

abbrev pub count_in : Element → ℕ
count_in e = item_count (with_value e e.value no_elements)

element_count : (t : Tag) (v : Vr) (x : Value) (rest : ElementList)
    → item_count (with_value (record { tag = t; vr = v; value = x }) x rest) ≡ count_in (record { tag = t; vr = v; value = x }) + item_count rest
element_count t v (Octets o) rest = omega arith
element_count t v (Items ds) rest = omega arith

pub count-cons : (e : Element) (es : List Element) → item_count (as_elements (e ∷ es)) ≡ count_in e + item_count (as_elements es)
count-cons e es = element_count e.tag e.vr e.value (as_elements es)

abbrev one : Tag → Vr → Value → Element
one t v x = record { tag = t; vr = v; value = x }

lengths_value : (s : Syntax) (t : Tag) (v : Vr) (x : Value) (rest : ElementList)
    → HasLengths s (with_value (one t v x) x rest) → ElementHasLengths s (one t v x) × HasLengths s rest
lengths_value s t v (Octets o) rest h = ((h.0, tt), h.1)
lengths_value s t v (Items ds) rest h = ((h.0, h.1, tt), h.2)

pub lengths-cons : (s : Syntax) (e : Element) (es : List Element) → HasLengths s (as_elements (e ∷ es)) → ElementHasLengths s e × HasLengths s (as_elements es)
lengths-cons s e es h = lengths_value s e.tag e.vr e.value (as_elements es) h

-- what is written, and what is left
pub record ElementsToWrite (s : Syntax) (all : List Element) (before out : List ℕ) (i : ℕ) : Type 0 where
  pub lengths : HasLengths s (as_elements (drop i all))
  pub told : out ++ canonical s (as_elements (drop i all)) ≡ before ++ canonical s (as_elements all)

pub record ItemsToWrite (s : Syntax) (all : List ElementList) (before out : List ℕ) (i : ℕ) : Type 0 where
  pub lengths : ItemsHaveLengths s (items_of (drop i all))
  pub told : out ++ canonical_items s (items_of (drop i all)) ≡ before ++ canonical_items s (items_of all)

module _ (s : Syntax) (all : List Element) (before out : List ℕ) (i : ℕ) (left : ElementsToWrite s all before out i) where
  pub next_element : (e : Element) → i < length all → e ≡ get_or all i e
      → ElementHasLengths s e × HasLengths s (as_elements (drop (i + 1) all)) × (count_in e ≤ item_count (as_elements (drop i all)))
  next_element e lt is = grind (arith, add-one, drop-cons, lengths-cons, count-cons)

module _ (s : Syntax) (all : List ElementList) (before out : List ℕ) (i : ℕ) (left : ItemsToWrite s all before out i) where
  pub next_item : (d : ElementList) → i < length all → d ≡ get_or all i d
      → (length (canonical s d) < 0xFFFFFFFF) × HasLengths s d × ItemsHaveLengths s (items_of (drop (i + 1) all))
      × (item_count d < items_count (items_of (drop i all)))
  next_item d lt is = grind (arith, add-one, drop-cons)

  pub item_written : (d : ElementList) → i < length all → d ≡ get_or all i d
      → ItemsToWrite s all before (out ++ item_header_of (length (canonical s d)) ++ canonical s d) (i + 1)
  item_written d lt is =
      let parts : drop i all ≡ d ∷ drop (i + 1) all = rw add-one (drop-cons all i d lt ∙ ap (λ (x : ElementList). x ∷ drop (suc i) all) (sym is)) in
      let joined : (out ++ item_header_of (length (canonical s d)) ++ canonical s d) ++ canonical_items s (items_of (drop (i + 1) all))
      ≡ out ++ canonical_items s (items_of (d ∷ drop (i + 1) all)) = simp append_assoc in
      record {
        lengths = (next_item d lt is).2;
        told = joined ∙ ap (λ (x : List ElementList). out ++ canonical_items s (items_of x)) (sym parts) ∙ left.told;
      }

pub count-drop : (i : ℕ) (es : List Element) → item_count (as_elements (drop i es)) ≤ item_count (as_elements es)
count-drop zero es = omega arith
count-drop (suc i) [] = omega arith
count-drop (suc i) (e ∷ es) = omega (arith, count-drop i es, count-cons e es)

pub items_count-drop : (i : ℕ) (ds : List ElementList) → items_count (items_of (drop i ds)) ≤ items_count (items_of ds)
items_count-drop zero ds = omega arith
items_count-drop (suc i) [] = omega arith
items_count-drop (suc i) (d ∷ ds) = omega (arith, items_count-drop i ds)
