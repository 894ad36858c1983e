-- How much is left to copy.
use Rattle.std.proofs.Common.{◌≡◌, ℕ, suc, ◌≤◌, ◌<◌, List, ◌∷◌, length, get_or, drop, sym, ap, ◌∙◌, drop-cons, arith}
use Rattle.dq_dataset.proofs.Types.{Tag, Vr, Element, Value, Octets, Items, ElementList}
use Rattle.dq_dataset.specs.Tree.{item_count, items_count}
use Rattle.dq_dataset.specs.View.{as_elements, items_of, with_value}
use Rattle.dq_dataset.proofs.Spelled.{count-drop, items_count-drop}

abbrev pub value_count : Value → ℕ
value_count (Octets octets) = 0
value_count (Items items) = items_count (items_of items)

value_count_le : (t : Tag) (v : Vr) (x : Value) (rest : ElementList) → value_count x ≤ item_count (with_value (record { tag = t; vr = v; value = x }) x rest)
value_count_le t v (Octets octets) rest = omega arith
value_count_le t v (Items items) rest = omega arith

pub value_count-element : (all : List Element) (i : ℕ) (e : Element) → i < length all → e ≡ get_or all i e → value_count e.value ≤ item_count (as_elements all)
value_count-element all i e lt is =
    let parts : drop i all ≡ e ∷ drop (suc i) all = drop-cons all i e lt ∙ ap (λ (x : Element). x ∷ drop (suc i) all) (sym is) in
    let here = value_count_le e.tag e.vr e.value (as_elements (drop (suc i) all)) in
    omega (arith, here, ap (λ (x : List Element). item_count (as_elements x)) parts, count-drop i all)

pub item_count-item : (all : List ElementList) (i : ℕ) (d : ElementList) → i < length all → d ≡ get_or all i d → item_count d < items_count (items_of all)
item_count-item all i d lt is =
    let parts : drop i all ≡ d ∷ drop (suc i) all = drop-cons all i d lt ∙ ap (λ (x : ElementList). x ∷ drop (suc i) all) (sym is) in
    omega (arith, ap (λ (x : List ElementList). items_count (items_of x)) parts, items_count-drop i all)
