-- The attributes of elements and the objects of items, one after the other.
use Rattle.std.proofs.Common.{codes, ◌≡◌, ℕ, suc, ◌+◌, ◌≤◌, ◌<◌, List, [], ◌∷◌, ◌++◌, length, get_or, drop, refl, sym, ap, ◌∙◌, drop-cons, arith, add-one}
use Rattle.json.specs.Token.{begin_array, end_array, key}
use Rattle.dq_dataset.specs.declared.data_set.Element.{Element}
use Rattle.dq_dataset.specs.Tree.{ElementList}
use Rattle.dq_dataset.specs.View.{as_elements, items_of}
use Rattle.dq_dataset.specs.Tree.{item_count}
use Rattle.dq_dataset.proofs.Spelled.{count_in, count-cons, count-drop}
use Rattle.dq_json.specs.declared.text.Repertoire.{Repertoire}
use Rattle.dq_json.specs.Json.{items_member, objects}

pub count_le : (all : List Element) (i : ℕ) (e : Element) → i < length all → e ≡ get_or all i e → count_in e ≤ item_count (as_elements all)
count_le all i e lt is =
    let parts : drop i all ≡ e ∷ drop (i + 1) all = rw add-one (drop-cons all i e lt ∙ ap (λ (x : Element). x ∷ drop (suc i) all) (sym is)) in
    omega (arith, count-cons e (drop (i + 1) all), ap (λ (x : List Element). item_count (as_elements x)) parts, count-drop i all)

pub some_items : (r : Repertoire) (ds : List ElementList) → 0 < length ds
    → key (codes "Value") ∷ begin_array ∷ (objects r (items_of ds) ++ end_array ∷ []) ≡ items_member r (items_of ds)
some_items r [] some = grind (arith, some)
some_items r (d ∷ ds) some = refl
