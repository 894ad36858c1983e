use Rattle.std.proofs.Common.{◌≡◌, ◌+◌, [], ◌∷◌, ◌++◌, take, refl, sym, ap, ◌∙◌, arith}
use Rattle.std.proofs.lemmas.List.{take_more}
use Rattle.dq_dataset.specs.Tree.{ElementList}
use Rattle.dq_dataset.proofs.Views.{as_elements-elements_of}
use Rattle.dq_dataset.proofs.Copies.{value_count-element, item_count-item}
use Rattle.dq_dataset.proofs.copying.+copying.Goals as goal

pub copied_elements-copied_value-requires : goal.copied_elements-copied_value-requires
copied_elements-copied_value-requires t c =
    let fewer = value_count-element c.args.elements.now c.loop-element.element-index c.element-item.result (omega arith) c.element-item.is in
    (omega (arith, fewer), tt)

pub copied_items-copied_elements-requires : goal.copied_items-copied_elements-requires
copied_items-copied_elements-requires t c =
    let fewer = item_count-item c.args.items.now c.loop-item.item-index c.item-item.result (omega arith) c.item-item.is in
    rw (c.elements.ensures.elements, as_elements-elements_of) (omega (arith, fewer), tt)

pub copied_items-from_elements-requires : goal.copied_items-from_elements-requires
copied_items-from_elements-requires t c = rw (c.in_ok-elements.ensures, c.elements.ensures.elements, as_elements-elements_of) c.elements.ensures.facts

pub copied_items-loop-item-preserved : goal.copied_items-loop-item-preserved
copied_items-loop-item-preserved t c =
    let d = c.item-item.result in
    let i = c.loop-item.item-index in
    let same : c.from_elements.result ≡ d = c.from_elements.ensures
    ∙ rw (c.in_ok-elements.ensures, c.elements.ensures.elements, as_elements-elements_of) refl in
    let next : take (i + 1) c.args.items.now ≡ take i c.args.items.now ++ d ∷ [] =
    take_more c.args.items.now i d (omega arith) ∙ ap (λ (x : ElementList). take i c.args.items.now ++ x ∷ []) (sym c.item-item.is) in
    c.in_ok-push.ensures.items ∙ (λ j. c.loop-item.invariant j ++ same j ∷ []) ∙ sym next
