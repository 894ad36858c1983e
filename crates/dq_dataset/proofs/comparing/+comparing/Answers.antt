use Rattle.std.proofs.Common.{◌≡◌, arith, ◌∙◌, sym, ap}
use Rattle.dq_dataset.specs.View.{as_elements}
use Rattle.dq_dataset.proofs.Edits.{first_and_rest, same_so_far}
use Rattle.dq_dataset.proofs.Views.{as_elements-elements_of}
use Rattle.dq_dataset.proofs.Copies.{value_count-element, item_count-item}
use Rattle.dq_dataset.proofs.comparing.+comparing.Goals as goal

pub are_same_elements-is_same_value-requires : goal.are_same_elements-is_same_value-requires
are_same_elements-is_same_value-requires t c =
    let fewer = value_count-element c.args.elements.now c.loop-element.element-index c.element-item.result (omega arith) c.element-item.is in
    (omega (arith, fewer), tt)

pub are_same_items-are_same_elements-requires : goal.are_same_items-are_same_elements-requires
are_same_items-are_same_elements-requires t c =
    let fewer = item_count-item c.args.items.now c.loop-item.item-index c.item-item.result (omega arith) c.item-item.is in
    rw (c.elements.ensures.elements, as_elements-elements_of) (omega (arith, fewer), tt)

pub are_same_items-loop-item-preserved : goal.are_same_items-loop-item-preserved
are_same_items-loop-item-preserved t c =
    let a = c.item-item.result in
    let b = c.other-item.result in
    let mine = c.elements.ensures.elements in
    let its = c.elements-in-loop-item.ensures.elements in
    let same : a ≡ b = sym (as_elements-elements_of a)
    ∙ ap as_elements (sym mine ∙ c.are_same_elements.ensures.0 c.if-not-are_same_elements.false ∙ its) ∙ as_elements-elements_of b in
    same_so_far c.args.items.now c.args.others.now c.loop-item.left.now _ c.loop-item.item-index a b (omega arith) c.item-item.is c.loop-item.invariant
    (first_and_rest c.loop-item.left.now b (omega arith) c.other-item.is) same
