use Rattle.std.proofs.Common.{◌≡◌, ◌∙◌, refl, ◌+◌, List, [], length, min, drop, ap, arith}
use Rattle.std.proofs.lemmas.List.{drop_all}
use Rattle.dq_dataset.specs.Tree.{ElementList}
use Rattle.dq_dataset.specs.View.{as_elements, items_of}
use Rattle.dq_dataset.specs.declared.data_set.Element.{Element}
use Rattle.dq_dataset.specs.Canonical.{canonical, canonical_items}
use Rattle.dq_dataset.proofs.Views.{as_elements-elements_of}
use Rattle.dq_dataset.proofs.Copies.{value_count-element, item_count-item}
use Rattle.dq_dataset.proofs.Counted.{element_counted, item_counted}
use Rattle.dq_dataset.proofs.measuring.+measuring.Goals as goal

pub elements_length-value_length-octets-requires : goal.elements_length-value_length-octets-requires
elements_length-value_length-octets-requires t c =
    let fewer = value_count-element c.args.elements.now c.loop-element.element-index c.element-item.result (omega arith) c.element-item.is in
    (omega (arith, fewer), tt)

pub elements_length-loop-element-preserved : goal.elements_length-loop-element-preserved
elements_length-loop-element-preserved t c =
    let e = c.element-item.result in
    let counted = element_counted c.args.syntax c.args.elements.now c.loop-element.element-index c.loop-element.total e c.header_length-header.result
    c.value_length-octets.result
    c.loop-element-test.true c.element-item.is c.value_length-octets.ensures (c.header_length-header.ensures e.tag) c.loop-element.invariant.1 in
    (rw c.saturating_add-total.ensures (omega arith), rw (c.saturating_add-total.ensures, c.saturating_add.ensures) counted)

pub elements_length-returns : goal.elements_length-returns
elements_length-returns t c =
    let none : drop c.loop-element.element-index c.args.elements.now ≡ [] = drop_all c.loop-element.element-index c.args.elements.now (omega arith) in
    let whole = ap (λ (es : List Element). min (c.loop-element.total + length (canonical c.args.syntax (as_elements es))) 0xFFFFFFFF) none in
    omega (arith, whole, c.loop-element.invariant.0, c.loop-element.invariant.1)

pub items_length-elements_length-octets-requires : goal.items_length-elements_length-octets-requires
items_length-elements_length-octets-requires t c =
    let fewer = item_count-item c.args.items.now c.loop-item.item-index c.item-item.result (omega arith) c.item-item.is in
    rw (c.elements.ensures.elements, as_elements-elements_of) (omega (arith, fewer), tt)

pub items_length-loop-item-preserved : goal.items_length-loop-item-preserved
items_length-loop-item-preserved t c =
    let d = c.item-item.result in
    let cut : c.elements_length-octets.result ≡ min (length (canonical c.args.syntax d)) 0xFFFFFFFF =
    c.elements_length-octets.ensures ∙ rw (c.elements.ensures.elements, as_elements-elements_of) refl in
    let counted = item_counted c.args.syntax c.args.items.now c.loop-item.item-index c.loop-item.total d c.elements_length-octets.result
    c.loop-item-test.true c.item-item.is cut c.loop-item.invariant.1 in
    (rw c.saturating_add-total.ensures (omega arith), rw (c.saturating_add-total.ensures, c.saturating_add.ensures) counted)

pub items_length-returns : goal.items_length-returns
items_length-returns t c =
    let none : drop c.loop-item.item-index c.args.items.now ≡ [] = drop_all c.loop-item.item-index c.args.items.now (omega arith) in
    let whole = ap (λ (ds : List ElementList). min (c.loop-item.total + length (canonical_items c.args.syntax (items_of ds))) 0xFFFFFFFF) none in
    omega (arith, whole, c.loop-item.invariant.0, c.loop-item.invariant.1)
