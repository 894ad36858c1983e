use Rattle.std.proofs.Common.{◌≡◌, ◌∙◌, None, ap, refl, sym, subst, arith}
use Rattle.dq_dataset.specs.Tree.{ElementList}
use Rattle.dq_dataset.specs.Facts.{IsDataSet}
use Rattle.dq_dataset.specs.View.{as_elements}
use Rattle.dq_dataset.proofs.Views.{as_elements-elements_of}
use Rattle.dq_dataset.proofs.Copies.{value_count-element, item_count-item}
use Rattle.dq_match.specs.Supported.{supported_part}
use Rattle.dq_match.proofs.DataSets.{part_facts}
use Rattle.dq_match.proofs.supported.+supported.Goals as goal

pub supported_part-supported_elements-requires : goal.supported_part-supported_elements-requires
supported_part-supported_elements-requires t c = rw (c.elements.ensures.elements, as_elements-elements_of) (omega arith, tt)

pub supported_part-from_elements-requires : goal.supported_part-from_elements-requires
supported_part-from_elements-requires t c =
    let read : as_elements c.elements.result.now ≡ c.args.keys.now = ap as_elements c.elements.ensures.elements ∙ as_elements-elements_of c.args.keys.now in
    let built = ap as_elements c.in_ok-elements.ensures.part ∙ as_elements-elements_of (supported_part c.args.scope (as_elements c.elements.result.now))
    ∙ ap (supported_part c.args.scope) read in
    subst (λ (d : ElementList). IsDataSet d) (sym built) (part_facts c.args.scope 16 None c.args.keys.now c.elements.ensures.facts)

pub supported_part-returns-clause-part : goal.supported_part-returns-clause-part
supported_part-returns-clause-part t c =
    let read : as_elements c.elements.result.now ≡ c.args.keys.now = ap as_elements c.elements.ensures.elements ∙ as_elements-elements_of c.args.keys.now in
    c.from_elements.ensures ∙ ap as_elements c.in_ok-elements.ensures.part
    ∙ as_elements-elements_of (supported_part c.args.scope (as_elements c.elements.result.now))
    ∙ ap (supported_part c.args.scope) read

pub supported_part-returns-clause-optional : goal.supported_part-returns-clause-optional
supported_part-returns-clause-optional t c = c.in_ok-elements.ensures.optional ∙ rw (c.elements.ensures.elements, as_elements-elements_of) refl

pub supported_elements-supported_value-requires : goal.supported_elements-supported_value-requires
supported_elements-supported_value-requires t c =
    let fewer = value_count-element c.args.keys.now c.loop-key.key-index c.key-item.result (omega arith) c.key-item.is in
    (omega (arith, fewer), tt)

pub supported_items-supported_part-requires : goal.supported_items-supported_part-requires
supported_items-supported_part-requires t c =
    let fewer = item_count-item c.args.items.now c.loop-item.item-index c.item-item.result (omega arith) c.item-item.is in
    (omega (arith, fewer), tt)
