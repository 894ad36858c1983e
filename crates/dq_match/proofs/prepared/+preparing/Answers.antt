use Rattle.std.proofs.Common.{refl, arith}
use Rattle.dq_dataset.proofs.Views.{as_elements-elements_of}
use Rattle.dq_dataset.proofs.Copies.{value_count-element, item_count-item}
use Rattle.dq_match.proofs.prepared.+preparing.Goals as goal

pub prepared_elements-prepared_value-requires : goal.prepared_elements-prepared_value-requires
prepared_elements-prepared_value-requires t c =
    let fewer = value_count-element c.args.keys.now c.loop-key.key-index c.key-item.result (omega arith) c.key-item.is in
    (omega (arith, fewer), tt)

pub prepared_items-prepared_keys-requires : goal.prepared_items-prepared_keys-requires
prepared_items-prepared_keys-requires t c =
    let fewer = item_count-item c.args.items.now c.loop-item.item-index c.item-item.result (omega arith) c.item-item.is in
    (omega (arith, fewer), tt)

pub prepared_keys-prepared_elements-requires : goal.prepared_keys-prepared_elements-requires
prepared_keys-prepared_elements-requires t c = rw (c.elements.ensures.elements, as_elements-elements_of) (omega arith, tt)

pub prepared_keys-invariant_of-result : goal.prepared_keys-invariant_of-result
prepared_keys-invariant_of-result t c =
    rw (c.in_ok-elements.ensures, c.elements.ensures.elements, as_elements-elements_of) (c.asked_days.ensures, c.asked_times.ensures)

pub prepared_keys-returns : goal.prepared_keys-returns
prepared_keys-returns t c = rw (c.in_ok-elements.ensures, c.elements.ensures.elements, as_elements-elements_of) refl
