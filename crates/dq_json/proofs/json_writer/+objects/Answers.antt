use Rattle.std.proofs.Common.{arith}
use Rattle.std.proofs.lemmas.Grind.{common_steps}
use Rattle.dq_dataset.proofs.Views.{as_elements-elements_of}
use Rattle.dq_dataset.proofs.Copies.{item_count-item}
use Rattle.dq_json.proofs.Objects.{count_le, some_items}
use Rattle.dq_json.proofs.json_writer.+objects.Goals as goal

pub put_elements-put_element-requires : goal.put_elements-put_element-requires
put_elements-put_element-requires t c =
    let le = count_le c.args.elements.now c.loop-element.element-index c.element-item.result c.loop-element-test.true c.element-item.is in
    (omega (arith, le), tt)

pub put_items-returns : goal.put_items-returns
put_items-returns t c = let some = some_items c.args.repertoire c.args.items.now in grind (arith, common_steps, some)

pub put_object-put_elements-requires : goal.put_object-put_elements-requires
put_object-put_elements-requires t c = rw (c.elements.ensures.elements, as_elements-elements_of) (omega arith, tt)

pub put_object-returns : goal.put_object-returns
put_object-returns t c =
    let whole = rw (c.elements.ensures.elements, as_elements-elements_of) at c.in_ok-put_elements.ensures in
    grind (arith, common_steps, whole)

pub put_objects-put_object-requires : goal.put_objects-put_object-requires
put_objects-put_object-requires t c =
    let fewer = item_count-item c.args.items.now c.loop-item.item-index c.item-item.result c.loop-item-test.true c.item-item.is in
    (omega (arith, fewer), tt)
