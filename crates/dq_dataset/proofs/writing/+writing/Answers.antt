use Rattle.std.proofs.Common.{◌≡◌, ℕ, ◌++◌, List, length, arith, refl, sym, ap, ◌∙◌, append_assoc}
use Rattle.std.proofs.lemmas.List.{length-append}
use Rattle.dq_dataset.proofs.Types.{Vr, SQ}
use Rattle.dq_dataset.specs.Canonical.{header_octets, item_header_of, canonical, canonical_items}
use Rattle.dq_dataset.specs.View.{items_of}
use Rattle.dq_dataset.proofs.Views.{as_elements-elements_of}
use Rattle.dq_dataset.proofs.Spelled.{next_element, next_item, item_written, count-drop, items_count-drop}
use Rattle.dq_dataset.proofs.Lengths.{sequence_closed, item_closed, element_has_vr, vr_is, canonical-sequence, sequence_start, item_start}
use Rattle.dq_dataset.proofs.writing.+writing.Goals as goal

pub put_element-put_length_before-requires-clause-place : goal.put_element-put_length_before-requires-clause-place
put_element-put_length_before-requires-clause-place t c =
    let e = c.args.element.now in
    let vr = vr_is e.vr e.value c.in-Items.items c.requires.sequence c.in-Items.is in
    let begun : c.put_header-in-Items.new.out.items ≡ c.args.out.now.items ++ header_octets c.args.syntax e.tag SQ 0 =
    c.in_ok-put_header-in-Items.ensures ∙ ap (λ (v : Vr). c.args.out.now.items ++ header_octets c.args.syntax e.tag v 0) vr in
    let start = sequence_start c.args.syntax e.tag c.args.out.now.items c.put_header-in-Items.new.out.items begun in
    omega (arith, start, c.put_header-in-Items.new.out.ok.0)

pub put_element-returns-in_ok-put_items-in-Items : goal.put_element-returns-in_ok-put_items-in-Items
put_element-returns-in_ok-put_items-in-Items t c =
    let e = c.args.element.now in
    let items = c.in-Items.items in
    let body = canonical_items c.args.syntax (items_of items) in
    let vr = vr_is e.vr e.value items c.requires.sequence c.in-Items.is in
    let begun : c.put_header-in-Items.new.out.items ≡ c.args.out.now.items ++ header_octets c.args.syntax e.tag SQ 0 =
    c.in_ok-put_header-in-Items.ensures ∙ ap (λ (v : Vr). c.args.out.now.items ++ header_octets c.args.syntax e.tag v 0) vr in
    let whole : c.put_items.new.out.items ≡ c.put_header-in-Items.new.out.items ++ body = c.in_ok-put_items-in-Items.ensures
    ∙ rw (c.deref-in-Items.ensures.value, c.inner.ensures) refl in
    c.put_length_before.ensures
    ∙ sequence_closed c.args.syntax e.tag c.args.out.now.items c.put_header-in-Items.new.out.items begun body c.put_items.new.out.items c.len-start.result _
    whole
    (omega (arith, c.put_header-in-Items.new.out.ok.0))
    (omega (arith, c.put_header-in-Items.new.out.ok.0, c.put_items.new.out.ok.0, ap length whole, length-append c.put_header-in-Items.new.out.items body))
    ∙ ap (λ (x : List ℕ). c.args.out.now.items ++ x) (sym (canonical-sequence c.args.syntax e items c.in-Items.is vr))

pub put_elements-put_element-requires : goal.put_elements-put_element-requires
put_elements-put_element-requires t c =
    let next = next_element _ _ _ _ _ c.loop-element.invariant c.element-item.result (omega arith) c.element-item.is in
    let vr = element_has_vr c.loop-element.element-index _ c.args.elements.now c.element-item.result c.requires.facts (omega arith) c.element-item.is in
    (omega (arith, next.2, count-drop c.loop-element.element-index c.args.elements.now), (next.0, vr))

pub put_items-put_elements-requires : goal.put_items-put_elements-requires
put_items-put_elements-requires t c =
    let next = next_item _ _ _ _ _ c.loop-item.invariant c.item-item.result c.loop-item-test.true c.item-item.is in
    rw (c.elements.ensures.elements, as_elements-elements_of) (
      omega (arith, next.3, items_count-drop c.loop-item.item-index c.args.items.now),
      (next.1, c.elements.ensures.facts),
    )

pub put_items-put_length_before-requires-clause-place : goal.put_items-put_length_before-requires-clause-place
put_items-put_length_before-requires-clause-place t c =
    let start = item_start c.loop-item.out.items c.put_item_header.new.out.items c.in_ok-put_item_header.ensures in
    omega (arith, start, c.put_item_header.new.out.ok.0)

pub put_items-put_length_before-requires-clause-short : goal.put_items-put_length_before-requires-clause-short
put_items-put_length_before-requires-clause-short t c =
    let d = c.item-item.result in
    let next = next_item _ _ _ _ _ c.loop-item.invariant d c.loop-item-test.true c.item-item.is in
    let whole : c.put_elements.new.out.items ≡ c.put_item_header.new.out.items ++ canonical c.args.syntax d = c.in_ok-put_elements.ensures
    ∙ rw (c.elements.ensures.elements, as_elements-elements_of) refl in
    omega (
      arith,
      c.put_item_header.new.out.ok.0,
      c.put_elements.new.out.ok.0,
      ap length whole,
      length-append c.put_item_header.new.out.items (canonical c.args.syntax d),
      next.0,
    )

pub put_items-loop-item-preserved : goal.put_items-loop-item-preserved
put_items-loop-item-preserved t c =
    let d = c.item-item.result in
    let body = canonical c.args.syntax d in
    let whole : c.put_elements.new.out.items ≡ c.put_item_header.new.out.items ++ body = c.in_ok-put_elements.ensures
    ∙ rw (c.elements.ensures.elements, as_elements-elements_of) refl in
    let closed : c.put_length_before.new.out.items ≡ c.loop-item.out.items ++ (item_header_of (length body) ++ body) =
    c.put_length_before.ensures
    ∙ item_closed c.loop-item.out.items c.put_item_header.new.out.items c.in_ok-put_item_header.ensures body c.put_elements.new.out.items c.len-start.result _
    whole
    (omega (arith, c.put_item_header.new.out.ok.0))
    (omega (arith, c.put_item_header.new.out.ok.0, c.put_elements.new.out.ok.0, ap length whole, length-append c.put_item_header.new.out.items body)) in
    rw (closed, ← append_assoc c.loop-item.out.items (item_header_of (length body)) body)
    (item_written _ _ _ _ _ c.loop-item.invariant d c.loop-item-test.true c.item-item.is)
