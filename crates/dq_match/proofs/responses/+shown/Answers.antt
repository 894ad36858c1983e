use Rattle.std.proofs.Common.{◌≡◌, ◌∙◌, ◌++◌, ◌∷◌, [], find, ap, sym, arith}
use Rattle.std.proofs.lemmas.Grind.{common_steps}
use Rattle.dq_match.specs.Keys.{is_key}
use Rattle.dq_match.specs.Matching.{all_met}
use Rattle.dq_dataset.specs.View.{has_tag}
use Rattle.dq_dataset.proofs.Views.{as_elements-elements_of, elements_of-as_elements}
use Rattle.dq_match.specs.declared.keys.Nesting.TheVariants.{Inner}
use Rattle.dq_match.specs.Responses.{shown_keys, shown_element}
use Rattle.dq_match.proofs.Showing.{shown_is_data_set, each_shown, one_shown}
use Rattle.dq_match.proofs.responses.+shown.Goals as goal

pub shown_items-from_elements-requires : goal.shown_items-from_elements-requires
shown_items-from_elements-requires t c =
    simp (c.in_ok-elements.ensures, c.elements.ensures.elements, c.elements-in-loop-item.ensures.elements, as_elements-elements_of)
    (shown_is_data_set c.args.keys.now Inner c.item-item.result c.elements.ensures.facts c.elements-in-loop-item.ensures.facts)

pub shown_items-loop-item-preserved : goal.shown_items-loop-item-preserved
shown_items-loop-item-preserved t c =
    let cut : c.from_elements.result ≡ shown_keys c.args.keys.now Inner c.item-item.result =
    simp (c.from_elements.ensures, c.in_ok-elements.ensures, c.elements.ensures.elements, c.elements-in-loop-item.ensures.elements, as_elements-elements_of) in
    let one = one_shown (λ d. all_met Inner c.args.keys.now d)
    (λ d. shown_keys c.args.keys.now Inner d) c.args.items.now c.loop-item.item-index c.item-item.result
    (omega arith) c.item-item.is (sym c.all_met.ensures ∙ c.if-not-all_met.false) in
    c.in_ok-push.ensures.items ∙ (λ i. c.loop-item.invariant i ++ cut i ∷ []) ∙ sym one

pub shown_keys-loop-key-preserved : goal.shown_keys-loop-key-preserved
shown_keys-loop-key-preserved t c =
    let one = one_shown (λ key. is_key c.args.place key.tag)
    (λ key. shown_element key (find (has_tag key.tag) c.args.held.now)) c.args.keys.now c.loop-key.key-index
    c.key-item.result (omega arith) c.key-item.is (sym c.is_key.ensures ∙ c.if-not-is_key.false) in
    let here = c.in_ok-shown_element.ensures ∙ ap (shown_element c.key-item.result) c.element_at.ensures in
    c.in_ok-push.ensures.items ∙ (λ i. c.loop-key.invariant i ++ here i ∷ []) ∙ sym one

pub shown_keys-returns : goal.shown_keys-returns
shown_keys-returns t c = grind (arith, common_steps, each_shown, elements_of-as_elements)
