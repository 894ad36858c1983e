use Rattle.std.proofs.Common.{◌≡◌, ◌+◌, ◌*◌, find, take, map, filter}
use Rattle.dq_dataset.specs.Tree.{item_count}
use Rattle.dq_dataset.specs.View.{as_elements, has_tag}
use Rattle.dq_dataset.proofs.Copies.{value_count}
use Rattle.dq_match.specs.declared.keys.Nesting.TheVariants.{Inner}
use Rattle.dq_match.specs.Matching.{all_met}
use Rattle.dq_match.specs.Responses.{shown_keys, shown_element}
use Rattle.dq_match.specs.Keys.{is_key}
use Rattle.dq_match.proofs.responses.+shown.Given as goal

abbrev pub decreases-shown_keys : goal.decreases-shown_keys
decreases-shown_keys l = 4 * item_count (as_elements l.keys.now) + 2

abbrev pub decreases-shown_element : goal.decreases-shown_element
decreases-shown_element l = 4 * value_count l.key.now.value + 1

abbrev pub decreases-shown_found : goal.decreases-shown_found
decreases-shown_found l = 4 * value_count l.key.now.value

abbrev pub decreases-shown_items : goal.decreases-shown_items
decreases-shown_items l = 4 * item_count l.keys.now + 3

abbrev pub invariant-shown_keys-loop-key : goal.invariant-shown_keys-loop-key
invariant-shown_keys-loop-key l =
    l.shown.items ≡ map (λ key. shown_element key (find (has_tag key.tag) l.held))
    (filter (λ key. is_key l.place key.tag) (take l.key-index l.keys))

abbrev pub invariant-shown_items-loop-item : goal.invariant-shown_items-loop-item
invariant-shown_items-loop-item l =
    l.shown.items ≡ map (λ d. shown_keys l.keys Inner d) (filter (λ d. all_met Inner l.keys d) (take l.item-index l.items))
