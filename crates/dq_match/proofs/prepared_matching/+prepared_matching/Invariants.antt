use Rattle.std.proofs.Common.{◌≡◌, ◌+◌, ◌*◌, map, drop}
use Rattle.std.specs.List.{list_any}
use Rattle.dq_dataset.specs.Tree.{item_count, items_count}
use Rattle.dq_dataset.specs.View.{as_elements, items_of}
use Rattle.dq_match.specs.declared.keys.Nesting.TheVariants.{Inner}
use Rattle.dq_match.specs.Matching.{each_met, all_met}
use Rattle.dq_match.specs.Prepared.{element_of_key}
use Rattle.dq_match.proofs.PreparedCounts.{key_count}
use Rattle.dq_match.proofs.prepared_matching.+prepared_matching.Given as goal

abbrev pub decreases-all_met : goal.decreases-all_met
decreases-all_met l = 5 * item_count l.keys.now + 4

abbrev pub decreases-each_met : goal.decreases-each_met
decreases-each_met l = 5 * item_count (as_elements (map element_of_key l.keys.now)) + 3

abbrev pub decreases-is_met : goal.decreases-is_met
decreases-is_met l = 5 * key_count l.key.now + 2

abbrev pub decreases-items_meet : goal.decreases-items_meet
decreases-items_meet l = 5 * items_count (items_of l.keys.now) + 1

abbrev pub decreases-some_item_meets : goal.decreases-some_item_meets
decreases-some_item_meets l = 5 * item_count l.keys.now + 5

abbrev pub invariant-each_met-loop-key : goal.invariant-each_met-loop-key
invariant-each_met-loop-key l =
    each_met (as_elements (map element_of_key (drop l.key-index l.keys))) l.place l.held l.joined
    ≡ each_met (as_elements (map element_of_key l.keys)) l.place l.held l.joined

abbrev pub invariant-some_item_meets-loop-item : goal.invariant-some_item_meets-loop-item
invariant-some_item_meets-loop-item l =
    list_any (λ d. all_met Inner l.keys d) (drop l.item-index l.held) ≡ list_any (λ d. all_met Inner l.keys d) l.held
