use Rattle.std.proofs.Common.{◌≡◌, ◌+◌, ◌*◌, drop}
use Rattle.dq_dataset.specs.Tree.{item_count, items_count}
use Rattle.dq_dataset.specs.View.{as_elements, items_of}
use Rattle.dq_dataset.proofs.Copies.{value_count}
use Rattle.dq_match.specs.Identifiers.{is_query, are_queries}
use Rattle.dq_match.proofs.identifiers.+identifiers.Given as goal

abbrev pub decreases-is_query : goal.decreases-is_query
decreases-is_query l = 4 * item_count l.identifier.now + 3

abbrev pub decreases-each_is_query : goal.decreases-each_is_query
decreases-each_is_query l = 4 * item_count (as_elements l.keys.now) + 2

abbrev pub decreases-is_one_query : goal.decreases-is_one_query
decreases-is_one_query l = 4 * value_count l.key.now.value + 1

abbrev pub decreases-are_queries : goal.decreases-are_queries
decreases-are_queries l = 4 * items_count (items_of l.items.now)

abbrev pub invariant-each_is_query-loop-key : goal.invariant-each_is_query-loop-key
invariant-each_is_query-loop-key l = is_query (as_elements (drop l.key-index l.keys)) ≡ is_query (as_elements l.keys)

abbrev pub invariant-are_queries-loop-item : goal.invariant-are_queries-loop-item
invariant-are_queries-loop-item l = are_queries (items_of (drop l.item-index l.items)) ≡ are_queries (items_of l.items)
