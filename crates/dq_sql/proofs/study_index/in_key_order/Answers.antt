use Rattle.std.proofs.Common.{rules, sym, subst}
use Rattle.std.specs.List.Sorted.{IsSortedByKey}
use Rattle.dq_tables.specs.Rows.{octet_order}
use Rattle.dq_sql.proofs.KeyOrder.{key_of, sorted_by_keys}
use Rattle.dq_sql.proofs.study_index.in_key_order.Goals as goal

pub returns-clause-order : goal.returns-clause-order
returns-clause-order c =
    subst (IsSortedByKey key_of octet_order) (sym c.from_inner.ensures) (sorted_by_keys _ c.in_ok-sort_by.ensures.sorted (λ a r q k. search rules))
