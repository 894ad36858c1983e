use Rattle.std.proofs.Common.{◌≡◌, ◌≤◌, true}
use Rattle.std.specs.List.{AllAdjacentBelow}
use Rattle.std.specs.Ordering.{int_cmp, is_lt}
use Rattle.dq_sql.proofs.ids.all_rise.Given as goal

abbrev pub invariant-loop-at : goal.invariant-loop-at
invariant-loop-at l = (1 ≤ l.at) × AllAdjacentBelow (λ a b. true ≡ is_lt (int_cmp a b)) l.ids l.at
