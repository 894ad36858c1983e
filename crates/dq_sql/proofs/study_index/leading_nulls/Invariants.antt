use Rattle.std.proofs.Common.{◌≡◌, ℕ, ◌<◌, [], true, slice_index_or}
use Rattle.sqlite_value.specs.Order.{column}
use Rattle.sqlite_sql.specs.Ops.{is_null}
use Rattle.dq_sql.proofs.study_index.leading_nulls.Given as goal

abbrev pub invariant-loop-at : goal.invariant-loop-at
invariant-loop-at l = (k : ℕ) → k < l.at → is_null (column (slice_index_or l.answer k []) 4) ≡ true
