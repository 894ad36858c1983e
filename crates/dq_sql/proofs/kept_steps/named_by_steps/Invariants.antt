use Rattle.std.proofs.Common.{◌≡◌, map, take}
use Rattle.dq_sql.specs.MigratedRows.{starts_of, steps_among, starting_operation}
use Rattle.dq_sql.proofs.kept_steps.named_by_steps.Given as goal

abbrev pub invariant-loop-row : goal.invariant-loop-row
invariant-loop-row l = map starting_operation l.all.items ≡ map starts_of (steps_among (take l.row-index l.rows))
