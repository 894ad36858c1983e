use Rattle.std.proofs.Common.{◌≡◌, map, take}
use Rattle.dq_tables.specs.Rows.{after_all, IsRising}
use Rattle.dq_sql.specs.MigratedRows.{starting_operation}
use Rattle.dq_sql.proofs.kept_steps.start_named.Given as goal

abbrev pub invariant-loop-entries : goal.invariant-loop-entries
invariant-loop-entries l =
    (l.rows.items ≡ after_all (map starting_operation (take l.entries-index l.entries-items)) l.fn.rows.items) × IsRising l.rows.items
