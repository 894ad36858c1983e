use Rattle.std.proofs.Common.{◌≡◌, take}
use Rattle.dq_tables.specs.Lookups.{rows_above}
use Rattle.dq_tables.proofs.scan.rows_above.Given as goal

abbrev pub invariant-loop-row : goal.invariant-loop-row
invariant-loop-row l = l.copies ≡ rows_above l.kind l.institution l.above (take l.row-index l.rows)
