use Rattle.std.proofs.Common.{◌≡◌, take}
use Rattle.dq_tables.specs.Lookups.{rows_after}
use Rattle.dq_tables.proofs.scan.rows_after.Given as goal

abbrev pub invariant-loop-row : goal.invariant-loop-row
invariant-loop-row l = l.copies ≡ rows_after l.kind l.institution l.key (take l.row-index l.rows)
