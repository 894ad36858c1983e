use Rattle.std.proofs.Common.{◌≡◌, take}
use Rattle.dq_tables.specs.Lookups.{rows_of}
use Rattle.dq_tables.proofs.scan.rows_of.Given as goal

abbrev pub invariant-loop-row : goal.invariant-loop-row
invariant-loop-row l = l.copies ≡ rows_of l.kind l.institution (take l.row-index l.rows)
