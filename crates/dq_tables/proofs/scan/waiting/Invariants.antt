use Rattle.std.proofs.Common.{◌≡◌, take}
use Rattle.dq_tables.specs.Lookups.{waiting_entries}
use Rattle.dq_tables.proofs.scan.waiting.Given as goal

abbrev pub invariant-loop-row : goal.invariant-loop-row
invariant-loop-row l = l.copies ≡ waiting_entries l.institution (take l.row-index l.rows)
