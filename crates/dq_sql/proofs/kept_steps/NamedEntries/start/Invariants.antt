use Rattle.std.proofs.Common.{◌≡◌, map, take}
use Rattle.dq_tables.specs.Rows.{Start, after_edits, IsRising}
use Rattle.dq_sql.proofs.kept_steps.NamedEntries.start.Given as goal

abbrev pub invariant-loop-id : goal.invariant-loop-id
invariant-loop-id l =
    (l.rows.items ≡ after_edits l.self.institution (map Start (take l.id-index l.id-items)) l.fn.rows.items) × IsRising l.rows.items
