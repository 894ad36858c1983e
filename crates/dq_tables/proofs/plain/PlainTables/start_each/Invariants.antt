use Rattle.std.proofs.Common.{◌≡◌, map, take}
use Rattle.dq_tables.specs.Rows.{Start, after_edits}
use Rattle.dq_tables.proofs.plain.PlainTables.start_each.Given as goal

abbrev pub invariant-loop-key : goal.invariant-loop-key
invariant-loop-key l = l.self.kept.items ≡ after_edits l.institution (map Start (take l.key-index l.keys)) l.initial.self.kept.items
