use Rattle.dq_core.specs.Notes.{AddsNotesOf}
use Rattle.dq_core.proofs.notes.Notes.add.Given as goal

abbrev pub invariant-loop-noted : goal.invariant-loop-noted
invariant-loop-noted l = AddsNotesOf l.fn.number l.fn.self.list.items l.self.list.items
