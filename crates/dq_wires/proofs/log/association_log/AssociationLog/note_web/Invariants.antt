use Rattle.std.proofs.Common.{◌≡◌}
use Rattle.dq_wires.proofs.log.association_log.AssociationLog.note_web.Given as goal

abbrev pub invariant-loop-note : goal.invariant-loop-note
invariant-loop-note g l = l.self.watched ≡ l.fn.self.watched
