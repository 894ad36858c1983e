use Rattle.std.proofs.Common.{◌≡◌}
use Rattle.dq_wires.specs.Watching.{without_associations}
use Rattle.dq_wires.proofs.log.association_log.AssociationLog.tell_note.Given as goal

abbrev pub invariant-loop-watched : goal.invariant-loop-watched
invariant-loop-watched g l = without_associations l.watched-items ≡ without_associations l.fn.self.watched.items
