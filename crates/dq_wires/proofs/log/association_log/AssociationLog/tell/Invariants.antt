use Rattle.std.proofs.Common.{◌≡◌}
use Rattle.dq_wires.specs.Watching.{without_associations}
use Rattle.dq_wires.proofs.log.association_log.AssociationLog.tell.Given as goal

abbrev pub invariant-loop-note : goal.invariant-loop-note
invariant-loop-note g l = without_associations l.self.watched.items ≡ without_associations l.fn.self.watched.items
