use Rattle.std.proofs.Common.{◌≡◌, ◌++◌, map, take, drop}
use Rattle.dq_wires.specs.Watching.{shut_at}
use Rattle.dq_wires.proofs.log.association_log.AssociationLog.end.Given as goal

-- those before the index are shut where they are at the place
abbrev pub invariant-loop-watched : goal.invariant-loop-watched
invariant-loop-watched g l =
    take l.watched-index l.watched-items ++ map (shut_at l.place) (drop l.watched-index l.watched-items)
    ≡ map (shut_at l.place) l.fn.self.watched.items
