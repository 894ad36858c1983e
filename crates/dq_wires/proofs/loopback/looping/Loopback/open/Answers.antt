use Rattle.dq_wires.proofs.Playing.{acts-none, acts-then}
use Rattle.dq_wires.proofs.loopback.looping.Loopback.open.Goals as goal

pub turns-init : goal.turns-init
turns-init g c = acts-none _ _ c.requires

pub turns-preserved : goal.turns-preserved
turns-preserved g c = acts-then c.turns.invariant c.in_ok-turn.ensures.acts

pub turn-requires : goal.turn-requires
turn-requires g c = c.turns.invariant.2.working
