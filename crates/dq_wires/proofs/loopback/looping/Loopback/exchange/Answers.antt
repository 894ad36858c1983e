use Rattle.std.proofs.Common.{refl}
use Rattle.dq_wires.proofs.Playing.{acts-none, acts-then}
use Rattle.dq_wires.proofs.loopback.looping.Loopback.exchange.Goals as goal

pub turns-init : goal.turns-init
turns-init g c = record { acts = acts-none _ _ c.requires; number = refl }

pub turns-preserved : goal.turns-preserved
turns-preserved g c = record { acts = acts-then c.turns.invariant.acts c.in_ok-turn.ensures.acts; number = c.turns.invariant.number }

pub turn-requires : goal.turn-requires
turn-requires g c = c.turns.invariant.acts.2.working
