use Rattle.dq_wires.proofs.Playing.{acts-turns}
use Rattle.dq_wires.proofs.loopback.looping.Loopback.turn.Goals as goal

pub returns-clause-acts : goal.returns-clause-acts
returns-clause-acts g c = rw c.look.ensures (acts-turns (c.in_ok-turn_all.ensures.went c.requires) (c.in_ok-turn_all.ensures.fault c.requires))
