use Rattle.std.proofs.Common.{◌∙◌}
use Rattle.dq_wires.proofs.Playing.{acts-order}
use Rattle.dq_wires.proofs.loopback.looping.Loopback.order.Goals as goal

pub returns : goal.returns
returns g c = acts-order c.requires.order c.in_ok-_reply.ensures.stepped c.console.ensures.hold (c.in_ok-_reply.ensures.fault ∙ c.requires.working)
