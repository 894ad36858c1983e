use Rattle.dq_wires.proofs.Orders.{opens-first}
use Rattle.dq_wires.proofs.turns.turner.Turner.new.Goals as goal

pub invariant_of-result : goal.invariant_of-result
invariant_of-result g c = λ _. opens-first c.args.server.newest c.requires
