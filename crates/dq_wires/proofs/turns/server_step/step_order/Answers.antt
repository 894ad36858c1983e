use Rattle.dq_wires.proofs.Orders.{order-opens}
use Rattle.dq_wires.proofs.turns.server_step.step_order.Goals as goal

pub step-requires : goal.step-requires
step-requires g c = order-opens _ _ c.requires
