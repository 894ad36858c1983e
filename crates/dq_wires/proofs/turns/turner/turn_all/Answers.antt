use Rattle.std.proofs.Common.{refl}
use Rattle.std.proofs.lemmas.Result.{IfErr-at_err}
use Rattle.dq_wires.proofs.Orders.{network-unaccepted}
use Rattle.dq_wires.proofs.turns.turner.turn_all.Goals as goal

pub returns-clause-network : goal.returns-clause-network
returns-clause-network g c = λ _ e. network-unaccepted (IfErr-at_err _ e c.turn_times-turned.ensures.cut) refl
