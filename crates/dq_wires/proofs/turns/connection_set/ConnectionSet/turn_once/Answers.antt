use Rattle.std.proofs.Common.{◌≡◌, Some, arith}
use Rattle.std.specs.Result.{result_err}
use Rattle.std.proofs.lemmas.Grind.{common_steps}
use Rattle.std.proofs.lemmas.Result.{on_ok_weaker, IfErr-weaker}
use Rattle.dq_wires.specs.declared.fault.TurnFault.TheVariants.{NoMemory}
use Rattle.dq_wires.proofs.ConnectionTurns.{handed-on}
use Rattle.dq_wires.proofs.Accepting.{cut-at_room}
use Rattle.dq_wires.proofs.WholeTurns.{turn-whole, turn-part}
use Rattle.dq_wires.proofs.turns.connection_set.ConnectionSet.turn_once.Goals as goal

pub returns-in_err-resize-clause-cut : goal.returns-in_err-resize-clause-cut
returns-in_err-resize-clause-cut g c =
    let left : result_err c.from_residual.result ≡ Some NoMemory = grind (arith, common_steps) in
    handed-on c.from_residual.result _ left cut-at_room

pub returns-clause-went : goal.returns-clause-went
returns-clause-went g c = on_ok_weaker c.turn_held.result (turn-whole c.in_ok-accept_connection.ensures.went) c.turn_held.ensures.went

pub returns-clause-cut : goal.returns-clause-cut
returns-clause-cut g c = IfErr-weaker c.turn_held.result _ _ (λ fault round. turn-part c.in_ok-accept_connection.ensures.went round) c.turn_held.ensures.cut
