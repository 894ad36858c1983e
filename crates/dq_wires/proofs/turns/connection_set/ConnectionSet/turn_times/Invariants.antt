use Rattle.std.proofs.Common.{◌≡◌, ◌+◌, IsTrue}
use Rattle.dq_core.specs.Histories.{is_above}
use Rattle.dq_wires.specs.ServerSteps.{Moves}
use Rattle.dq_wires.specs.TurnOutcomes.{hold_in}
use Rattle.dq_wires.specs.Turns.{TurnsWent}
use Rattle.dq_wires.proofs.turns.connection_set.ConnectionSet.turn_times.Given as goal

abbrev pub invariant-loop-turn : goal.invariant-loop-turn
invariant-loop-turn g l = record {
  went : TurnsWent (Moves g.T.Tables.state) (g.W.Wires.log l.fn.wires) (g.W.Wires.log l.wires) l.fn.server l.server
      (hold_in l.fn.self) (hold_in l.self) l._turn;
  opens : IsTrue (is_above l.server.newest (l.self.newest + 1));
  failed : g.W.Wires.failed_accepts l.wires ≡ g.W.Wires.failed_accepts l.fn.wires;
}
