use Rattle.std.proofs.Common.{◌≡◌, ◌-◌, length}
use Rattle.dq_wires.specs.ServerSteps.{Moves}
use Rattle.dq_wires.proofs.TurnSequences.{RoundSo}
use Rattle.dq_wires.proofs.turns.connection_set.turn_held.Given as goal

abbrev pub invariant-loop-at : goal.invariant-loop-at
invariant-loop-at g l = record {
  so : RoundSo (Moves g.T.Tables.state) (g.W.Wires.log l.fn.wires) (g.W.Wires.log l.wires) l.fn.server l.server
      l.fn.held.items l.held.items l.at;
  newest : l.server.newest ≡ l.fn.server.newest;
  failed : g.W.Wires.failed_accepts l.wires ≡ g.W.Wires.failed_accepts l.fn.wires;
}

abbrev pub decreases-loop-at : goal.decreases-loop-at
decreases-loop-at g l = length l.held.items - l.at
