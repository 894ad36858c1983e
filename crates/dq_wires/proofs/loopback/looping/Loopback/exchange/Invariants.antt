use Rattle.std.proofs.Common.{◌≡◌, []}
use Rattle.dq_wires.specs.Looping.{ActsOn}
use Rattle.dq_wires.proofs.loopback.looping.Loopback.exchange.Given as goal

abbrev pub invariant-turns : goal.invariant-turns
invariant-turns g l = record {
  acts : ActsOn g.T.Tables.state (g.W.Wires.log l.fn.self.wires.wires) (g.W.Wires.log l.self.wires.wires) l.fn.self.turner l.self.turner [];
  number : l.line.number ≡ l.fn.line.number;
}

abbrev pub decreases-turns : goal.decreases-turns
decreases-turns g l = l.self.turns
