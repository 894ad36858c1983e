use Rattle.std.proofs.Common.{◌≡◌, ◌-◌, length}
use Rattle.dq_console.specs.ClientTurns.{IsReread}
use Rattle.dq_console.proofs.Visiting.{VisitsSo}
use Rattle.dq_console.proofs.console.Console.attend.Given as goal

abbrev pub invariant-loop-at : goal.invariant-loop-at
invariant-loop-at g l = record {
  so : VisitsSo g.T.Tables.state l.fn.self.handler.names.items (g.W.Wires.log l.fn.self.handler.wires) (g.W.Wires.log l.self.handler.wires) l.fn.turner
      l.turner l.fn.self.clients.items l.self.clients.items l.at;
  names : l.self.handler.names.items ≡ l.fn.self.handler.names.items;
  front : IsReread g.F.Asks.rereads l.fn.self.front l.self.front;
}

abbrev pub decreases-loop-at : goal.decreases-loop-at
decreases-loop-at g l = length l.self.clients.items - l.at
