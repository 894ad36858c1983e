use Rattle.std.proofs.Common.{◌≡◌, None}
use Rattle.dq_app.specs.Rounds.{RoundsWent, AreBeside, view_of}
use Rattle.dq_app.proofs.serving.serve_rounds.Given as goal

abbrev pub invariant-loop-turn : goal.invariant-loop-turn
invariant-loop-turn g l = record {
  went : RoundsWent g.T.Tables.state (g.N.Wired.Wires.log l.fn.listeners.wires) (g.N.Wired.Wires.log l.listeners.wires) l.fn.turner l.turner l._turn
      (AreBeside g.T.Tables.state (g.N.Wired.Wires.log l.fn.listeners.wires) l.fn.turner l.turner.server
      (view_of g.N.Console.Wires.log l.fn.listeners.console) (view_of g.N.Console.Wires.log l.listeners.console));
  working : l.turner.fault ≡ None;
}
