use Rattle.std.proofs.Common.{◌≡◌, arith}
use Rattle.dq_app.specs.Rounds.{view_of}
use Rattle.dq_app.proofs.Inputs.{if_error}
use Rattle.dq_app.proofs.Rounded.{rounds-none, rounds-then, rounds-cut, besides-none, besides-then, besides-then-cut}
use Rattle.dq_app.proofs.serving.serve_rounds.Goals as goal

pub loop-turn-init : goal.loop-turn-init
loop-turn-init g c = record {
  went = rounds-none g.T.Tables.state _ _ (besides-none g.T.Tables.state (g.N.Wired.Wires.log c.args.listeners.now.wires) c.args.turner.now
      c.args.turner.now.server (view_of g.N.Console.Wires.log c.args.listeners.now.console));
  working = c.requires.working;
}

pub loop-turn-preserved : goal.loop-turn-preserved
loop-turn-preserved g c =
    let seen = view_of g.N.Console.Wires.log in
    let log = g.N.Wired.Wires.log in
    record {
      went = rounds-then g.T.Tables.state (besides-then g.T.Tables.state (log c.args.listeners.now.wires) (log c.loop-turn.listeners.wires) c.args.turner.now
          c.loop-turn.turner c.turn_once.new.turner.server (seen c.args.listeners.now.console) (seen c.loop-turn.listeners.console)
          (seen c.turn_once.new.listeners.console))
          c.loop-turn.invariant.went c.in_ok-turn_once.ensures.went;
      working = c.in_ok-turn_once.ensures.went.went.working c.loop-turn.invariant.working;
    }

pub returns : goal.returns
returns g c =
    let all : c.loop-turn._turn ≡ c.args.pace.turns = omega (arith, c.loop-turn-test.false) in
    record { went = rw (← all) c.loop-turn.invariant.went; cut = tt }

pub returns-in_err-turn_once-clause-cut : goal.returns-in_err-turn_once-clause-cut
returns-in_err-turn_once-clause-cut g c =
    let seen = view_of g.N.Console.Wires.log in
    let log = g.N.Wired.Wires.log in
    if_error _ c.from_residual.result _ c.from_residual.ensures.1
    (rounds-cut g.T.Tables.state (besides-then-cut g.T.Tables.state (log c.args.listeners.now.wires) (log c.loop-turn.listeners.wires) c.args.turner.now
    c.loop-turn.turner c.turn_once.new.turner.server (seen c.args.listeners.now.console) (seen c.loop-turn.listeners.console)
    (seen c.turn_once.new.listeners.console))
    (omega (arith, c.loop-turn-test.true)) c.loop-turn.invariant.went c.in_err-turn_once.ensures.cut)
