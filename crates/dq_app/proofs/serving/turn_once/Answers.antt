use Rattle.std.proofs.Common.{rules}
use Rattle.dq_app.specs.Rounds.{view_of}
use Rattle.dq_app.proofs.Inputs.{if_error}
use Rattle.dq_app.proofs.Rounded.{one-round, besides-cut-none, besides-cut-whole, cut-turn, cut-after, cut-attending}
use Rattle.dq_app.proofs.serving.turn_once.Goals as goal

pub returns-clause-went : goal.returns-clause-went
returns-clause-went g c =
    rw (c.rest.ensures.same, c.rest.ensures.console, c.attend.ensures.same)
    (one-round g.T.Tables.state c.turn_told.new.turner c.attend.new.turner (view_of g.N.Console.Wires.log c.args.listeners.now.console)
    (view_of g.N.Console.Wires.log c.attend.new.listeners.console) c.calls_are_a_serving.ensures.turns c.steps_are_a_history.ensures c.in_ok-turn_told.ensures.went
    c.in_ok-turn_told.ensures.fault c.in_ok-attend.ensures.went)

pub returns-in_err-turn_told-clause-cut : goal.returns-in_err-turn_told-clause-cut
returns-in_err-turn_told-clause-cut g c =
    if_error _ c.from_residual.result _ c.from_residual.ensures.1
    (cut-turn g.T.Tables.state c.turn_told.new.turner
    (besides-cut-none g.T.Tables.state (g.N.Wired.Wires.log c.args.listeners.now.wires) c.args.turner.now
    c.turn_told.new.turner.server (view_of g.N.Console.Wires.log c.args.listeners.now.console))
    c.calls_are_a_serving.ensures.cut c.steps_are_a_history.ensures c.in_err-turn_told.ensures.cut)

pub returns-in_err-attend-clause-cut : goal.returns-in_err-attend-clause-cut
returns-in_err-attend-clause-cut g c =
    if_error _ c.from_residual-in_err-attend.result _ c.from_residual-in_err-attend.ensures.1
    (rw c.attend.ensures.same
    (cut-attending g.T.Tables.state c.turn_told.new.turner c.attend.new.turner (view_of g.N.Console.Wires.log c.args.listeners.now.console)
    (view_of g.N.Console.Wires.log c.attend.new.listeners.console) c.calls_are_a_serving.ensures.turns c.steps_are_a_history.ensures c.calls_are_a_serving.ensures.whole
    c.in_err-attend.ensures.cut _ c.in_ok-turn_told.ensures.went c.in_ok-turn_told.ensures.fault))

pub returns-then-is_err-clause-cut : goal.returns-then-is_err-clause-cut
returns-then-is_err-clause-cut g c =
    rw (c.rest.ensures.same, c.rest.ensures.console, c.attend.ensures.same)
    (cut-after g.T.Tables.state {new = c.attend.new.turner}
    (besides-cut-whole g.T.Tables.state (g.N.Wired.Wires.log c.args.listeners.now.wires) c.args.turner.now
    c.attend.new.turner.server (view_of g.N.Console.Wires.log c.args.listeners.now.console)
    (view_of g.N.Console.Wires.log c.attend.new.listeners.console))
    c.calls_are_a_serving.ensures.whole (search rules)
    (one-round g.T.Tables.state c.turn_told.new.turner c.attend.new.turner (view_of g.N.Console.Wires.log c.args.listeners.now.console)
    (view_of g.N.Console.Wires.log c.attend.new.listeners.console) c.calls_are_a_serving.ensures.turns c.steps_are_a_history.ensures c.in_ok-turn_told.ensures.went
    c.in_ok-turn_told.ensures.fault c.in_ok-attend.ensures.went))
