use Rattle.dq_console.proofs.Outcomes.{if_error}
use Rattle.dq_console.proofs.ServiceProgress.{does-line, not-obeyed}
use Rattle.dq_console.proofs.console.ConsoleHandler.obey.Goals as goal

pub returns-clause-does : goal.returns-clause-does
returns-clause-does g c =
    let answered = c.in_ok-answer.ensures in
    does-line g.T.Tables.state answered.hold answered.fault _ c.args.self.now.names.items
    c.calls_are_a_serving.ensures.order c.calls_are_a_serving.ensures.look c.steps_are_a_history.ensures c.calls_are_a_serving.ensures.whole
    c.servings_are_answered.ensures.rows _ c.args.octets.now _ _ _ _ c.put.ensures _ c.in_ok-line.ensures c.is_bad-is_last.ensures
    answered.answered

pub returns-in_err-answer-clause-cut : goal.returns-in_err-answer-clause-cut
returns-in_err-answer-clause-cut g c =
    let left = c.in_err-answer.ensures in
    if_error _ c.from_residual-in_err-answer.result _ c.from_residual-in_err-answer.ensures.1
    (not-obeyed g.T.Tables.state _ _ c.calls_are_a_serving.ensures.order c.calls_are_a_serving.ensures.look left.hold c.args.octets.now _ _
    c.in_ok-line.ensures left.fault left.cut)
