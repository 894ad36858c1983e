use Rattle.dq_console.proofs.Outcomes.{if_error}
use Rattle.dq_console.proofs.ServiceProgress.{responds, not-answered, unanswered-after}
use Rattle.dq_console.proofs.console.ConsoleHandler.respond.Goals as goal

pub returns-in_err-response-clause-cut : goal.returns-in_err-response-clause-cut
returns-in_err-response-clause-cut g c =
    let left = c.in_err-response.ensures in
    if_error _ c.from_residual-in_err-response.result _ c.from_residual-in_err-response.ensures.1
    (not-answered g.T.Tables.state _ _ c.calls_are_a_serving.ensures.order c.calls_are_a_serving.ensures.look left.hold _ _ left.fault left.cut)

pub returns-in_err-answer-clause-cut : goal.returns-in_err-answer-clause-cut
returns-in_err-answer-clause-cut g c =
    let answered = c.in_ok-response.ensures in
    if_error _ c.from_residual-in_err-answer.result _ c.from_residual-in_err-answer.ensures.1
    (not-answered g.T.Tables.state _ _ c.calls_are_a_serving.ensures.order c.calls_are_a_serving.ensures.look answered.hold _ _
    (λ goes_on. answered.fault) (unanswered-after g.T.Tables.state _ _ _ _ _ _ answered.answered))

pub returns-clause-answers : goal.returns-clause-answers
returns-clause-answers g c =
    let answered = c.in_ok-response.ensures in
    responds g.T.Tables.state answered.hold answered.fault _ c.args.self.now.names.items
    c.calls_are_a_serving.ensures.order c.calls_are_a_serving.ensures.look c.steps_are_a_history.ensures c.calls_are_a_serving.ensures.whole
    c.servings_are_answered.ensures.rows _ _ (rw c.as_slice.ensures.value at answered.answered)
