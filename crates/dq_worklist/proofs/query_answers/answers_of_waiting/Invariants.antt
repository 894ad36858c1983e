use Rattle.dq_worklist.proofs.WaitingAnswers.{SoFar}
use Rattle.dq_worklist.proofs.query_answers.answers_of_waiting.Given as goal

abbrev pub invariant-loop : goal.invariant-loop
invariant-loop g l = SoFar g.T.Tables.state l.fn.archive l.keys l.fn.page l.archive l.page l.after
