use Rattle.dq_app.proofs.program.do_task.Goals as goal

pub returns-in-Replay-clause-cut : goal.returns-in-Replay-clause-cut
returns-in-Replay-clause-cut g c = rw c.in-Replay.is c.answer.ensures.cut
