use Rattle.dq_app.proofs.Cutting.{faults-at}
use Rattle.dq_app.proofs.replay_output.outcome_of.Goals as goal

pub returns-clause-given : goal.returns-clause-given
returns-clause-given g c = λ honest.
    let ran = c.in_ok-outcome.ensures in
    record {
      whole = ran.replies honest;
      first = (ran.ran honest).first_replies;
      ends = λ why is. faults-at _ _ _ _ _ why is ran.stopped (ran.faulted honest);
    }
