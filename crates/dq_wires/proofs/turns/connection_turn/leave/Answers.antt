use Rattle.dq_wires.proofs.turns.connection_turn.leave.Goals as goal

pub returns-clause-ends : goal.returns-clause-ends
returns-clause-ends g c = record {
  reply = c.in_ok-step_event.field-0;
  answer = c.shut.result;
  goes = rw c.number.ensures at c.in_ok-step_event.ensures.stepped;
  calls = rw c.place.ensures at c.shut.ensures.told;
}
