use Rattle.dq_pdu.proofs.Answering.{answer_written}
use Rattle.dq_pdu.proofs.laws.answers_are_writable.Goals as goal

pub returns : goal.returns
returns c = answer_written
