use Rattle.dq_pdu.proofs.Received.{received}
use Rattle.dq_pdu.proofs.laws.requests_have_context_ids.Goals as goal

pub returns : goal.returns
returns c = received
