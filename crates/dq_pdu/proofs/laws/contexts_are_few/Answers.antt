use Rattle.dq_pdu.proofs.ContextIds.{few_ids}
use Rattle.dq_pdu.proofs.laws.contexts_are_few.Goals as goal

pub returns : goal.returns
returns c = few_ids
