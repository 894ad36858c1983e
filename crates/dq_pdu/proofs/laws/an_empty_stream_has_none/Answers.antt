use Rattle.dq_pdu.proofs.StreamLaws.{pdus_none}
use Rattle.dq_pdu.proofs.laws.an_empty_stream_has_none.Goals as goal

pub returns : goal.returns
returns c = pdus_none
