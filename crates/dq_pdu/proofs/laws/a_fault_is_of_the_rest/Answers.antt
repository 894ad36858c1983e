use Rattle.dq_pdu.proofs.StreamLaws.{pdus_fault}
use Rattle.dq_pdu.proofs.laws.a_fault_is_of_the_rest.Goals as goal

pub returns : goal.returns
returns c = pdus_fault
