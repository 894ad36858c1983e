use Rattle.dq_pdu.proofs.ReadAgain.{p_data_written}
use Rattle.dq_pdu.proofs.laws.fragments_are_writable.Goals as goal

pub returns : goal.returns
returns c = p_data_written
