use Rattle.dq_pdu.proofs.ReadAgain.{read_again, read_on}
use Rattle.dq_pdu.proofs.laws.written_pdus_are_read.Goals as goal

pub returns : goal.returns
returns c = record { all = read_again; more = read_on }
