use Rattle.dq_dimse.proofs.Cuts.{pdu_short, pdu_writable}
use Rattle.dq_dimse.proofs.laws.pdus_fit.Goals as goal

pub returns-clause-short : goal.returns-clause-short
returns-clause-short c = pdu_short

pub returns-clause-writable : goal.returns-clause-writable
returns-clause-writable c = pdu_writable
