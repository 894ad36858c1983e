use Rattle.dq_dimse.proofs.Carried.{sent_read}
use Rattle.dq_dimse.proofs.laws.what_is_sent_is_read.Goals as goal

pub returns : goal.returns
returns c = sent_read c.fragments_are_writable.ensures c.written_pdus_are_read.ensures.all
