use Rattle.dq_pdu.proofs.StreamLaws.{pdus_split, pdus_only}
use Rattle.dq_pdu.proofs.laws.pdus_split_a_stream.Goals as goal

pub returns : goal.returns
returns c = record { split = pdus_split; only = pdus_only }
