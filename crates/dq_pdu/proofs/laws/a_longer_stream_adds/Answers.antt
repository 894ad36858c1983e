use Rattle.dq_pdu.proofs.PduLaws.{pdus_in-append}
use Rattle.dq_pdu.proofs.StreamLaws.{pdus_more, fault_stays, faultless_before}
use Rattle.dq_pdu.proofs.laws.a_longer_stream_adds.Goals as goal

pub returns : goal.returns
returns c = record { more = pdus_more; fault = fault_stays; faultless = faultless_before; exact = pdus_in-append }
