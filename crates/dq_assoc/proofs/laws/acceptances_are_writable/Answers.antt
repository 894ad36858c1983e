use Rattle.dq_pdu.proofs.Received.{received}
use Rattle.dq_assoc.proofs.Acceptances.{acceptance-written, acceptance-line}
use Rattle.dq_assoc.proofs.laws.acceptances_are_writable.Goals as goal

pub returns : goal.returns
returns c = record {
  written = λ octets request are spelled. acceptance-written request (received octets request are spelled);
  line = λ octets request verdict are spelled e. acceptance-line request verdict (received octets request are spelled) e;
}
