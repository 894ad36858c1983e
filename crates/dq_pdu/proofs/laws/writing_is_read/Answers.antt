use Rattle.dq_pdu.specs.Writing.{pdu_octets}
use Rattle.dq_pdu.proofs.SpellLaws.{spelled_read}
use Rattle.dq_pdu.proofs.laws.writing_is_read.Goals as goal

pub returns : goal.returns
returns c = λ pdu behind writable. spelled_read pdu (pdu_octets pdu) behind writable
