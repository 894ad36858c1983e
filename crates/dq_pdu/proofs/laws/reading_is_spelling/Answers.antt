use Rattle.dq_pdu.proofs.SpellLaws.{front_spelled, spelled_read}
use Rattle.dq_pdu.proofs.laws.reading_is_spelling.Goals as goal

pub returns : goal.returns
returns c = record { spelled = front_spelled; read = λ octets behind pdu is. spelled_read pdu octets behind is }
