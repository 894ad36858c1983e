use Rattle.dq_pdu.proofs.Stripping.{lost, left}
use Rattle.dq_pdu.proofs.laws.padding_is_stripped.Goals as goal

pub returns : goal.returns
returns c = record { lost = lost; left = left }
