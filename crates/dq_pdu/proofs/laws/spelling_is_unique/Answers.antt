use Rattle.dq_pdu.proofs.SpellLaws.{spells_once}
use Rattle.dq_pdu.proofs.laws.spelling_is_unique.Goals as goal

pub returns : goal.returns
returns c = spells_once
