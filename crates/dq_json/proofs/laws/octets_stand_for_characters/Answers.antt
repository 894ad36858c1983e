use Rattle.dq_json.proofs.Characters.{octet_stands, no_octet}
use Rattle.dq_json.proofs.laws.octets_stand_for_characters.Goals as goal

pub returns-clause-some : goal.returns-clause-some
returns-clause-some c = octet_stands

pub returns-clause-none : goal.returns-clause-none
returns-clause-none c = no_octet
