use Rattle.dq_json.proofs.Nesting.{each_member}
use Rattle.dq_json.proofs.laws.each_element_is_a_member.Goals as goal

pub returns : goal.returns
returns c = each_member
