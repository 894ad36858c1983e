use Rattle.dq_request.proofs.Matched.{each_in_identifier}
use Rattle.dq_request.proofs.laws.each_attribute_is_asked_for.Goals as goal

pub returns : goal.returns
returns c = each_in_identifier
