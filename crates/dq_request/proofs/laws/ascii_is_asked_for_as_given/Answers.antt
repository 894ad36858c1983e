use Rattle.dq_request.proofs.SpelledValues.{as_given}
use Rattle.dq_request.proofs.laws.ascii_is_asked_for_as_given.Goals as goal

pub returns : goal.returns
returns c = as_given
