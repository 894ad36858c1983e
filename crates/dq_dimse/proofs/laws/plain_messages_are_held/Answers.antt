use Rattle.dq_dimse.proofs.Holdings.{plain_held}
use Rattle.dq_dimse.proofs.laws.plain_messages_are_held.Goals as goal

pub returns : goal.returns
returns c = plain_held
