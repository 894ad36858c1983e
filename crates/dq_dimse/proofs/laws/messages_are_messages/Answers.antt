use Rattle.dq_dimse.proofs.Parsing.{are_messages}
use Rattle.dq_dimse.proofs.laws.messages_are_messages.Goals as goal

pub returns : goal.returns
returns c = are_messages
