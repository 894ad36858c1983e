use Rattle.dq_dimse.proofs.Uniqueness.{only_messages, only_rest}
use Rattle.dq_dimse.proofs.laws.messages_are_the_only.Goals as goal

pub returns-clause-messages : goal.returns-clause-messages
returns-clause-messages c = only_messages

pub returns-clause-rest : goal.returns-clause-rest
returns-clause-rest c = only_rest
