use Rattle.dq_dimse.proofs.Responses.{says_response}
use Rattle.dq_dimse.proofs.laws.responses_are_command_sets.Goals as goal

pub returns : goal.returns
returns c = says_response
