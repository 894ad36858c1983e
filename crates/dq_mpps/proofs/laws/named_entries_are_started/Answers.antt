use Rattle.dq_mpps.proofs.CreatedStep.{created_is}
use Rattle.dq_mpps.proofs.laws.named_entries_are_started.Goals as goal

pub returns : goal.returns
returns c = created_is
