use Rattle.dq_value.proofs.Cuts.{one_parting}
use Rattle.dq_value.proofs.multiplicity.parting_law.Goals as goal

pub returns : goal.returns
returns c = one_parting
