use Rattle.dq_dimse.proofs.Carried.{carried_read}
use Rattle.dq_dimse.proofs.laws.what_is_carried_is_read.Goals as goal

pub returns : goal.returns
returns c = carried_read
