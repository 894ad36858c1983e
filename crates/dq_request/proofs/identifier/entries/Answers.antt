use Rattle.std.proofs.Common.{refl}
use Rattle.dq_vr.specs.Dictionary.{dictionary}
use Rattle.dq_request.proofs.identifier.entries.Goals as goal

pub returns : goal.returns
unfolding dictionary
returns c = refl
