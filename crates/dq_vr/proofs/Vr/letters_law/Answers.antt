use Rattle.dq_vr.proofs.Letters.{named, own}
use Rattle.dq_vr.proofs.Vr.letters_law.Goals as goal

pub returns-clause-named : goal.returns-clause-named
returns-clause-named c = named

pub returns-clause-own : goal.returns-clause-own
returns-clause-own c = own
