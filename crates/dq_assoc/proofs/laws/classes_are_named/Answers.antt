use Rattle.dq_assoc.proofs.Contexts.{class-named}
use Rattle.dq_assoc.proofs.laws.classes_are_named.Goals as goal

pub returns-clause-named : goal.returns-clause-named
returns-clause-named c = class-named
