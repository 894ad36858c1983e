use Rattle.dq_core.proofs.isolation.Single.{alone_front}
use Rattle.dq_core.proofs.laws.institutions_are_isolated.Goals as goal

pub returns-clause-prefix : goal.returns-clause-prefix
returns-clause-prefix c = alone_front
