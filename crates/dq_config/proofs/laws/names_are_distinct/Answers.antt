use Rattle.dq_config.proofs.Sound.{distinct_names}
use Rattle.dq_config.proofs.laws.names_are_distinct.Goals as goal

pub returns : goal.returns
returns c = distinct_names
