use Rattle.dq_config.proofs.Sound.{limits_in_range}
use Rattle.dq_config.proofs.laws.limits_are_in_range.Goals as goal

pub returns : goal.returns
returns c = limits_in_range
