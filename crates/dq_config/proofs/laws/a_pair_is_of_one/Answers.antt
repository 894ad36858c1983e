use Rattle.dq_config.proofs.Sound.{routed_is, routed_found, routed_none}
use Rattle.dq_config.proofs.laws.a_pair_is_of_one.Goals as goal

pub returns-clause-routed : goal.returns-clause-routed
returns-clause-routed c = routed_is

pub returns-clause-found : goal.returns-clause-found
returns-clause-found c = routed_found

pub returns-clause-missing : goal.returns-clause-missing
returns-clause-missing c = routed_none
