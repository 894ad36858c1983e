use Rattle.dq_config.proofs.Sound.{named_found, named_listed, named_so, named_none}
use Rattle.dq_config.proofs.laws.a_name_is_of_one.Goals as goal

pub returns-clause-found : goal.returns-clause-found
returns-clause-found c = named_found

pub returns-clause-listed : goal.returns-clause-listed
returns-clause-listed c = named_listed

pub returns-clause-so_named : goal.returns-clause-so_named
returns-clause-so_named c = named_so

pub returns-clause-missing : goal.returns-clause-missing
returns-clause-missing c = named_none
