use Rattle.dq_value.proofs.Spaces.{strips, alone, again}
use Rattle.dq_value.proofs.titles.stripping_law.Goals as goal

pub returns-clause-strips : goal.returns-clause-strips
returns-clause-strips c = strips

pub returns-clause-alone : goal.returns-clause-alone
returns-clause-alone c = alone

pub returns-clause-again : goal.returns-clause-again
returns-clause-again c = again
