use Rattle.dq_value.proofs.Kept.{trimmed_is, trimmed_again}
use Rattle.dq_value.proofs.padding.trimming_law.Goals as goal

pub returns-clause-trims : goal.returns-clause-trims
returns-clause-trims c = trimmed_is

pub returns-clause-again : goal.returns-clause-again
returns-clause-again c = trimmed_again
