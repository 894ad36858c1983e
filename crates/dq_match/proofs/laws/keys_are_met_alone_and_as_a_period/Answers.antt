use Rattle.dq_match.proofs.Fitting.{fits_item}
use Rattle.dq_match.proofs.laws.keys_are_met_alone_and_as_a_period.Goals as goal

pub returns-clause-items : goal.returns-clause-items
returns-clause-items c = λ keys others. fits_item keys
