use Rattle.dq_request.proofs.Matched.{first_counts, none_counts}
use Rattle.dq_request.proofs.laws.first_key_counts.Goals as goal

pub returns-clause-first : goal.returns-clause-first
returns-clause-first c = first_counts

pub returns-clause-none : goal.returns-clause-none
returns-clause-none c = none_counts
