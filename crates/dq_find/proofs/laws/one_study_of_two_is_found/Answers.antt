use Rattle.dq_find.proofs.WorkedExamples.{nothing_found, one_found}
use Rattle.dq_find.proofs.laws.one_study_of_two_is_found.Goals as goal

pub returns-clause-nothing : goal.returns-clause-nothing
returns-clause-nothing c = nothing_found

pub returns-clause-one : goal.returns-clause-one
returns-clause-one c = one_found
