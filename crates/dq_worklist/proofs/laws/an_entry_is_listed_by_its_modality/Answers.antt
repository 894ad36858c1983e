use Rattle.dq_worklist.proofs.WorkedExamples.{one_listed, none_listed, started_unlisted}
use Rattle.dq_worklist.proofs.laws.an_entry_is_listed_by_its_modality.Goals as goal

pub returns-clause-one : goal.returns-clause-one
returns-clause-one c = one_listed

pub returns-clause-nothing : goal.returns-clause-nothing
returns-clause-nothing c = none_listed

pub returns-clause-started : goal.returns-clause-started
returns-clause-started c = started_unlisted
