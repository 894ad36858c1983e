use Rattle.dq_dataset.proofs.Same.{same_from_iff}
use Rattle.dq_dataset.proofs.data_set.Element.is_same.Goals as goal

pub returns-clause-same : goal.returns-clause-same
returns-clause-same c = same_from_iff c.is_same_element.result c.args.self.now c.args.other.now c.is_same_element.ensures
