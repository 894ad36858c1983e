use Rattle.dq_dataset.proofs.Views.{elements_of-as_elements}
use Rattle.dq_dataset.proofs.data_set.DataSet.elements.Goals as goal

pub returns-clause-elements : goal.returns-clause-elements
returns-clause-elements c = rw (← c.self.view_is, elements_of-as_elements) (cc)
