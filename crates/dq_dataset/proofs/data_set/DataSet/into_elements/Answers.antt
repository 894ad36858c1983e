use Rattle.std.proofs.Common.{sym, ◌∙◌, ap}
use Rattle.dq_dataset.specs.View.{elements_of}
use Rattle.dq_dataset.proofs.Views.{elements_of-as_elements}
use Rattle.dq_dataset.proofs.data_set.DataSet.into_elements.Goals as goal

pub returns-clause-elements : goal.returns-clause-elements
returns-clause-elements c = c.into_inner.ensures ∙ sym (elements_of-as_elements c.self.inside.elements) ∙ ap elements_of c.self.view_is
