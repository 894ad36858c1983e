use Rattle.std.proofs.Common.{refl, ◌∙◌}
use Rattle.dq_dataset.proofs.Views.{as_elements-elements_of}
use Rattle.dq_dataset.proofs.data_set.DataSet.copied.Goals as goal

pub from_elements-requires : goal.from_elements-requires
from_elements-requires c = rw (c.in_ok-elements.ensures, c.elements.ensures.elements, as_elements-elements_of) c.elements.ensures.facts

pub returns : goal.returns
returns c = c.from_elements.ensures ∙ rw (c.in_ok-elements.ensures, c.elements.ensures.elements, as_elements-elements_of) refl
