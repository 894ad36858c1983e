use Rattle.std.proofs.Common.{◌∙◌, refl}
use Rattle.dq_dataset.proofs.Views.{as_elements-elements_of}
use Rattle.dq_dataset.proofs.writing.write.Goals as goal

pub put_elements-requires : goal.put_elements-requires
put_elements-requires c = rw (c.elements.ensures.elements, as_elements-elements_of) (record { lengths = c.requires; facts = c.elements.ensures.facts })

pub returns : goal.returns
returns c = c.in_ok-put_elements.ensures ∙ rw (c.new-out.ensures.items, c.elements.ensures.elements, as_elements-elements_of) refl
