use Rattle.std.proofs.Common.{refl, ◌∙◌}
use Rattle.dq_dataset.proofs.Views.{as_elements-elements_of}
use Rattle.dq_match.proofs.shown_page.octets_of_answer.Goals as goal

pub returns : goal.returns
returns c = c.elements_length.ensures ∙ rw (c.elements.ensures.elements, as_elements-elements_of) refl
