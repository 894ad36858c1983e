use Rattle.std.proofs.Common.{◌∙◌}
use Rattle.dq_dataset.proofs.Views.{as_elements-elements_of}
use Rattle.dq_match.specs.Responses.{shown_data_set}
use Rattle.dq_match.proofs.Showing.{shown_is_whole}
use Rattle.dq_match.proofs.responses.shown.Goals as goal

pub from_elements-requires : goal.from_elements-requires
from_elements-requires c =
    simp (c.in_ok-elements.ensures, c.in_ok-keys.ensures, c.character_set.ensures, c.elements.ensures.elements, c.elements-2.ensures.elements, as_elements-elements_of)
    (shown_is_whole c.args.identifier.now c.args.held.now c.elements.ensures.facts c.requires c.elements-2.ensures.facts)

pub returns : goal.returns
unfolding shown_data_set
returns c =
    c.from_elements.ensures ∙ c.in_ok-elements.ensures
    ∙ simp (c.in_ok-keys.ensures, c.character_set.ensures, c.elements.ensures.elements, c.elements-2.ensures.elements, as_elements-elements_of)
