use Rattle.std.proofs.Common.{◌∙◌, sym, ap, map}
use Rattle.dq_dataset.specs.View.{elements_of}
use Rattle.dq_dataset.proofs.Views.{elements_of-as_elements}
use Rattle.dq_match.specs.Prepared.{element_of_key}
use Rattle.dq_match.proofs.prepared.PreparedKeys.keys.Goals as goal

pub returns : goal.returns
returns c =
    ap (map element_of_key) c.as_slice.ensures ∙ sym (elements_of-as_elements (map element_of_key c.self.inside.keys)) ∙ ap elements_of c.self.view_is
