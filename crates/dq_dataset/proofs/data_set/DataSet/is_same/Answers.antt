use Rattle.std.proofs.Common.{sym, ap, ◌∙◌}
use Rattle.dq_dataset.specs.View.{as_elements, elements_of}
use Rattle.dq_dataset.proofs.Views.{as_elements-elements_of}
use Rattle.dq_dataset.proofs.data_set.DataSet.is_same.Goals as goal

pub returns : goal.returns
returns c =
    let a = c.args.self.now in
    let b = c.args.other.now in
    let mine = c.elements.ensures.elements in
    let its = c.elements-2.ensures.elements in (
      λ yes. sym (as_elements-elements_of a) ∙ ap as_elements (sym mine ∙ c.are_same_elements.ensures.0 yes ∙ its) ∙ as_elements-elements_of b,
      λ same. c.are_same_elements.ensures.1 (mine ∙ ap elements_of same ∙ sym its),
    )
