use Rattle.std.proofs.Common.{ap, subst, ◌∙◌, ◌↔◌}
use Rattle.std.specs.Prelude.{IsTrue}
use Rattle.dq_dataset.specs.Tree.{ElementList}
use Rattle.dq_dataset.specs.View.{as_elements}
use Rattle.dq_dataset.specs.Canonical.{HasLengths}
use Rattle.dq_dataset.proofs.Views.{as_elements-elements_of}
use Rattle.dq_dataset.proofs.measuring.can_be_written.Goals as goal

pub returns : goal.returns
returns c =
    subst (λ (d : ElementList). IsTrue c.have_lengths.result ↔ HasLengths c.args.syntax d)
    (ap as_elements c.elements.ensures.elements ∙ as_elements-elements_of c.args.data_set.now) c.have_lengths.ensures
