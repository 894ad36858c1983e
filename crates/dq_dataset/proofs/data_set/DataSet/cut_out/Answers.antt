use Rattle.std.proofs.Common.{◌≡◌, arith, sym, ap, ◌∙◌, subst, List}
use Rattle.std.specs.Prelude.{filter}
use Rattle.std.proofs.lemmas.List.{take_all}
use Rattle.dq_dataset.specs.declared.data_set.Element.{Element}
use Rattle.dq_dataset.specs.View.{as_elements, elements_of}
use Rattle.dq_dataset.specs.Facts.{IsDataSet}
use Rattle.dq_dataset.specs.Editing.{is_listed}
use Rattle.dq_dataset.proofs.Edits.{cut_is}
use Rattle.dq_dataset.proofs.data_set.DataSet.cut_out.Goals as goal

pub from_elements-requires : goal.from_elements-requires
from_elements-requires c =
    let all : c.loop-element.elements.items ≡ filter (is_listed c.args.tags.now) (elements_of c.args.self.now) =
    c.loop-element.invariant ∙ ap (filter (is_listed c.args.tags.now)) (take_all c.loop-element.element-index c.elements-all.result.now (omega arith)
    ∙ c.elements-all.ensures.elements) in
    subst (λ (es : List Element). IsDataSet (as_elements es)) (sym all) (cut_is c.args.tags.now c.args.self.now c.elements-all.ensures.facts)
