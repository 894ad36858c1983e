use Rattle.std.proofs.Common.{◌≡◌, List, ◌++◌, sym, ap, ◌∙◌, subst, refl}
use Rattle.std.proofs.lemmas.List.{append-nil}
use Rattle.dq_dataset.specs.declared.data_set.Element.{Element}
use Rattle.dq_dataset.specs.View.{as_elements, elements_of}
use Rattle.dq_dataset.specs.Facts.{IsDataSet}
use Rattle.dq_dataset.specs.Editing.{merged_elements}
use Rattle.dq_dataset.proofs.Edits.{merged_is}
use Rattle.dq_dataset.proofs.Views.{as_elements-elements_of}
use Rattle.dq_dataset.proofs.data_set.DataSet.into_merged.Goals as goal

pub loop-next-init : goal.loop-next-init
loop-next-init c = record {
  rises = rw (c.from_vec-kept.ensures.items, c.into_elements.ensures.elements, as_elements-elements_of) c.into_elements.ensures.facts;
  gathered = rw c.in_ok-elements.ensures.items refl;
}

pub from_elements-requires : goal.from_elements-requires
from_elements-requires c =
    let all : c.loop-next.elements.items ≡ merged_elements (elements_of c.args.self) (elements_of c.args.sent) =
    sym (append-nil c.loop-next.elements.items) ∙ ap (λ (x : List Element). c.loop-next.elements.items ++ x) (sym c.in_default.ensures.none)
    ∙ c.loop-next.invariant.gathered
    ∙ rw (c.from_vec-kept.ensures.items, c.from_vec-new.ensures.items, c.into_elements.ensures.elements, c.into_elements-2.ensures.elements) refl in
    subst (λ (es : List Element). IsDataSet (as_elements es)) (sym all)
    (merged_is c.args.self c.args.sent c.into_elements.ensures.facts c.into_elements-2.ensures.facts)
