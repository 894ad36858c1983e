use Rattle.std.proofs.Common.{◌∙◌, sym, subst}
use Rattle.dq_dataset.specs.Tree.{ElementList}
use Rattle.dq_dataset.specs.Facts.{IsDataSet}
use Rattle.dq_find.proofs.TextFacts.{series_values_facts, series_values_of}
use Rattle.dq_find.proofs.computed_keys.series_values.Goals as goal

pub from_elements-requires : goal.from_elements-requires
from_elements-requires c =
    let made = series_values_of c.in_ok-elements.field-0.items c.as_bytes.result.now c.args.images c.in_ok-elements.ensures
    (c.as_bytes.ensures.value ∙ c.in_ok-images.ensures.ok) in
    subst (λ (d : ElementList). IsDataSet d) (sym made) (series_values_facts c.args.images)

pub returns : goal.returns
returns c =
    c.from_elements.ensures
    ∙ series_values_of c.in_ok-elements.field-0.items c.as_bytes.result.now c.args.images c.in_ok-elements.ensures
    (c.as_bytes.ensures.value ∙ c.in_ok-images.ensures.ok)
