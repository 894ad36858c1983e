use Rattle.std.proofs.Common.{◌∙◌, sym, subst}
use Rattle.dq_dataset.specs.Tree.{ElementList}
use Rattle.dq_dataset.specs.Facts.{IsDataSet}
use Rattle.dq_find.proofs.TextFacts.{study_values_facts, study_values_of}
use Rattle.dq_find.proofs.computed_keys.study_values.Goals as goal

pub from_elements-requires : goal.from_elements-requires
from_elements-requires c =
    let made = study_values_of c.in_ok-elements.field-0.items c.args.modalities.now c.as_bytes.result.now c.as_bytes-2.result.now c.args.series c.args.images
    c.in_ok-elements.ensures (c.as_bytes.ensures.value ∙ c.in_ok-series.ensures.ok) (c.as_bytes-2.ensures.value ∙ c.in_ok-images.ensures.ok) in
    subst (λ (d : ElementList). IsDataSet d) (sym made) (study_values_facts c.args.modalities.now c.args.series c.args.images)

pub returns : goal.returns
returns c =
    c.from_elements.ensures
    ∙ study_values_of c.in_ok-elements.field-0.items c.args.modalities.now c.as_bytes.result.now c.as_bytes-2.result.now c.args.series c.args.images
    c.in_ok-elements.ensures (c.as_bytes.ensures.value ∙ c.in_ok-series.ensures.ok) (c.as_bytes-2.ensures.value ∙ c.in_ok-images.ensures.ok)
