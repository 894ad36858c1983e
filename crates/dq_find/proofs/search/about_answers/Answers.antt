use Rattle.std.proofs.Common.{◌∙◌, sym, subst}
use Rattle.dq_dataset.specs.Tree.{ElementList}
use Rattle.dq_dataset.specs.Facts.{IsDataSet}
use Rattle.dq_find.proofs.TextFacts.{about_answers_facts, about_answers_of}
use Rattle.dq_find.proofs.search.about_answers.Goals as goal

pub from_elements-requires : goal.from_elements-requires
from_elements-requires c =
    let made = about_answers_of c.in_ok-elements.field-0.items c.name.result.now c.stripped.result.now c.args.called.now c.args.level c.in_ok-elements.ensures
    c.name.ensures c.stripped.ensures in
    subst (λ (d : ElementList). IsDataSet d) (sym made) (about_answers_facts c.args.called.now c.args.level)

pub returns : goal.returns
returns c =
    c.from_elements.ensures
    ∙ about_answers_of c.in_ok-elements.field-0.items c.name.result.now c.stripped.result.now c.args.called.now c.args.level c.in_ok-elements.ensures
    c.name.ensures c.stripped.ensures
