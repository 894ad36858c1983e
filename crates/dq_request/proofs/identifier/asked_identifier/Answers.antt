use Rattle.std.proofs.Common.{sym, subst, ap, ◌∙◌, lit<, List}
use Rattle.std.specs.Option.{option_copied}
use Rattle.dq_dataset.specs.Facts.{IsDataSet}
use Rattle.dq_dataset.specs.View.{as_elements}
use Rattle.dq_dataset.specs.declared.data_set.Element.{Element}
use Rattle.dq_vr.specs.Dictionary.{Entry}
use Rattle.dq_request.specs.Searches.{asked_elements}
use Rattle.dq_request.proofs.Asked.{identifier_is}
use Rattle.dq_request.proofs.identifier.asked_identifier.Goals as goal

pub from_elements-requires : goal.from_elements-requires
from_elements-requires c =
    let asked = λ (entries : List Entry). asked_elements c.args.level.now (option_copied c.args.step) c.args.keys.now entries in
    subst (λ (elements : List Element). IsDataSet (as_elements elements)) (sym (c.in_ok-elements.ensures ∙ ap asked c.entries.ensures))
    (identifier_is 16 (lit< tt) c.args.level.now (option_copied c.args.step) c.requires c.args.keys.now c.dictionary_law.ensures.rises
    c.dictionary_law.ensures.told)
