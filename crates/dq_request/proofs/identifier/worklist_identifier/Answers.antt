use Rattle.std.proofs.Common.{[], None, sym, subst, lit<}
use Rattle.dq_dataset.specs.Tree.{ElementList}
use Rattle.dq_request.specs.Searches.{IsItem}
use Rattle.dq_request.proofs.Asked.{identifier_is}
use Rattle.dq_request.proofs.identifier.worklist_identifier.Goals as goal

pub asked_identifier-requires-2 : goal.asked_identifier-requires-2
asked_identifier-requires-2 c =
    subst (λ (step : ElementList). IsItem step) (sym c.in_ok-step.ensures)
    (identifier_is 15 (lit< tt) [] None tt c.args.keys.now c.dictionary_law.ensures.rises c.dictionary_law.ensures.told)
