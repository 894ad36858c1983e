use Rattle.std.proofs.Common.{◌∙◌, ◌==◌, rules, tests}
use Rattle.std.proofs.lemmas.Iterator.{YieldsList-from_slice}
use Rattle.std.proofs.lemmas.Iterator.Search.{find_from_yields_List}
use Rattle.dq_assoc.specs.declared.agreement.AcceptedContext.{AcceptedContext}
use Rattle.dq_assoc.proofs.agreement.Agreement.context.Goals as goal

pub returns : goal.returns
returns c =
    c.copied.ensures
    ∙ find_from_yields_List (λ (a : AcceptedContext). a.id == c.args.id) _ _ c.find.result c.find.ensures.ran
    (YieldsList-from_slice c.args.self.now.contexts cc) (λ x b q k. search (rules, tests))
