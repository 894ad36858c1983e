use Rattle.std.proofs.Common.{rules, tests, ◌∙◌, ap}
use Rattle.std.specs.List.{list_any}
use Rattle.std.proofs.lemmas.Iterator.Consumers.{YieldsList-end}
use Rattle.std.proofs.lemmas.Iterator.Splits.{YieldsList-from_slice_split}
use Rattle.dq_web.specs.Requests.{is_between, passes_word}
use Rattle.dq_web.proofs.cutting.passes.Goals as goal

pub returns : goal.returns
returns c =
    let turn = YieldsList-end (YieldsList-from_slice_split _ is_between c.args.list.now (cc) (cc) (cc) (λ x r q k. search (rules, tests))) c.loop-word.yielded _ c.loop-word.yielded_by _ _ c.in-None.is c.next.ensures.steps in
    c.loop-word.invariant ∙ ap (list_any (passes_word c.args.wanted)) turn.0
