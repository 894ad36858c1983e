use Rattle.std.proofs.Common.{ℕ, List, flat_map, ap, ◌∙◌, lit<}
use Rattle.std.proofs.lemmas.Iterator.Consumers.{YieldsList-end}
use Rattle.std.proofs.lemmas.Iterator.Splits.{YieldsList-from_str_split}
use Rattle.dq_json.specs.Spellings.{spellings}
use Rattle.dq_request.proofs.SpelledValues.{parted}
use Rattle.dq_request.proofs.spelled_values.put_spellings.Goals as goal

pub returns : goal.returns
returns c =
    let end = YieldsList-end (YieldsList-from_str_split 92 c.args.text.now (lit< tt) (cc) (cc) (cc)) c.loop-value.yielded _ c.loop-value.yielded_by _ _ c.in-None.is c.next.ensures.steps in
    c.loop-value.invariant ∙ ap (λ (values : List (List ℕ)). parted (flat_map spellings values)) end.0
