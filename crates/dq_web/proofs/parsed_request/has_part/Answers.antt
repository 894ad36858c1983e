use Rattle.std.proofs.Common.{◌∙◌, ap, lit<}
use Rattle.std.specs.List.{list_any}
use Rattle.std.proofs.lemmas.Iterator.Consumers.{YieldsList-end}
use Rattle.std.proofs.lemmas.Iterator.Splits.{YieldsList-from_str_split}
use Rattle.dq_web.specs.ParsedRequests.{passes_part}
use Rattle.dq_web.proofs.parsed_request.has_part.Goals as goal

pub returns : goal.returns
returns c =
    let turn = YieldsList-end (YieldsList-from_str_split 38 c.args.query.now (lit< tt) (cc) (cc) (cc)) c.loop-part.yielded _ c.loop-part.yielded_by _ _ c.in-None.is c.next.ensures.steps in
    c.loop-part.invariant ∙ ap (list_any (passes_part c.args.wanted)) turn.0
