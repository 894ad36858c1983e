use Rattle.std.proofs.Common.{◌∙◌, ap, lit<}
use Rattle.std.specs.List.{list_all}
use Rattle.std.proofs.lemmas.Iterator.Consumers.{YieldsList-end}
use Rattle.std.proofs.lemmas.Iterator.Splits.{YieldsList-from_str_split}
use Rattle.dq_web.specs.Aims.{is_plain_segment}
use Rattle.dq_web.proofs.aim.is_plain_path.Goals as goal

pub returns : goal.returns
returns c =
    let turn = YieldsList-end (YieldsList-from_str_split 47 c.args.path.now (lit< tt) (cc) (cc) (cc)) c.loop-segment.yielded _ c.loop-segment.yielded_by _ _ c.in-None.is c.next.ensures.steps in
    c.loop-segment.invariant ∙ ap (list_all is_plain_segment) turn.0
