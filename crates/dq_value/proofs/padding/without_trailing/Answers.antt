use Rattle.std.proofs.Common.{sym}
use Rattle.dq_value.specs.Trimming.{is_padding}
use Rattle.dq_value.proofs.Pads.{pad_taken, no_pad_left, nothing_left}
use Rattle.dq_value.proofs.padding.without_trailing.Goals as goal

pub loop-last-preserved : goal.loop-last-preserved
loop-last-preserved c =
    pad_taken (is_padding c.args.padding) c.loop-last.kept.now c.in-Some.others.now c.args.octets.now c.in-Some.last.now c.in-Some.ensures.cases.0 (sym c.if-not-is_padding.ensures)
    c.loop-last.invariant

pub returns-then-not-is_padding : goal.returns-then-not-is_padding
returns-then-not-is_padding c =
    no_pad_left (is_padding c.args.padding) c.loop-last.kept.now c.in-Some.others.now c.args.octets.now c.in-Some.last.now c.in-Some.ensures.cases.0 (sym c.if-not-is_padding.ensures)
    c.loop-last.invariant

pub returns-in_default : goal.returns-in_default
returns-in_default c = nothing_left (is_padding c.args.padding) c.loop-last.kept.now c.args.octets.now c.in_default.ensures.cases c.loop-last.invariant
