use Rattle.std.proofs.Common.{rules}
use Rattle.dq_captures.specs.ReplyLines.{printed_line}
use Rattle.dq_captures.proofs.WrittenLines.{BreaksOff-item}
use Rattle.dq_captures.proofs.reply_lines.print_replies.Goals as goal

pub returns-then-is_err-clause-part : goal.returns-then-is_err-clause-part
returns-then-is_err-clause-part g c =
    BreaksOff-item printed_line _ _ _ c.args.replies.now c.loop-reply.reply-index c.reply-item.result c.loop-reply-test.true c.reply-item.is
    c.loop-reply.invariant.fails c.loop-reply.invariant.written (search rules)
