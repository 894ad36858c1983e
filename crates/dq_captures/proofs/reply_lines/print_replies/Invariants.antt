use Rattle.std.proofs.Common.{take}
use Rattle.std.specs.Io.KnownBytes.{Appends}
use Rattle.dq_captures.specs.ReplyLines.{reply_lines}
use Rattle.dq_captures.proofs.reply_lines.print_replies.Given as goal

abbrev pub invariant-loop-reply : goal.invariant-loop-reply
invariant-loop-reply g l = record {
  written : Appends (g.W.Sink.written l.initial.output) (g.W.Sink.written l.output) (reply_lines (take l.reply-index l.replies));
  fails : g.W.Sink.may_fail l.output → g.W.Sink.may_fail l.initial.output;
}
