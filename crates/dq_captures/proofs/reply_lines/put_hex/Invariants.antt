use Rattle.std.proofs.Common.{length}
use Rattle.dq_captures.proofs.Spelling.{Spelled}
use Rattle.dq_captures.proofs.reply_lines.put_hex.Given as goal

abbrev pub invariant-chunks : goal.invariant-chunks
invariant-chunks g l = record {
  so : Spelled (g.W.Sink.written l.initial.output) (g.W.Sink.written l.output) l.initial.rest l.rest;
  fails : g.W.Sink.may_fail l.output → g.W.Sink.may_fail l.initial.output;
}

abbrev pub decreases-chunks : goal.decreases-chunks
decreases-chunks g l = length l.rest
