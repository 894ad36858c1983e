use Rattle.std.proofs.Common.{take}
use Rattle.std.specs.Io.KnownBytes.{Appends}
use Rattle.dq_app.specs.Looping.{sent_text}
use Rattle.dq_app.proofs.looping.print_sent.Given as goal

abbrev pub invariant-loop-sent : goal.invariant-loop-sent
invariant-loop-sent g l = record {
  written : Appends (g.W.Sink.written l.initial.output) (g.W.Sink.written l.output) (sent_text (take l.sent-index l.all));
  fails : g.W.Sink.may_fail l.output → g.W.Sink.may_fail l.initial.output;
}
