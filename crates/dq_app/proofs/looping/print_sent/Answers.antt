use Rattle.std.proofs.Common.{rules, refl, arith}
use Rattle.std.proofs.lemmas.List.{take_all}
use Rattle.std.specs.Io.KnownBytes.{Appends}
use Rattle.dq_captures.proofs.WrittenLines.{BreaksOff-item}
use Rattle.dq_app.proofs.Cutting.{AppendsPart-unflushed}
use Rattle.dq_app.specs.Looping.{sent_line, sent_text}
use Rattle.dq_app.proofs.looping.print_sent.Goals as goal

pub returns-then-is_err-clause-cut : goal.returns-then-is_err-clause-cut
returns-then-is_err-clause-cut g c = (
  refl,
  BreaksOff-item sent_line _ _ _ c.args.all.now c.loop-sent.sent-index c.sent-item.result c.loop-sent-test.true c.sent-item.is
      c.loop-sent.invariant.fails c.loop-sent.invariant.written (search rules),
)

pub returns-then-is_err-2-clause-cut : goal.returns-then-is_err-2-clause-cut
returns-then-is_err-2-clause-cut g c =
    let done : Appends (g.W.Sink.written c.args.output.now) (g.W.Sink.written c.loop-sent.output) (sent_text c.args.all.now) =
    rw (take_all c.loop-sent.sent-index c.args.all.now (omega (arith, c.loop-sent-test.false))) at c.loop-sent.invariant.written in
    (refl, (c.loop-sent.invariant.fails (search rules), AppendsPart-unflushed _ _ _ (sent_text c.args.all.now) done c.finish.ensures.written))
