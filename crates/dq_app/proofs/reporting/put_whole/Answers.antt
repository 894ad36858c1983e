use Rattle.std.proofs.Common.{rules}
use Rattle.dq_captures.proofs.WrittenLines.{Appends-kept, AppendsPart-whole}
use Rattle.dq_app.proofs.reporting.put_whole.Goals as goal

pub returns-then-is_err-2-clause-cut : goal.returns-then-is_err-2-clause-cut
returns-then-is_err-2-clause-cut g c =
    AppendsPart-whole _ _ c.args.text.now (Appends-kept _ _ _ c.args.text.now (search rules) c.finish.ensures.written)
