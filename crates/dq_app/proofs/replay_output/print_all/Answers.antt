use Rattle.std.proofs.Common.{rules}
use Rattle.dq_captures.specs.ReplyLines.{reply_lines}
use Rattle.dq_app.proofs.Cutting.{AppendsPart-unflushed}
use Rattle.dq_app.proofs.replay_output.print_all.Goals as goal

pub returns-then-is_err-2-clause-cut : goal.returns-then-is_err-2-clause-cut
returns-then-is_err-2-clause-cut g c = AppendsPart-unflushed _ _ _ (reply_lines c.args.replies.now) (search rules) c.finish.ensures.written
