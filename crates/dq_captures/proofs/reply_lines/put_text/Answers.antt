use Rattle.std.proofs.Common.{rules}
use Rattle.dq_captures.proofs.WrittenLines.{OnErr-known}
use Rattle.dq_captures.proofs.reply_lines.put_text.Goals as goal

pub returns-in_err-put-clause-part : goal.returns-in_err-put-clause-part
returns-in_err-put-clause-part g c = OnErr-known c.from_residual.result (c.in_err-put.ensures.failed, search rules)
