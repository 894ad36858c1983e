use Rattle.dq_captures.proofs.WrittenLines.{OnErr-known, Appends-then, BreaksOff-first, BreaksOff-later}
use Rattle.dq_captures.proofs.reply_lines.put_number.Goals as goal

pub returns-in_err-put_text-clause-part : goal.returns-in_err-put_text-clause-part
returns-in_err-put_text-clause-part g c =
    OnErr-known c.from_residual.result (BreaksOff-first _ _ _ _ (rw c.format.ensures.text at c.in_err-put_text.ensures.part))

pub returns-in_err-put_text-2-clause-part : goal.returns-in_err-put_text-2-clause-part
returns-in_err-put_text-2-clause-part g c =
    OnErr-known c.from_residual-in_err-put_text-2.result (BreaksOff-later _ _ _ _ _ c.put_text.ensures.fails
    (rw c.format.ensures.text at c.in_ok-put_text.ensures.written) c.in_err-put_text-2.ensures.part)

pub returns-clause-written : goal.returns-clause-written
returns-clause-written g c =
    Appends-then _ _ _ _ _ (rw c.format.ensures.text at c.in_ok-put_text.ensures.written) c.in_ok-put_text-2.ensures.written
