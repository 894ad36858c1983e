use Rattle.dq_captures.proofs.WrittenLines.{OnErr-known, Appends-then, BreaksOff-first, BreaksOff-later}
use Rattle.dq_captures.proofs.reply_lines.put_sent.Goals as goal

pub returns-in_err-put_number-clause-part : goal.returns-in_err-put_number-clause-part
returns-in_err-put_number-clause-part g c = OnErr-known c.from_residual.result (BreaksOff-first _ _ _ _ c.in_err-put_number.ensures.part)

pub returns-in_err-put_octets-clause-part : goal.returns-in_err-put_octets-clause-part
returns-in_err-put_octets-clause-part g c =
    OnErr-known c.from_residual-in_err-put_octets.result (BreaksOff-later _ _ _ _ _ c.put_number.ensures.fails c.in_ok-put_number.ensures.written
    (BreaksOff-first _ _ _ _ c.in_err-put_octets.ensures.part))

pub returns-in_err-put_text-clause-part : goal.returns-in_err-put_text-clause-part
returns-in_err-put_text-clause-part g c =
    OnErr-known c.from_residual-in_err-put_text.result (BreaksOff-later _ _ _ _ _ c.put_number.ensures.fails c.in_ok-put_number.ensures.written
    (BreaksOff-later _ _ _ _ _ c.put_octets.ensures.fails c.in_ok-put_octets.ensures.written
    (rw c.line_end.ensures at c.in_err-put_text.ensures.part)))

pub returns-clause-written : goal.returns-clause-written
returns-clause-written g c =
    Appends-then _ _ _ _ _ c.in_ok-put_number.ensures.written (Appends-then _ _ _ _ _ c.in_ok-put_octets.ensures.written
    (rw c.line_end.ensures at c.in_ok-put_text.ensures.written))
