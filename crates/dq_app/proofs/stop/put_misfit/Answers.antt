use Rattle.dq_captures.proofs.WrittenLines.{OnErr-known, Appends-then, BreaksOff-first, BreaksOff-later}
use Rattle.dq_app.proofs.stop.put_misfit.Goals as goal

pub returns-in_err-put_place-clause-part : goal.returns-in_err-put_place-clause-part
returns-in_err-put_place-clause-part g c = OnErr-known c.from_residual.result (BreaksOff-first _ _ _ _ c.in_err-put_place.ensures.part)

pub returns-in_err-put_numbered-clause-part : goal.returns-in_err-put_numbered-clause-part
returns-in_err-put_numbered-clause-part g c =
    OnErr-known c.from_residual-in_err-put_numbered.result (BreaksOff-later _ _ _ _ _ c.put_place.ensures.fails c.in_ok-put_place.ensures.written
    (rw (c.config_words.ensures, c.from.ensures) at c.in_err-put_numbered.ensures.part))

pub returns-clause-written : goal.returns-clause-written
returns-clause-written g c =
    Appends-then _ _ _ _ _ c.in_ok-put_place.ensures.written (rw (c.config_words.ensures, c.from.ensures) at c.in_ok-put_numbered.ensures.written)
