use Rattle.dq_app.proofs.Cutting.{AppendsPart-unflushed}
use Rattle.dq_app.proofs.exporting.put_export.Goals as goal

pub returns-then-is_err-clause-cut : goal.returns-then-is_err-clause-cut
returns-then-is_err-clause-cut g c = λ honest.
    AppendsPart-unflushed _ _ _ _ (c.in_ok-put_asked.ensures.done honest) c.finish.ensures.written
