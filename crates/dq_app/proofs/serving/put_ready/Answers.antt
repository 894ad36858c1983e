use Rattle.std.proofs.Common.{rules, refl}
use Rattle.dq_app.proofs.Cutting.{AppendsPart-unflushed}
use Rattle.dq_app.specs.Serving.{ready_text}
use Rattle.dq_app.proofs.serving.put_ready.Goals as goal

pub returns-then-is_err-2-clause-cut : goal.returns-then-is_err-2-clause-cut
returns-then-is_err-2-clause-cut g c = (
  refl,
  (c.put_numbered.ensures.fails (search rules), AppendsPart-unflushed _ _ _ (ready_text c.args.port) (search rules) c.finish.ensures.written),
)
