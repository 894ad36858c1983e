use Rattle.std.proofs.Common.{◌≡◌, Bool, false, Result, Ok, Err, OnOk, refl, rules}
use Rattle.std.specs.Result.{is_err}
use Rattle.dq_app.proofs.Cutting.{AppendsPart-unflushed}
use Rattle.dq_app.specs.Copies.{copied_line}
use Rattle.dq_app.proofs.copying.put_count.Goals as goal

-- what holds of a success holds where there is no error
if-done : {T E : Type 0} (P : Type 0) (r : Result T E) (b : Bool) → b ≡ is_err r → b ≡ false → OnOk r P → P
if-done P (Ok x) b is none holds = holds
if-done P (Err e) b is none holds = absurd (cc)

pub returns-then-is_err-2-clause-cut : goal.returns-then-is_err-2-clause-cut
returns-then-is_err-2-clause-cut g c =
    let done = if-done _ c.put_numbered.result c.is_err.result c.is_err.ensures.value c.if-is_err.false c.put_numbered.ensures.written in (
      refl,
      (c.put_numbered.ensures.fails (search rules), AppendsPart-unflushed _ _ _ (copied_line c.args.count) done c.finish.ensures.written),
    )
