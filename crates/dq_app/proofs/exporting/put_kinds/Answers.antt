use Rattle.std.proofs.Common.{refl}
use Rattle.dq_tables.specs.Rows.{of}
use Rattle.dq_app.proofs.Exported.{kind-cut}
use Rattle.dq_app.proofs.Inputs.{if_error}
use Rattle.dq_app.proofs.exporting.put_kinds.Goals as goal

pub returns-in_err-put_kind-clause-cut : goal.returns-in_err-put_kind-clause-cut
returns-in_err-put_kind-clause-cut g c = λ honest.
    let before = c.loop-kind.invariant in
    let was = c.in_err-put_kind.ensures.kept honest in
    if_error _ c.from_residual.result _ c.from_residual.ensures.1
    (kind-cut (of c.args.name.now (g.T.Tables.state c.args.tables.now).rows) c.args.kinds.now c.loop-kind.kind-index _ _ c.loop-kind-test.true refl
    _ _ _ _ (before.written was.0) (rw (before.kept was.0).1 at (c.in_err-put_kind.ensures.cut honest)))
