use Rattle.dq_app.proofs.Exported.{row-cut}
use Rattle.dq_app.proofs.Inputs.{if_error}
use Rattle.dq_app.proofs.exporting.put_rows.Goals as goal

pub returns-in_err-put_row-clause-cut : goal.returns-in_err-put_row-clause-cut
returns-in_err-put_row-clause-cut g c =
    if_error _ c.from_residual.result _ c.from_residual.ensures.1
    (row-cut _ _ _ c.args.rows.now c.loop-row.row-index c.row-item.result _ c.loop-row-test.true c.row-item.is c.loop-row.invariant.written
    c.in_err-put_row.ensures.cut)
