use Rattle.std.proofs.Common.{◌∙◌}
use Rattle.sqlite.specs.Held.{state}
use Rattle.dq_sql.proofs.FirstRows.{put_next}
use Rattle.dq_sql.proofs.first_rows.put_rows.Goals as goal

pub loop-row-preserved : goal.loop-row-preserved
loop-row-preserved g c = (
  c.put.ensures.same_reference ∙ c.loop-row.invariant.0,
  put_next (state g.S.Store c.args.tx.now.conn.now) (state g.S.Store c.loop-row.tx.conn.now) (state g.S.Store c.put.new.tx.conn.now)
      c.args.rows.now c.loop-row.row-index c.row-item.result c.loop-row-test.true c.row-item.is c.requires c.loop-row.invariant.1
      (λ clean inside. c.in_ok-put.ensures.done clean inside) c.put.ensures.kept c.put.ensures.survives,
)
