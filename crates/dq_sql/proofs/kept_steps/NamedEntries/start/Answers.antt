use Rattle.std.proofs.Common.{sym}
use Rattle.dq_tables.proofs.Soundness.{start_more}
use Rattle.dq_sql.proofs.kept_steps.NamedEntries.start.Goals as goal

pub loop-id-preserved : goal.loop-id-preserved
loop-id-preserved c = (
  start_more c.args.self.now.institution c.as_slice-id-items.result.now c.loop-id.id-index c.id-item.result c.args.rows.now.items c.loop-id.rows.items
      c.start.new.rows.items c.loop-id-test.true (sym c.id-item.is) c.loop-id.invariant.0
      (rw (c.as_slice.ensures, c.as_slice-in-loop-id.ensures) at c.start.ensures.done),
  c.start.ensures.rising,
)
