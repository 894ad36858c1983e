use Rattle.std.proofs.Common.{rules, ◌∙◌}
use Rattle.sqlite.specs.Held.{state}
use Rattle.dq_sql.proofs.StartStatements.{one_started}
use Rattle.dq_sql.proofs.row_writer.start_each.Goals as goal

pub loop-key-preserved : goal.loop-key-preserved
loop-key-preserved g c = (
  c.start.ensures.same_reference ∙ c.loop-key.invariant.0,
  one_started (state g.S.Store c.args.tx.now.conn.now) (state g.S.Store c.loop-key.tx.conn.now) (state g.S.Store c.start.new.tx.conn.now) c.args.institution.now
      c.args.keys.now c.loop-key.key-index c.as_slice.result.now c.loop-key-test.true (search rules) c.loop-key.invariant.1 c.start.ensures.survives c.start.ensures.kept
      c.in_ok-start.ensures.done,
)
