use Rattle.sqlite.specs.Held.{state}
use Rattle.dq_sql.proofs.WrittenRows.{on_ok, put_done}
use Rattle.dq_sql.proofs.row_writer.put.Goals as goal

pub returns-clause-done : goal.returns-clause-done
returns-clause-done g c clean inside =
    on_ok c.run.result _ _ (put_done (state g.S.Store c.args.tx.now.conn.now) (state g.S.Store c.run.new.tx.conn.now) c.args.row.now)
    (c.run.ensures.runs clean inside)
