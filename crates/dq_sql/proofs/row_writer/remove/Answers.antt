use Rattle.sqlite.specs.Held.{state}
use Rattle.dq_sql.proofs.WrittenRows.{remove_done}
use Rattle.dq_sql.proofs.row_writer.remove.Goals as goal

pub returns-in-Ok-clause-done : goal.returns-in-Ok-clause-done
returns-in-Ok-clause-done g c clean inside =
    remove_done (state g.S.Store c.args.tx.now.conn.now) (state g.S.Store c.execute-ran.new.self.conn.now) c.args.kind c.args.institution.now c.args.key.now
    (c.in-Ok.field-0, rw (c.to_sql.ensures, c.from.ensures, c.number.ensures, c.to_sql-2.ensures) at (c.in-Ok.ensures.runs clean inside))
