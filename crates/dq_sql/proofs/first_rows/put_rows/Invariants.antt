use Rattle.std.proofs.Common.{◌≡◌, take}
use Rattle.sqlite.specs.Held.{state}
use Rattle.dq_sql.proofs.FirstRows.{HasPut}
use Rattle.dq_sql.proofs.first_rows.put_rows.Given as goal

abbrev pub invariant-loop-row : goal.invariant-loop-row
invariant-loop-row g l =
    (l.tx.conn.ghost_name ≡ l.fn.tx.conn.ghost_name)
    × HasPut (state g.S.Store l.fn.tx.conn.now) (state g.S.Store l.tx.conn.now) (take l.row-index l.rows)
