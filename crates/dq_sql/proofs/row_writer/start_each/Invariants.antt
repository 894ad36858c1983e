use Rattle.std.proofs.Common.{◌≡◌, take}
use Rattle.sqlite.specs.Held.{state}
use Rattle.dq_sql.proofs.StartStatements.{HasStarted}
use Rattle.dq_sql.proofs.row_writer.start_each.Given as goal

abbrev pub invariant-loop-key : goal.invariant-loop-key
invariant-loop-key g l =
    (l.tx.conn.ghost_name ≡ l.initial.tx.conn.ghost_name)
    × HasStarted (state g.S.Store l.initial.tx.conn.now) (state g.S.Store l.tx.conn.now) l.institution (take l.key-index l.keys)
