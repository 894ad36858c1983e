use Rattle.sqlite.specs.State.{HasCleanDisk}
use Rattle.sqlite.specs.Held.{state}
use Rattle.dq_sql.specs.Tie.{Stays}
use Rattle.dq_sql.specs.RowReads.{ShowsSame}
use Rattle.dq_sql.proofs.study_index.without.Given as goal

abbrev pub invariant-more : goal.invariant-more
invariant-more g l =
    Stays (state g.S.Store l.initial.conn) (state g.S.Store l.conn)
    × (HasCleanDisk (state g.S.Store l.conn) → ShowsSame (state g.S.Store l.initial.conn) (state g.S.Store l.conn))
