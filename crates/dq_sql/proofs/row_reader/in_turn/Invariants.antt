use Rattle.std.proofs.Common.{◌≡◌, List, []}
use Rattle.sqlite_value.specs.Order.{Row as Values}
use Rattle.sqlite.specs.State.{HasCleanDisk, IsUnchanged}
use Rattle.sqlite.specs.Held.{state}
use Rattle.sqlite.specs.Given.{HasGiven}
use Rattle.dq_sql.specs.Tie.{Stays}
use Rattle.dq_sql.specs.FoundStores.{IsJudged}
use Rattle.dq_sql.proofs.row_reader.in_turn.Given as goal

abbrev pub invariant-rows : goal.invariant-rows
invariant-rows g l =
    let old = state g.S.Store l.fn.conn in
    let now = state g.S.Store l.rows.conn.now in
    (l.rows.conn.ghost_name ≡ l.initial.rows.conn.ghost_name) × Stays old now
    × ((seen : List Values) × IsJudged seen l.judgement × (HasCleanDisk now → HasGiven g.S.Store l.query [] l.rows.conn.now seen × IsUnchanged old now))
