use Rattle.std.proofs.Common.{arith}
use Rattle.std.proofs.lemmas.Result.{IfOk-weaker}
use Rattle.sqlite.specs.Held.{state}
use Rattle.sqlite.specs.State.{HasCleanDisk}
use Rattle.dq_sql.specs.RowReads.{kept_shown}
use Rattle.dq_sql.specs.declared.version.Version.TheVariants.{One, Two}
use Rattle.dq_sql.proofs.ReadRows.{shows_rows}
use Rattle.dq_sql.proofs.SoundStores.{shown_same, stays_then}
use Rattle.dq_sql.proofs.row_reader.rows_judged.Goals as goal

pub returns-in-One-clause-judged : goal.returns-in-One-clause-judged
returns-in-One-clause-judged g c =
    let old = state g.S.Store c.args.conn.now in
    let mid = state g.S.Store c.rows_told.new.conn in
    let new = state g.S.Store c.judged_in_turn.new.conn in
    rw c.in-One.is (IfOk-weaker c.judged_in_turn.result _ _
    (λ _ it. (
      it.0,
      it.1,
      λ clean.
          let late : HasCleanDisk mid = omega (arith, c.judged_in_turn.ensures.stays.survives.clean, clean) in
          shown_same One old mid (kept_shown One) it.0 (c.in_ok-room.ensures.same late) (shows_rows One mid new it.0 (it.2 clean)),
    ))
    c.judged_in_turn.ensures.judged)

pub returns-in-One-clause-stays : goal.returns-in-One-clause-stays
returns-in-One-clause-stays g c =
    stays_then (state g.S.Store c.args.conn.now) (state g.S.Store c.rows_told.new.conn) (state g.S.Store c.judged_in_turn.new.conn)
    c.in_ok-room.ensures.stays c.judged_in_turn.ensures.stays

pub returns-in-Two-clause-judged : goal.returns-in-Two-clause-judged
returns-in-Two-clause-judged g c =
    let old = state g.S.Store c.args.conn.now in
    let mid = state g.S.Store c.rows_told.new.conn in
    let new = state g.S.Store c.judged_in_turn-in-Two.new.conn in
    rw c.in-Two.is (IfOk-weaker c.judged_in_turn-in-Two.result _ _
    (λ _ it. (
      it.0,
      it.1,
      λ clean.
          let late : HasCleanDisk mid = omega (arith, c.judged_in_turn-in-Two.ensures.stays.survives.clean, clean) in
          shown_same Two old mid (kept_shown Two) it.0 (c.in_ok-room.ensures.same late) (shows_rows Two mid new it.0 (it.2 clean)),
    ))
    c.judged_in_turn-in-Two.ensures.judged)

pub returns-in-Two-clause-stays : goal.returns-in-Two-clause-stays
returns-in-Two-clause-stays g c =
    stays_then (state g.S.Store c.args.conn.now) (state g.S.Store c.rows_told.new.conn) (state g.S.Store c.judged_in_turn-in-Two.new.conn)
    c.in_ok-room.ensures.stays c.judged_in_turn-in-Two.ensures.stays
