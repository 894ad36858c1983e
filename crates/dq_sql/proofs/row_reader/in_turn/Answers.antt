use Rattle.std.proofs.Common.{[], refl, rules, arith}
use Rattle.sqlite.specs.State.{HasCleanDisk, IsUnchanged}
use Rattle.sqlite.specs.Held.{state}
use Rattle.sqlite.specs.Given.{HasGiven}
use Rattle.dq_sql.proofs.InTurn.{shown_from, begun_silent, begun_stays, refused_stays}
use Rattle.dq_sql.proofs.row_reader.in_turn.Goals as goal

pub returns-in_err-rows-clause-stays : goal.returns-in_err-rows-clause-stays
returns-in_err-rows-clause-stays g c =
    refused_stays g.S.Store c.args.query.now [] c.args.conn.now c.query.result _ c.query.follows.lender-at-none c.requires c.in_err-rows.was c.query.follows.holds-at-none

pub rows-init : goal.rows-init
rows-init g c =
    let made = c.in_ok-rows.ensures in
    let first = state g.S.Store c.args.conn.now in
    let now = c.in_ok-rows.rows.conn.now in
    let begun : HasCleanDisk (state g.S.Store now) → HasGiven g.S.Store c.args.query.now [] now [] × IsUnchanged first (state g.S.Store now) =
    λ clean. begun_silent g.S.Store c.args.query.now [] c.args.conn.now now c.requires (made.begun clean) in
    (refl, begun_stays c.args.query.now [] first (state g.S.Store now) c.requires made.survives made.mode (λ clean. (begun clean).1), ([], c.new-judgement.ensures, begun))

pub returns-in_default-clause-judged : goal.returns-in_default-clause-judged
returns-in_default-clause-judged g c =
    let moved = c.next.follows.holds-at-none in
    let now = c.next.follows.lender-at-none.conn.now in
    let seen = c.rows.invariant.2.0 in (
      seen,
      c.rows.invariant.2.1,
      λ clean.
          let late : HasCleanDisk (state g.S.Store now) = search rules in
          let was = c.rows.invariant.2.2 (omega (arith, moved.survives.clean)) in
          let shown = (rw (c.in_ok-row.was, c.in_default.is) at (moved.ok late)) c.args.query.now [] seen was.0 in
          let whole = shown_from c.args.query.now [] (state g.S.Store c.args.conn.now) _ (state g.S.Store now) c.requires was.1 _ shown in
          search rules,
    )
