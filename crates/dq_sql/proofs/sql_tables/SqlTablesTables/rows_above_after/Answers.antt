use Rattle.std.proofs.Common.{take, option_copied, arith}
use Rattle.sqlite.specs.State.{HasCleanDisk}
use Rattle.sqlite.specs.Held.{state}
use Rattle.dq_tables.specs.Lookups.{rows_above, rows_behind}
use Rattle.dq_sql.proofs.KeptRows.{rows_set, if_ok, found_in, stays_kept}
use Rattle.dq_sql.proofs.sql_tables.SqlTablesTables.rows_above_after.Goals as goal

pub invariant_of-self : goal.invariant_of-self
invariant_of-self g c =
    let it = c.args.self.now in
    let stays = c.rows_above_after-answer.ensures.stays in
    record {
      alone = stays.mode it.alone;
      keeps = stays_kept (state g.S.Store it.conn) (state g.S.Store c.rows_above_after-answer.new.conn) it.history.rows it.alone stays it.keeps;
    }

pub returns-clause-found : goal.returns-clause-found
returns-clause-found g c clean =
    let it = c.args.self.now in
    let before : HasCleanDisk (state g.S.Store it.conn) = omega (arith, c.rows_above_after-answer.ensures.stays.survives.clean) in
    rw c.noted.ensures.same
    (if_ok c.rows_above_after-answer.result _ _ (λ found h. found_in rows_set (state g.S.Store it.conn) it.history.rows
    (λ rows. take c.args.most (rows_behind (option_copied c.args.after) (rows_above c.args.kind c.args.institution.now c.args.above.now rows))) found it.keeps before h)
    (c.rows_above_after-answer.ensures.found clean))
