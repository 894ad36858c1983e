use Rattle.std.proofs.Common.{arith}
use Rattle.sqlite.specs.State.{HasCleanDisk}
use Rattle.sqlite.specs.Held.{state}
use Rattle.dq_tables.specs.Lookups.{row_at}
use Rattle.dq_sql.proofs.KeptRows.{row_set, if_ok, found_in, stays_kept}
use Rattle.dq_sql.proofs.sql_tables.SqlTablesTables.row.Goals as goal

pub invariant_of-self : goal.invariant_of-self
invariant_of-self g c =
    let it = c.args.self.now in
    let stays = c.row-answer.ensures.stays in
    record {
      alone = stays.mode it.alone;
      keeps = stays_kept (state g.S.Store it.conn) (state g.S.Store c.row-answer.new.conn) it.history.rows it.alone stays it.keeps;
    }

pub returns-clause-found : goal.returns-clause-found
returns-clause-found g c clean =
    let it = c.args.self.now in
    let before : HasCleanDisk (state g.S.Store it.conn) = omega (arith, c.row-answer.ensures.stays.survives.clean) in
    rw c.noted.ensures.same
    (if_ok c.row-answer.result _ _ (λ found h. found_in row_set (state g.S.Store it.conn) it.history.rows (row_at c.args.kind c.args.institution.now c.args.key.now) found it.keeps before h)
    (c.row-answer.ensures.found clean))
