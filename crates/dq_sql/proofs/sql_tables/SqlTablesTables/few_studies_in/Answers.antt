use Rattle.std.proofs.Common.{arith}
use Rattle.sqlite.specs.State.{HasCleanDisk}
use Rattle.sqlite.specs.Held.{state}
use Rattle.dq_sql.proofs.KeptRows.{if_ok, stays_kept}
use Rattle.dq_sql.proofs.KeptStudies.{found_few, found_many}
use Rattle.dq_sql.proofs.sql_tables.SqlTablesTables.few_studies_in.Goals as goal

pub invariant_of-self : goal.invariant_of-self
invariant_of-self g c =
    let it = c.args.self.now in
    let stays = c.few_studies_in-answer.ensures.stays in
    record {
      alone = stays.mode it.alone;
      keeps = stays_kept (state g.S.Store it.conn) (state g.S.Store c.few_studies_in-answer.new.conn) it.history.rows it.alone stays it.keeps;
    }

pub returns-clause-found : goal.returns-clause-found
returns-clause-found g c clean =
    let it = c.args.self.now in
    let before : HasCleanDisk (state g.S.Store it.conn) = omega (arith, c.few_studies_in-answer.ensures.stays.survives.clean) in
    rw c.noted.ensures.same
    (if_ok c.few_studies_in-answer.result _ _ (λ few h. found_few (state g.S.Store it.conn) it.history.rows c.args.choice.now c.args.institution.now c.args.many few it.keeps before h)
    (c.few_studies_in-answer.ensures.found clean))

pub returns-clause-many : goal.returns-clause-many
returns-clause-many g c clean =
    let it = c.args.self.now in
    let before : HasCleanDisk (state g.S.Store it.conn) = omega (arith, c.few_studies_in-answer.ensures.stays.survives.clean) in
    rw c.noted.ensures.same
    (if_ok c.few_studies_in-answer.result _ _ (λ few h. found_many (state g.S.Store it.conn) it.history.rows c.args.choice.now c.args.institution.now c.args.many few it.keeps before h)
    (c.few_studies_in-answer.ensures.found clean))
