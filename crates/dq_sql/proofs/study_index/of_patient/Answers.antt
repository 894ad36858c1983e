use Rattle.sqlite.specs.Held.{state}
use Rattle.dq_sql.proofs.ChosenStudies.{few_of_patient}
use Rattle.dq_sql.proofs.study_index.of_patient.Goals as goal

pub returns-clause-found : goal.returns-clause-found
returns-clause-found g c clean =
    let shown = rw (c.to_sql.ensures, c.from.ensures, c.number.ensures, c.in_ok-limit.ensures) at (c.in_ok-answer.ensures.shown clean) in
    few_of_patient (state g.S.Store c.args.conn.now) (state g.S.Store c.answered.new.conn) c.args.institution.now c.in_ok-answer.answer.items c.args.many c.fewer_than.result c.args.patient.now c.fewer_than.ensures shown
