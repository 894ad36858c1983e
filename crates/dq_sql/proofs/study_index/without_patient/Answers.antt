use Rattle.sqlite.specs.Held.{state}
use Rattle.dq_sql.proofs.ChosenStudies.{found_no_patient}
use Rattle.dq_sql.proofs.study_index.without_patient.Goals as goal

pub returns-clause-found : goal.returns-clause-found
returns-clause-found g c clean =
    let shown = rw (c.to_sql.ensures, c.from.ensures, c.number.ensures, c.in_ok-limit.ensures) at (c.in_ok-answer.ensures.shown clean) in
    found_no_patient (state g.S.Store c.args.conn.now) (state g.S.Store c.answered.new.conn) c.args.institution.now c.args.most c.in_ok-answer.answer.items shown c.silent_shown.result c.silent_shown.ensures
