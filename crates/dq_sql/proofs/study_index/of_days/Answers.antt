use Rattle.sqlite.specs.Held.{state}
use Rattle.dq_sql.proofs.ChosenStudies.{few_of_days}
use Rattle.dq_sql.proofs.StudyTests.{bound_last}
use Rattle.dq_sql.proofs.study_index.of_days.Goals as goal

pub returns-clause-found : goal.returns-clause-found
returns-clause-found g c clean =
    let shown = rw (c.to_sql.ensures, c.from.ensures, c.number.ensures, c.to_sql-2.ensures, c.unwrap_or.ensures, c.last_day_or_blob.ensures, bound_last c.args.last, c.in_ok-limit.ensures) at (c.in_ok-answer.ensures.shown clean) in
    few_of_days (state g.S.Store c.args.conn.now) (state g.S.Store c.answered.new.conn) c.args.institution.now c.in_ok-answer.answer.items c.args.many c.fewer_than.result c.args.first c.args.last
    c.day_numbers_are_in_order.ensures.natural c.fewer_than.ensures shown
