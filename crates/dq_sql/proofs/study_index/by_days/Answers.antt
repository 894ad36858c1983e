use Rattle.std.proofs.Common.{arith}
use Rattle.sqlite.specs.State.{HasCleanDisk}
use Rattle.sqlite.specs.Held.{state}
use Rattle.dq_sql.specs.declared.study_index.Label.TheVariants.{Day}
use Rattle.dq_sql.specs.StudyIndex.{is_of_days}
use Rattle.dq_sql.proofs.ReadOnlyQueries.{holds_before}
use Rattle.dq_sql.proofs.ChosenStudies.{in_order_of_both, any_day}
use Rattle.dq_sql.proofs.study_index.by_days.Goals as goal

pub returns-clause-found : goal.returns-clause-found
returns-clause-found g c clean =
    let old = state g.S.Store c.args.conn.now in
    let mid = state g.S.Store c.of_days.new.conn in
    let between : HasCleanDisk mid = omega (arith, c.without.ensures.stays.survives.clean, clean) in
    let said = rw c.in-Some.is at (c.in_ok-said.ensures.found between) in
    let found = rw c.in-Some-2.is at (c.in_ok-silent.ensures.found clean) in
    let silent = holds_before old mid _ (c.in_ok-said.ensures.same between) found in
    in_order_of_both Day (is_of_days c.args.choice.now.first_day c.args.choice.now.last_day) c.args.institution.now old c.in-Some.said.items c.in-Some-2.silent.items (any_day c.args.choice.now.first_day c.args.choice.now.last_day) said silent
    c.in_ok-shown_in_order.field-0 c.in_ok-shown_in_order.ensures.same c.in_ok-shown_in_order.ensures.order
