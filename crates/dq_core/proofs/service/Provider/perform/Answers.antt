use Rattle.std.proofs.lemmas.Result.{on_ok_weaker}
use Rattle.dq_dimse.specs.Holding.{plain_message}
use Rattle.dq_config.specs.Limits.{limits_of}
use Rattle.dq_tables.specs.Rows.{of}
use Rattle.dq_mpps.specs.NCreate.{create_outcome}
use Rattle.dq_mpps.specs.NSet.{set_outcome}
use Rattle.dq_core.proofs.Brief.{told_brief, create_brief, set_brief}
use Rattle.dq_core.proofs.service.Provider.perform.Goals as goal

pub returns-in_ok-status-in-CreateStep-clause-told : goal.returns-in_ok-status-in-CreateStep-clause-told
returns-in_ok-status-in-CreateStep-clause-told g c = λ h.
    let institution = c.args.self.institution.now in
    let name = institution.name in
    let state = g.T.Tables.state in
    let rows = (state c.args.tables.now).rows in
    let serves = c.in_ok-status-in-CreateStep.ensures in
    let message = plain_message c.args.message.now in
    told_brief name (create_outcome (limits_of institution) (of name rows) message c.args.syntax).1 rows (state c.create.new.tables).rows c.args.log.now
    (c.honest_rows_are_sound.ensures.rising c.args.tables.now (serves.goes.was_honest h))
    (create_brief (limits_of institution) (of name rows) message c.args.syntax) (serves.done h)

pub returns-in_ok-status-in-SetStep-clause-told : goal.returns-in_ok-status-in-SetStep-clause-told
returns-in_ok-status-in-SetStep-clause-told g c = λ h.
    let institution = c.args.self.institution.now in
    let name = institution.name in
    let state = g.T.Tables.state in
    let rows = (state c.args.tables.now).rows in
    let serves = c.in_ok-status-in-SetStep.ensures in
    let message = plain_message c.args.message.now in
    told_brief name (set_outcome (of name rows) message c.args.syntax).1 rows (state c.set.new.tables).rows c.args.log.now
    (c.honest_rows_are_sound.ensures.rising c.args.tables.now (serves.goes.was_honest h))
    (set_brief (of name rows) message c.args.syntax) (serves.done h)
