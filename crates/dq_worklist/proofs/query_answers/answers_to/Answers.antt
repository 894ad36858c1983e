use Rattle.std.proofs.Common.{◌∙◌, Ok, sym, ap}
use Rattle.dq_match.specs.Parts.{found_of, with_others}
use Rattle.dq_archive.specs.Archives.{state_in, records_in}
use Rattle.dq_archive.proofs.Lookups.{looks_as}
use Rattle.dq_worklist.specs.Queries.{listed_by}
use Rattle.dq_worklist.proofs.LookedUp.{answered_of_candidates}
use Rattle.dq_worklist.proofs.Queries.{same_found}
use Rattle.dq_worklist.proofs.query_answers.answers_to.Goals as goal

pub returns : goal.returns
returns g c =
    let state = g.T.Tables.state in
    let old = c.args.archive.now in
    let query = c.in-Ok.query in
    let found = listed_by (records_in state old) c.args.asked in
    looks_as state old c.answers_of.new.archive _ c.in_ok-answers.answers c.in_ok-answers.ensures _ _
    (λ h. (let all = answered_of_candidates (λ place keys held. c.keys_are_met_alone_and_as_a_period.ensures.each place keys held)
    (λ keys others items. c.keys_are_met_alone_and_as_a_period.ensures.items keys others items)
    old.institution.now.name (state_in state old).rows query.keys
    (c.honest_rows_are_sound.ensures.sound old.tables.now (c.in_ok-answers.ensures.reads.goes.was_honest h)) c.has_facts.ensures in
    same_found c.args.page (records_in state old) query c.in_ok-answers.answers
    (c.in_ok-answers.ensures.answered h ∙ ap (with_others c.collector-page.result) all
    ∙ c.collector-page.ensures (listed_by (records_in state old) (Ok query))))
    ∙ ap (λ asked. found_of c.args.page (listed_by (records_in state old) asked)) (sym c.in-Ok.is))
