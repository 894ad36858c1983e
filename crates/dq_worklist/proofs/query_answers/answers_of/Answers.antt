use Rattle.std.proofs.Common.{◌∙◌, [], ap, append-nil}
use Rattle.dq_match.specs.Parts.{with_others}
use Rattle.dq_archive.specs.Archives.{records_in}
use Rattle.dq_archive.proofs.Lookups.{looks_alike, looks_as}
use Rattle.dq_worklist.specs.EntryReads.{row_answers}
use Rattle.dq_worklist.proofs.LookedUp.{by_waiting_alone, by_one}
use Rattle.dq_worklist.proofs.query_answers.answers_of.Goals as goal

pub returns-in_default : goal.returns-in_default
returns-in_default g c =
    let it = c.args.archive.now in
    looks_alike g.T.Tables.state it c.answers_of_waiting.new.archive _ _ c.answers_of_waiting.result c.answers_of_waiting.ensures
    (λ h. ap (with_others c.args.page) (by_waiting_alone (records_in g.T.Tables.state it) c.args.keys.now c.in_default.ensures))

pub returns : goal.returns
returns g c =
    let it = c.args.archive.now in
    looks_as g.T.Tables.state it c.row.new.self _ c.in_ok-row.row c.in_ok-row.ensures _ _
    (λ h. c.into_answers.ensures ∙ c.in_ok-take_answers.ensures []
    ∙ ap (with_others c.args.page) (append-nil _ ∙ ap (row_answers c.args.keys.now) c.as_slice.ensures
    ∙ by_one it.institution.now.name (records_in g.T.Tables.state it) c.args.keys.now c.in-Some.id.now c.in_ok-row.row c.in_ok-rows.rows
    c.in-Some.ensures (c.in_ok-row.ensures.answered h) c.in_ok-rows.ensures))
