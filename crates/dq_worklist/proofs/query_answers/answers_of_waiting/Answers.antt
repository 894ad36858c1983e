use Rattle.std.proofs.Common.{◌∙◌, ◌++◌, ℕ, List, map, take, Option, Ok, sym, ap, arith}
use Rattle.std.specs.Option.{option_copied}
use Rattle.dq_match.specs.Parts.{with_others}
use Rattle.dq_tables.specs.declared.row.Row.{Row}
use Rattle.dq_tables.specs.Rows.{Record, row_of}
use Rattle.dq_tables.specs.Lookups.{records_behind, waiting_among}
use Rattle.dq_archive.specs.Archives.{records_in}
use Rattle.dq_archive.proofs.Lookups.{looks_alike}
use Rattle.dq_worklist.specs.EntryReads.{row_answers}
use Rattle.dq_worklist.proofs.WaitingAnswers.{taken_none, full_answers, all_answers, next_so_far}
use Rattle.dq_worklist.proofs.query_answers.answers_of_waiting.Goals as goal

-- what a read finds
abbrev found : List ℕ → Option (List ℕ) → List Record → List Row
found name after records = map (row_of name) (take 16 (records_behind after (waiting_among records)))

pub loop-init : goal.loop-init
loop-init g c =
    let it = c.args.archive.now in
    taken_none g.T.Tables.state it c.args.keys.now c.args.page (λ h. c.honest_rows_are_sound.ensures.rising it.tables.now h)

pub returns-then-is_full : goal.returns-then-is_full
returns-then-is_full g c =
    full_answers g.T.Tables.state c.args.archive.now c.args.keys.now c.args.page c.loop.archive c.loop.page c.loop.after c.loop.invariant
    c.into_answers.result (c.is_full.ensures c.if-is_full.true) c.into_answers.ensures

pub returns-in_default : goal.returns-in_default
returns-in_default g c =
    let state = g.T.Tables.state in
    let mid = c.loop.archive in
    let name = mid.institution.now.name in
    let keys = c.args.keys.now in
    let rows = c.in_ok-rows in
    all_answers state c.args.archive.now keys c.args.page mid c.loop.page c.loop.after c.loop.invariant
    c.waiting_after.new.self 16 (omega arith) rows.rows c.take_answers.new.page
    (looks_alike state mid c.waiting_after.new.self (found name (option_copied c.octets_of.result)) (found name c.loop.after) (Ok rows.rows) rows.ensures
    (λ h. ap (λ (key : Option (List ℕ)). found name key (records_in state mid)) c.octets_of.ensures))
    (λ others. c.in_ok-take_answers.ensures others ∙ ap (λ (rs : List Row). with_others c.loop.page (row_answers keys rs ++ others)) c.as_slice.ensures)
    c.into_answers-in_default.result (sym c.last_key.ensures ∙ c.in_default.is) c.into_answers-in_default.ensures

pub loop-preserved : goal.loop-preserved
loop-preserved g c =
    let state = g.T.Tables.state in
    let mid = c.loop.archive in
    let name = mid.institution.now.name in
    let keys = c.args.keys.now in
    let rows = c.in_ok-rows in
    next_so_far state c.args.archive.now keys c.args.page mid c.loop.page c.loop.after c.loop.invariant
    c.waiting_after.new.self 16 (omega arith) rows.rows c.take_answers.new.page
    (looks_alike state mid c.waiting_after.new.self (found name (option_copied c.octets_of.result)) (found name c.loop.after) (Ok rows.rows) rows.ensures
    (λ h. ap (λ (key : Option (List ℕ)). found name key (records_in state mid)) c.octets_of.ensures))
    (λ others. c.in_ok-take_answers.ensures others ∙ ap (λ (rs : List Row). with_others c.loop.page (row_answers keys rs ++ others)) c.as_slice.ensures)
    c.in-Some.key (sym c.in-Some.ensures)
