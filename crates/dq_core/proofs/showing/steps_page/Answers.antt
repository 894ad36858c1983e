use Rattle.std.proofs.Common.{◌∙◌, ◌++◌, List, sym, ap}
use Rattle.dq_match.specs.Parts.{with_others}
use Rattle.dq_tables.specs.declared.row.Row.{Row}
use Rattle.dq_core.specs.StepReads.{data_sets_of_rows}
use Rattle.dq_core.proofs.StepPages.{found_of, taken_none, taken_next}
use Rattle.dq_core.proofs.showing.steps_page.Goals as goal

pub loop-init : goal.loop-init
loop-init g c =
    taken_none g.T.Tables.state c.args.tables.now c.args.institution.now.name c.args.page c.of_page-shown.result c.of_page-shown.ensures

pub loop-preserved : goal.loop-preserved
loop-preserved g c =
    let state = g.T.Tables.state in
    let from = c.args.page.offset in
    let rows = (state c.loop.tables).rows in
    taken_next state c.args.tables.now c.args.institution.now.name c.args.page c.loop.tables c.loop.after c.loop.shown c.loop.invariant
    c.next_steps.new.tables c.in_ok-rows.rows c.take_data_sets.new.page c.in_ok-rows.ensures.reads
    (λ honest. c.in_ok-rows.ensures.found honest ∙ (λ i. found_of (c.as_slice-name.ensures i) from (c.octets_of.ensures i) rows))
    (λ others. c.in_ok-take_data_sets.ensures others
    ∙ ap (λ (rs : List Row). with_others c.loop.shown (data_sets_of_rows rs ++ others)) c.as_slice.ensures)
    (λ honest. c.honest_rows_are_sound.ensures.rising c.args.tables.now honest)
    c.in-Some.key (sym c.in-Some.ensures)
