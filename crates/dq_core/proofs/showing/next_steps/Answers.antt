use Rattle.std.proofs.Common.{◌∙◌, ℕ, List, Option, map, take, sym, ap}
use Rattle.std.specs.Borrow.{Bor}
use Rattle.std.specs.Option.{option_copied}
use Rattle.std.proofs.lemmas.Result.{IfOk-weaker}
use Rattle.dq_tables.specs.declared.row.Kind.TheVariants.{Step}
use Rattle.dq_tables.specs.Rows.{of, row_of}
use Rattle.dq_tables.specs.Lookups.{records_after, records_of}
use Rattle.dq_tables.proofs.OwnRows.{page_own, window_own}
use Rattle.dq_core.specs.StepReads.{steps_at_once, steps_left}
use Rattle.dq_core.proofs.showing.next_steps.Goals as goal

pub returns-in-Some-clause-found : goal.returns-in-Some-clause-found
unfolding records_after
returns-in-Some-clause-found g c = λ honest.
    let name = c.args.name.now in
    let rows = (g.T.Tables.state c.args.tables.now).rows in
    IfOk-weaker c.rows_after.result _ _
    (λ found is. is ∙ page_own Step name c.in-Some.key.now 16 rows
    ∙ ap (λ (after : Option (Bor (List ℕ))). map (row_of name) (take steps_at_once (steps_left c.args.from (option_copied after) (records_of Step (of name rows)))))
    (sym c.in-Some.is))
    (c.rows_after.ensures.found honest)

pub returns-in-None-clause-found : goal.returns-in-None-clause-found
returns-in-None-clause-found g c = λ honest.
    let name = c.args.name.now in
    let rows = (g.T.Tables.state c.args.tables.now).rows in
    IfOk-weaker c.rows_from.result _ _
    (λ found is. is ∙ window_own Step name c.args.from 16 rows
    ∙ ap (λ (after : Option (Bor (List ℕ))). map (row_of name) (take steps_at_once (steps_left c.args.from (option_copied after) (records_of Step (of name rows)))))
    (sym c.in-None.is))
    (c.rows_from.ensures.found honest)
