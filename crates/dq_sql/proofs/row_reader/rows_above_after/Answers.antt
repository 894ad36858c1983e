use Rattle.std.proofs.Common.{◌∙◌, option_copied}
use Rattle.std.proofs.lemmas.Result.{IfOk-weaker}
use Rattle.sqlite.specs.Held.{state}
use Rattle.dq_sql.proofs.ReadRows.{found_above_after, bound_key, holds_weaker}
use Rattle.dq_sql.proofs.row_reader.rows_above_after.Goals as goal

pub returns-clause-found : goal.returns-clause-found
returns-clause-found g c clean =
    let after = option_copied c.args.page.after in
    let shown = rw (c.to_sql.ensures, c.from.ensures, c.number.ensures, c.key_or_number.ensures, bound_key after, c.in_ok-limit.ensures) at (c.in_ok-answer.ensures.shown clean) in
    let found = found_above_after (state g.S.Store c.args.conn.now) (state g.S.Store c.answered.new.conn) c.args.kind c.args.institution.now c.in_ok-answer.answer.items c.args.above.now after c.args.page.most shown in
    IfOk-weaker c.rows_shown.result _ _ (λ it e. holds_weaker _ _ _ (λ rows h. (rw c.as_slice.ensures.value at e) ∙ h) found) c.rows_shown.ensures
