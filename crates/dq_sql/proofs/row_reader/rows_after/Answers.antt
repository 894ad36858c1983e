use Rattle.std.proofs.Common.{◌∙◌}
use Rattle.std.proofs.lemmas.Result.{IfOk-weaker}
use Rattle.sqlite.specs.Held.{state}
use Rattle.dq_sql.proofs.ReadRows.{found_after, holds_weaker}
use Rattle.dq_sql.proofs.row_reader.rows_after.Goals as goal

pub returns-clause-found : goal.returns-clause-found
returns-clause-found g c clean =
    let shown = rw (c.to_sql.ensures, c.from.ensures, c.number.ensures, c.in_ok-limit.ensures) at (c.in_ok-answer.ensures.shown clean) in
    let found = found_after (state g.S.Store c.args.conn.now) (state g.S.Store c.answered.new.conn) c.args.kind c.args.institution.now c.in_ok-answer.answer.items c.args.key.now c.args.most shown in
    IfOk-weaker c.rows_shown.result _ _ (λ it e. holds_weaker _ _ _ (λ rows h. (rw c.as_slice.ensures.value at e) ∙ h) found) c.rows_shown.ensures
