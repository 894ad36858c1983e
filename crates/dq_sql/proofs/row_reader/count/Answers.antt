use Rattle.std.proofs.lemmas.Result.{IfOk-weaker}
use Rattle.sqlite.specs.Held.{state}
use Rattle.dq_sql.proofs.ReadRows.{counted_of}
use Rattle.dq_sql.proofs.row_reader.count.Goals as goal

pub returns-clause-found : goal.returns-clause-found
returns-clause-found g c clean =
    let shown = rw (c.to_sql.ensures, c.from.ensures, c.number.ensures) at (c.in_ok-answer.ensures.shown clean) in
    IfOk-weaker c.count_shown.result _ _ (λ number e.
    counted_of (state g.S.Store c.args.conn.now) (state g.S.Store c.answered.new.conn) c.args.kind c.args.institution.now c.in_ok-answer.answer.items number shown
    (rw c.as_slice.ensures.value at e)) c.count_shown.ensures
