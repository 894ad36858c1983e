use Rattle.std.proofs.lemmas.Result.{IfOk-weaker}
use Rattle.sqlite.specs.Held.{state}
use Rattle.dq_sql.proofs.ReadRows.{shows_versions}
use Rattle.dq_sql.proofs.row_reader.versions_read.Goals as goal

pub returns-clause-found : goal.returns-clause-found
returns-clause-found g c clean =
    IfOk-weaker c.answered.result _ _ (λ answer. shows_versions (state g.S.Store c.args.conn.now) (state g.S.Store c.answered.new.conn) answer.items) (c.answered.ensures.shown clean)
