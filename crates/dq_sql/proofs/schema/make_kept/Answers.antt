use Rattle.std.proofs.Common.{sym, subst}
use Rattle.sqlite.specs.State.{KeepsCommit}
use Rattle.sqlite.specs.Held.{state}
use Rattle.dq_sql.proofs.NewStore.{executed, keeps_commit, keeps_itself, makes_kept}
use Rattle.dq_sql.proofs.Texts.{kept_text}
use Rattle.dq_sql.proofs.schema.make_kept.Goals as goal

pub returns-clause-makes : goal.returns-clause-makes
returns-clause-makes g c clean =
    let old = state g.S.Store c.args.tx.now.conn.now in
    let new = state g.S.Store c.execute.new.self.conn.now in
    executed _ kept_text old new c.execute.result c.execute.ensures.ended (c.execute.ensures.runs clean) (makes_kept old new)

pub returns-clause-kept : goal.returns-clause-kept
returns-clause-kept g c clean =
    let old = state g.S.Store c.args.tx.now.conn.now in
    let new = state g.S.Store c.execute.new.self.conn.now in
    keeps_commit _ kept_text old new c.execute.result c.execute.ensures.ended
    (λ same. subst (λ h. KeepsCommit old (state g.S.Store h)) (sym same) (keeps_itself old)) (c.execute.ensures.runs clean)
