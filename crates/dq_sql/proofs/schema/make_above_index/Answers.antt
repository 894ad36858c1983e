use Rattle.std.proofs.Common.{refl, sym, subst}
use Rattle.sqlite.specs.State.{KeepsCommit}
use Rattle.sqlite.specs.Held.{state}
use Rattle.dq_sql.proofs.NewStore.{executed, keeps_commit, keeps_itself, makes_index}
use Rattle.dq_sql.proofs.Texts.{above_text, above_is}
use Rattle.dq_sql.proofs.schema.make_above_index.Goals as goal

pub returns-clause-makes : goal.returns-clause-makes
returns-clause-makes g c clean =
    let old = state g.S.Store c.args.tx.now.conn.now in
    let new = state g.S.Store c.execute.new.self.conn.now in
    executed _ above_text old new c.execute.result c.execute.ensures.ended (c.execute.ensures.runs clean) (makes_index _ above_text _ above_is refl old new)

pub returns-clause-kept : goal.returns-clause-kept
returns-clause-kept g c clean =
    let old = state g.S.Store c.args.tx.now.conn.now in
    let new = state g.S.Store c.execute.new.self.conn.now in
    keeps_commit _ above_text old new c.execute.result c.execute.ensures.ended
    (λ same. subst (λ h. KeepsCommit old (state g.S.Store h)) (sym same) (keeps_itself old)) (c.execute.ensures.runs clean)
