use Rattle.std.proofs.Common.{◌≡◌, List, [], length, sym, ap, ◌∙◌, subst, inl}
use Rattle.dq_config.specs.declared.config.Institution.{Institution}
use Rattle.dq_core.specs.Slots.{AreHeld}
use Rattle.dq_core.specs.Runs.{IsRun}
use Rattle.dq_core.proofs.Running.{without-fault, without-err, with-fault}
use Rattle.dq_core.proofs.server.answer_history.Given.{Over}
use Rattle.dq_core.proofs.server.answer_history.Goals as goal

-- the configuration of the server
config : (g : Over) (c : goal.After-into_tables g) → c.over-server.result.institutions ≡ c.args.config
config g c = c.over-server.ensures.institutions ∙ c.in-Ok.ensures.config

ran : (g : Over) (c : goal.After-into_tables g) → (g.T.Tables.state c.into_tables.result).honest
    → IsRun c.args.config (g.T.Tables.state c.args.tables).rows c.args.events.items c.from_inner.result (g.T.Tables.state c.into_tables.result).rows
ran g c h = rw (c.into_tables.ensures, c.from_inner.ensures, ← config g c)
    (c.answer_all.ensures.ran (g.T.Tables.state c.args.tables).rows c.over-server.ensures.stands (rw c.into_tables.ensures at h))

pub over-server-requires-clause-none : goal.over-server-requires-clause-none
over-server-requires-clause-none g c = λ rows.
    subst (λ (institutions : List Institution). AreHeld institutions rows c.in-Ok.connections []) (sym c.in-Ok.ensures.config) (c.in-Ok.ensures.none rows)

pub returns-clause-ran : goal.returns-clause-ran
returns-clause-ran g c = ran g c

pub returns-clause-rows : goal.returns-clause-rows
returns-clause-rows g c = λ h n.
    let stands = without-fault _ c.answer_all.result c.err-fault.result c.err-fault.ensures.value n
    (c.answer_all.ensures.whole (g.T.Tables.state c.args.tables).rows c.over-server.ensures.stands (rw c.into_tables.ensures at h)) in
    rw (c.into_tables.ensures, ← config g c, ← c.answer_all.ensures.institutions) stands.keeps

pub returns-clause-answered : goal.returns-clause-answered
returns-clause-answered g c = λ n.
    ap length c.from_inner.ensures ∙ without-fault _ c.answer_all.result c.err-fault.result c.err-fault.ensures.value n c.answer_all.ensures.count

pub returns-clause-settled : goal.returns-clause-settled
returns-clause-settled g c = λ h n settled. rw c.into_tables.ensures (without-err c.answer_all.result c.err-fault.result c.err-fault.ensures.value n
    (c.answer_all.ensures.goes.settles (rw c.into_tables.ensures at h)) (rw c.over-server.ensures.tables settled))

pub returns-clause-crash : goal.returns-clause-crash
returns-clause-crash g c = λ h n settled r left.
    rw (c.from_inner.ensures, c.into_tables.ensures, ← config g c)
    (with-fault c.answer_all.result c.err-fault.result c.err-fault.ensures.value n
    (c.answer_all.ensures.crash (g.T.Tables.state c.args.tables).rows c.over-server.ensures.stands (rw c.into_tables.ensures at h))
    (rw c.over-server.ensures.tables settled) r (rw c.into_tables.ensures at left))

pub returns-clause-faulted : goal.returns-clause-faulted
returns-clause-faulted g c = λ h n. inl (rw (c.from_inner.ensures, ← config g c)
    (with-fault c.answer_all.result c.err-fault.result c.err-fault.ensures.value n
    (c.answer_all.ensures.faulted (g.T.Tables.state c.args.tables).rows c.over-server.ensures.stands (rw c.into_tables.ensures at h))))

pub returns-clause-was_honest : goal.returns-clause-was_honest
returns-clause-was_honest g c = λ h. subst (λ t. (g.T.Tables.state t).honest) c.over-server.ensures.tables
    (c.answer_all.ensures.goes.was_honest (subst (λ t. (g.T.Tables.state t).honest) c.into_tables.ensures h))
