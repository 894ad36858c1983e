use Rattle.std.proofs.Common.{Err, ◌∙◌, sym, ap, subst, arith}
use Rattle.sqlite.specs.State.{HasCleanDisk}
use Rattle.sqlite.specs.Held.{state}
use Rattle.dq_sql.specs.KeptRows.{MayLeave}
use Rattle.dq_sql.specs.OneContent.{one_list}
use Rattle.dq_sql.specs.declared.version.Version.TheVariants.{Two}
use Rattle.dq_sql.proofs.AdoptedStores.{found_keeps, found_settled, another_is_not}
use Rattle.dq_sql.proofs.Restarts.{found_again}
use Rattle.dq_sql.proofs.sql_tables.SqlTables.adopt_lent.Goals as goal

pub over-requires-clause-keeps : goal.over-requires-clause-keeps
over-requires-clause-keeps g c clean =
    let old = state g.S.Store c.args.conn in
    let new = state g.S.Store c.kept_rows.new.conn in
    rw c.from_inner.ensures (found_keeps old new c.in-Ok.rows.items
    (λ trees live left. g.met.S.Store.settled c.args.conn.store trees live left) (c.in-Ok.ensures.found clean) c.kept_rows.ensures.stays clean)

pub returns-in-Ok-clause-settled : goal.returns-in-Ok-clause-settled
returns-in-Ok-clause-settled g c clean = record {
  only = λ r left.
      let old = state g.S.Store c.args.conn in
      let new = state g.S.Store c.kept_rows.new.conn in
      let early : HasCleanDisk new = subst (λ h. HasCleanDisk (state g.S.Store h)) c.over-in-Ok.ensures.conn clean in
      let there : MayLeave new r = subst (λ h. MayLeave (state g.S.Store h) r) c.over-in-Ok.ensures.conn left in
      found_settled old new c.in-Ok.rows.items (λ trees live left. g.met.S.Store.settled c.args.conn.store trees live left)
      (c.in-Ok.ensures.found early) c.kept_rows.ensures.stays early r there
      ∙ sym (c.over-in-Ok.ensures.rows ∙ c.from_inner.ensures);
}

pub returns-in-Ok-clause-again : goal.returns-in-Ok-clause-again
returns-in-Ok-clause-again g c rows it clean =
    let old = state g.S.Store c.args.conn in
    let early : HasCleanDisk (state g.S.Store c.kept_rows.new.conn) = subst (λ h. HasCleanDisk (state g.S.Store h)) c.over-in-Ok.ensures.conn clean in
    c.over-in-Ok.ensures.rows ∙ c.from_inner.ensures
    ∙ one_list old.now c.in-Ok.rows.items rows (c.in-Ok.ensures.found early).has (found_again old rows c.kept_rows.ensures.live it)

pub returns-in-Err-clause-welcome : goal.returns-in-Err-clause-welcome
returns-in-Err-clause-welcome g c rows it clean =
    let has = found_again (state g.S.Store c.args.conn) rows c.kept_rows.ensures.live it in
    (λ is. another_is_not Two _ _ (c.in-Err.ensures.wrong clean (ap Err is)) has.version_is, λ is. c.in-Err.ensures.bad clean (ap Err is) rows has it.sound)

pub returns-in-Ok-clause-honest : goal.returns-in-Ok-clause-honest
returns-in-Ok-clause-honest g c clean =
    let early : HasCleanDisk (state g.S.Store c.kept_rows.new.conn) = subst (λ h. HasCleanDisk (state g.S.Store h)) c.over-in-Ok.ensures.conn clean in
    omega (arith, c.kept_rows.ensures.stays.survives.clean)

pub returns-in-Err-clause-told : goal.returns-in-Err-clause-told
returns-in-Err-clause-told g c rest there never clean = c.in-Err.ensures.told clean rest there never
