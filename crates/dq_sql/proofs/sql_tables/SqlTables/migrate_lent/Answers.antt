use Rattle.std.proofs.Common.{◌∙◌, sym, subst}
use Rattle.sqlite.specs.State.{HasCleanDisk}
use Rattle.sqlite.specs.Held.{state}
use Rattle.dq_sql.specs.FirstRows.{IsFilled}
use Rattle.dq_sql.specs.KeptRows.{MayLeave}
use Rattle.dq_sql.specs.Migration.{IsMigrated}
use Rattle.dq_sql.proofs.KeptRows.{filled_keeps, filled_settled}
use Rattle.dq_sql.proofs.Migrations.{not_filled}
use Rattle.dq_sql.proofs.sql_tables.SqlTables.migrate_lent.Goals as goal

pub over-requires-clause-keeps : goal.over-requires-clause-keeps
over-requires-clause-keeps g c clean =
    let s = state g.S.Store c.fill_store.new.conn in
    rw c.from_inner.ensures
    (filled_keeps s c.in-Ok.rows.items (λ trees opened left. g.met.S.Store.settled c.fill_store.new.conn.store trees opened left)
    c.in-Ok.ensures.sound (subst (IsFilled s) c.as_slice.ensures.value (c.in-Ok-fill_store.ensures.made clean)))

pub returns-in-Ok-fill_store-clause-settled : goal.returns-in-Ok-fill_store-clause-settled
returns-in-Ok-fill_store-clause-settled g c clean = record {
  only = λ r left.
      let s = state g.S.Store c.fill_store.new.conn in
      let early : HasCleanDisk s = subst (λ h. HasCleanDisk (state g.S.Store h)) c.over-in-Ok-fill_store.ensures.conn clean in
      let there : MayLeave s r = subst (λ h. MayLeave (state g.S.Store h) r) c.over-in-Ok-fill_store.ensures.conn left in
      filled_settled s c.as_slice.result.now (λ trees opened left. g.met.S.Store.settled c.fill_store.new.conn.store trees opened left)
      (c.in-Ok-fill_store.ensures.made early) r there
      ∙ sym (c.over-in-Ok-fill_store.ensures.rows ∙ c.from_inner.ensures ∙ sym c.as_slice.ensures.value);
}

pub returns-in-Err-fill_store-clause-unmade : goal.returns-in-Err-fill_store-clause-unmade
returns-in-Err-fill_store-clause-unmade g c =
    let old = state g.S.Store c.args.old.now in
    not_filled old (state g.S.Store c.rows_migrated.new.old) (state g.S.Store c.args.new) (state g.S.Store c.fill_store.new.conn) c.as_slice.result.now
    (λ clean. subst (IsMigrated old) (sym c.as_slice.ensures.value) (c.in-Ok.ensures.migrated clean))
    c.fill_store.ensures.survives c.fill_store.ensures.mode c.in-Err-fill_store.ensures.same

pub returns-in-Err-clause-told : goal.returns-in-Err-clause-told
returns-in-Err-clause-told g c clean nothing rest there never = c.in-Err.ensures.told clean rest there never

pub returns-in-Err-fill_store-clause-other : goal.returns-in-Err-fill_store-clause-other
returns-in-Err-fill_store-clause-other g c none = absurd (c.in-Ok.ensures.other none)
