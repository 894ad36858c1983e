use Rattle.std.proofs.Common.{◌∙◌, sym, subst, map}
use Rattle.sqlite.specs.State.{HasCleanDisk}
use Rattle.sqlite.specs.Held.{state}
use Rattle.dq_sql.specs.StoreCopies.{IsCopyOf}
use Rattle.dq_sql.specs.FirstRows.{IsFilled}
use Rattle.dq_sql.specs.KeptRows.{MayLeave}
use Rattle.dq_sql.proofs.KeptRows.{filled_keeps, filled_settled}
use Rattle.dq_sql.proofs.CopiedStore.{not_filled}
use Rattle.dq_sql.proofs.sql_tables.SqlTables.copy_lent.Goals as goal

pub over-tables-requires-clause-keeps : goal.over-tables-requires-clause-keeps
over-tables-requires-clause-keeps g c clean =
    let s = state g.S.Store c.fill_store.new.conn in
    rw c.from_inner.ensures
    (filled_keeps s c.in-Ok.rows.items (λ trees opened left. g.met.S.Store.settled c.fill_store.new.conn.store trees opened left)
    c.in-Ok.ensures.sound (subst (IsFilled s) c.as_slice.ensures.value (c.in-Ok-fill_store.ensures.made clean)))

pub returns-in-Ok-fill_store-clause-settled : goal.returns-in-Ok-fill_store-clause-settled
returns-in-Ok-fill_store-clause-settled g c clean = record {
  only = λ r left.
      let s = state g.S.Store c.fill_store.new.conn in
      let early : HasCleanDisk s = subst (λ h. HasCleanDisk (state g.S.Store h)) c.over-tables.ensures.conn clean in
      let there : MayLeave s r = subst (λ h. MayLeave (state g.S.Store h) r) c.over-tables.ensures.conn left in
      filled_settled s c.as_slice.result.now (λ trees opened left. g.met.S.Store.settled c.fill_store.new.conn.store trees opened left)
      (c.in-Ok-fill_store.ensures.made early) r there
      ∙ sym (c.over-tables.ensures.rows ∙ c.from_inner.ensures ∙ sym c.as_slice.ensures.value);
}

pub returns-in-Err-fill_store-clause-unmade : goal.returns-in-Err-fill_store-clause-unmade
returns-in-Err-fill_store-clause-unmade g c =
    let old = state g.S.Store c.args.old.now in
    let names = map (λ name. name.now) c.args.names.now in
    not_filled names old (state g.S.Store c.rows_copied.new.old) (state g.S.Store c.args.new) (state g.S.Store c.fill_store.new.conn) c.as_slice.result.now
    (λ clean. subst (IsCopyOf names old) (sym c.as_slice.ensures.value) (c.in-Ok.ensures.copied clean))
    c.fill_store.ensures.survives c.fill_store.ensures.mode c.in-Err-fill_store.ensures.same

pub returns-in-Err-fill_store-clause-other : goal.returns-in-Err-fill_store-clause-other
returns-in-Err-fill_store-clause-other g c = λ none. absurd (c.in-Ok.ensures.other none)
