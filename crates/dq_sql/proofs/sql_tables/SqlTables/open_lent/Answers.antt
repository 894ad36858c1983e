use Rattle.std.proofs.Common.{[], ◌∙◌, sym, subst}
use Rattle.sqlite.specs.State.{HasCleanDisk}
use Rattle.sqlite.specs.Held.{state}
use Rattle.dq_sql.specs.KeptRows.{MayLeave}
use Rattle.dq_sql.proofs.KeptRows.{no_rows_sound, filled_keeps, filled_settled}
use Rattle.dq_sql.proofs.Migrations.{unmade_itself}
use Rattle.dq_sql.proofs.sql_tables.SqlTables.open_lent.Goals as goal

pub returns-then-not-is_new_store-clause-refused : goal.returns-then-not-is_new_store-clause-refused
returns-then-not-is_new_store-clause-refused g c = unmade_itself (state g.S.Store c.args.conn) []

pub over-requires-clause-keeps : goal.over-requires-clause-keeps
over-requires-clause-keeps g c clean =
    let s = state g.S.Store c.fill_store.new.conn in
    rw (c.from_inner.ensures, c.new.ensures.items)
    (filled_keeps s [] (λ trees opened left. g.met.S.Store.settled c.fill_store.new.conn.store trees opened left) no_rows_sound (c.in-Ok.ensures.made clean))

pub returns-in-Ok-clause-settled : goal.returns-in-Ok-clause-settled
returns-in-Ok-clause-settled g c clean = record {
  only = λ r left.
      let s = state g.S.Store c.fill_store.new.conn in
      let early : HasCleanDisk s = subst (λ h. HasCleanDisk (state g.S.Store h)) c.over-in-Ok.ensures.conn clean in
      let there : MayLeave s r = subst (λ h. MayLeave (state g.S.Store h) r) c.over-in-Ok.ensures.conn left in
      filled_settled s [] (λ trees opened left. g.met.S.Store.settled c.fill_store.new.conn.store trees opened left) (c.in-Ok.ensures.made early) r there
      ∙ sym (c.over-in-Ok.ensures.rows ∙ c.from_inner.ensures ∙ c.new.ensures.items);
}
