use Rattle.std.proofs.Common.{◌∙◌, subst, arith}
use Rattle.sqlite.specs.State.{HasCleanDisk}
use Rattle.sqlite.specs.Held.{state}
use Rattle.dq_sql.specs.FirstRows.{IsFilled, IsNotMade}
use Rattle.dq_sql.proofs.KeptRows.{stays_kept}
use Rattle.dq_sql.proofs.CopiedTables.{same_rows, not_made}
use Rattle.dq_sql.proofs.sql_tables.SqlTables.copy_to.Goals as goal

pub invariant_of-self : goal.invariant_of-self
invariant_of-self g c =
    let it = c.args.self.now in
    let old = state g.S.Store it.conn in
    let new = state g.S.Store c.kept_rows.new.conn in
    let stays = c.kept_rows.ensures.stays in
    record {
      alone = stays.mode it.alone;
      keeps = stays_kept old new it.history.rows it.alone stays it.keeps;
    }

pub returns-in-Ok-fill_store-clause-made : goal.returns-in-Ok-fill_store-clause-made
returns-in-Ok-fill_store-clause-made g c clean after =
    let it = c.args.self.now in
    let old = state g.S.Store it.conn in
    let before : HasCleanDisk old = omega (arith, c.kept_rows.ensures.stays.survives.clean) in
    let same = same_rows old c.in-Ok.rows.items it.history.rows it.keeps before (c.in-Ok.ensures.found clean) in
    subst (IsFilled (state g.S.Store c.fill_store.new.conn)) (c.as_slice.ensures.value ∙ same) (c.in-Ok-fill_store.ensures.made after)

pub returns-clause-refused : goal.returns-clause-refused
returns-clause-refused g c clean =
    let it = c.args.self.now in
    let old = state g.S.Store it.conn in
    let before : HasCleanDisk old = omega (arith, c.kept_rows.ensures.stays.survives.clean) in
    let same = same_rows old c.in-Ok.rows.items it.history.rows it.keeps before (c.in-Ok.ensures.found clean) in
    let new = state g.S.Store c.args.new in
    let left = state g.S.Store c.fill_store.new.conn in
    subst (IsNotMade new left) (c.as_slice.ensures.value ∙ same)
    (not_made new left c.as_slice.result.now c.fill_store.ensures.survives c.fill_store.ensures.mode c.in-Err-fill_store.ensures.same)
