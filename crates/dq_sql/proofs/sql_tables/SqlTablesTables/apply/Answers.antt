use Rattle.std.proofs.Common.{inl, refl, sym, ◌∙◌, arith}
use Rattle.std.proofs.Math.Logic.{∥∥₁_elim, ∥∥₁_map}
use Rattle.sqlite.specs.State.{HasCleanDisk}
use Rattle.sqlite.specs.Held.{state}
use Rattle.dq_tables.specs.Rows.{after, operation_of}
use Rattle.dq_sql.proofs.KeptRows.{rows_set, made_kept, made_settles, undone_kept, undone_leaves}
use Rattle.dq_sql.proofs.sql_tables.SqlTablesTables.apply.Goals as goal

pub invariant_of-self : goal.invariant_of-self
invariant_of-self g c =
    let it = c.args.self.now in
    let old = state g.S.Store it.conn in
    let new = state g.S.Store c.commit.new.conn in
    record {
      alone = c.commit.ensures.mode;
      keeps = rw c.then-self.ensures (∥∥₁_map it.keeps (λ k clean.
          let before : HasCleanDisk old = omega (arith, c.commit.ensures.survives.clean) in
          made_kept old new it.history.rows c.args.change.now before (λ trees opened left. g.met.S.Store.settled c.commit.new.conn.store trees opened left)
          (c.requires before) (c.in-Ok.ensures.done clean) (k before)));
    }

pub invariant_of-self-in-Err : goal.invariant_of-self-in-Err
invariant_of-self-in-Err g c =
    let it = c.args.self.now in
    let old = state g.S.Store it.conn in
    let new = state g.S.Store c.commit.new.conn in
    record {
      alone = c.commit.ensures.mode;
      keeps = ∥∥₁_map it.keeps (λ k clean.
          let before : HasCleanDisk old = omega (arith, c.commit.ensures.survives.clean) in
          undone_kept old new it.history.rows c.args.change.now clean (c.requires before) (λ opened. c.in-Err.ensures.stays clean opened)
          c.commit.ensures.survives (k before));
    }

pub returns-in-Ok : goal.returns-in-Ok
returns-in-Ok g c =
    let it = c.args.self.now in
    let old = state g.S.Store it.conn in
    let new = state g.S.Store c.commit.new.conn in
    let changed = after (operation_of c.args.change.now) it.history.rows in
    record {
      goes = record { was_honest = λ clean. omega (arith, c.commit.ensures.survives.clean); told = λ e. absurd cc; untold = λ f. inl f; lasts = λ f. f };
      done = λ clean. c.then-self.ensures;
      same = λ clean. tt;
      settles = λ clean.
          let before : HasCleanDisk old = omega (arith, c.commit.ensures.survives.clean) in
          record {
            only = λ r left. ∥∥₁_elim it.keeps (rows_set r changed) (λ k.
                made_settles old new it.history.rows c.args.change.now (λ trees opened left. g.met.S.Store.settled c.commit.new.conn.store trees opened left)
                (c.requires before) (c.in-Ok.ensures.done clean) (k before) r left) ∙ sym c.then-self.ensures;
          };
      crash = λ clean. tt;
    }

pub returns-in-Err : goal.returns-in-Err
returns-in-Err g c =
    let it = c.args.self.now in
    let old = state g.S.Store it.conn in
    let new = state g.S.Store c.commit.new.conn in
    rw c.noted.ensures.same (record {
      goes = record { was_honest = λ clean. omega (arith, c.commit.ensures.survives.clean); told = c.noted.ensures.told; untold = c.noted.ensures.untold; lasts = c.noted.ensures.lasts };
      done = λ clean. tt;
      same = λ clean. refl;
      settles = λ clean. tt;
      crash = λ clean r left. undone_leaves old new it.history.rows c.args.change.now clean it.keeps c.requires c.commit.ensures.survives r left;
    })
