-- A database has at most one list of rows.
use Rattle.std.proofs.Common.{◌≡◌, List, subst}
use Rattle.std.proofs.Math.Logic.{∥∥₁_elim}
use Rattle.std.proofs.lemmas.List.Sorted.{IsPermutation-sym, IsPermutation-trans}
use Rattle.sqlite.specs.Effect.{Database}
use Rattle.sqlite.specs.State.{State, HasCleanDisk}
use Rattle.dq_tables.specs.declared.row.Row.{Row}
use Rattle.dq_tables.specs.Sound.{IsSound, IsRising-prop, OwnEach-prop, HeldEach-prop}
use Rattle.dq_tables.proofs.OneOrder.{one_order}
use Rattle.dq_sql.specs.Tie.{HasRows}
use Rattle.dq_sql.specs.KeptRows.{KeepsSoundRows, MayLeave}

IsSound-prop : (rows : List Row) → IsProp (IsSound rows)
IsSound-prop rows = hlevel (IsRising-prop rows, OwnEach-prop rows, HeldEach-prop rows rows)

-- a database has one list of rows
pub one_list : (d : Database) (xs ys : List Row) → HasRows d xs → HasRows d ys → xs ≡ ys
one_list d xs ys p q =
    one_order xs ys p.table.rising q.table.rising
    (IsPermutation-trans _ _ _ (IsPermutation-sym _ _ p.table.same) q.table.same)

module _ (s : State) (rows : List Row) (keeps : ∥ (HasCleanDisk s → KeepsSoundRows s rows) ∥₁) where
  pub kept_sound : HasCleanDisk s → IsSound rows
  kept_sound clean = ∥∥₁_elim keeps (IsSound-prop rows) (λ k. (k clean).sound)

  pub left_sound : HasCleanDisk s → (r : List Row) → MayLeave s r → IsSound r
  left_sound clean r left =
      ∥∥₁_elim keeps (IsSound-prop r) (λ k.
      let it = (k clean).left left.trees left.left in
      subst IsSound (one_list _ it.rows r it.has left.has) it.sound)
