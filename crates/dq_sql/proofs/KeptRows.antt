-- What tables over a connection keep after a call.
use Rattle.std.proofs.Common.{◌≡◌, ◌⊎◌, inl, inr, ℕ, List, [], false, Option, Result, Ok, Err, IfOk, IsTrue, sym, ap, subst, ◌∙◌, arith}
use Rattle.std.proofs.Math.Logic.{∥∥₁_elim, ∥∥₁_map}
use Rattle.std.specs.Coded.{Coded-set, coded_ℕ, coded_list, coded_option}
use Rattle.sqlite_trees.specs.Tree.{Trees}
use Rattle.sqlite.specs.Effect.{Database}
use Rattle.sqlite.specs.State.{State as Connected, HasCleanDisk, Survives}
use Rattle.dq_tables.specs.declared.row.Row.{Row}
use Rattle.dq_tables.specs.declared.change.Change.{Change}
use Rattle.dq_tables.specs.contracts.row.Row.{the_row}
use Rattle.dq_tables.specs.Rows.{after, operation_of, IsRising}
use Rattle.dq_tables.specs.Sound.{IsSound, ChangeFits}
use Rattle.dq_tables.proofs.Soundness.{change_sound}
use Rattle.dq_sql.specs.Tie.{HasRows, Stays}
use Rattle.dq_sql.specs.FirstRows.{IsFilled}
use Rattle.dq_sql.specs.RowReads.{HoldsOf}
use Rattle.dq_sql.specs.RowWrites.{IsMade, IsUndone, Commits}
use Rattle.dq_sql.specs.KeptRows.{KeepsSoundRows, MayLeave, under_schema}
use Rattle.dq_sql.specs.OneContent.{one_list}

pub rows_set : IsSet (List Row)
rows_set = Coded-set (coded_list the_row.coded)

pub numbers_set : IsSet ℕ
numbers_set = Coded-set coded_ℕ

pub row_set : IsSet (Option Row)
row_set = Coded-set (coded_option the_row.coded)

pub if_ok : {X E : Type 0} (r : Result X E) (P Q : X → Type 0) → ((x : X) → P x → Q x) → IfOk r P → IfOk r Q
if_ok (Ok x) P Q f h = f x h
if_ok (Err e) P Q f h = tt

-- what is kept of a connection
abbrev pub Kept : Connected → List Row → Type 0
Kept s rows = ∥ (HasCleanDisk s → KeepsSoundRows s rows) ∥₁

-- what was read of the rows that a connection has is so of the rows that are kept
pub found_in : {X : Type 0} → IsSet X → (s : Connected) (rows : List Row) (f : List Row → X) (x : X) → Kept s rows → HasCleanDisk s → HoldsOf s (λ r. x ≡ f r) → x ≡ f rows
found_in set s rows f x kept clean h = ∥∥₁_elim kept (set x (f rows)) (λ k. h.of_rows rows ((k clean).has h.is_open))

-- trees have the rows that they have under the schema
under : (d : Database) (rows : List Row) → HasRows d rows → HasRows (under_schema d.trees) rows
under d rows has = subst (λ s. let x : Database = record { schema = s; trees = d.trees } in HasRows x rows) has.version_is.schema has

module _ (old new : Connected) (rows : List Row) where
  -- a call that reads
  pub stays_kept : old.in_transaction ≡ false → Stays old new → Kept old rows → Kept new rows
  stays_kept alone stays kept = ∥∥₁_map kept (λ k clean.
      let before : HasCleanDisk old = omega (arith, stays.survives.clean) in
      let it = k before in
      let same = λ (opened : IsTrue new.is_open). stays.same clean opened (record { autocommit = alone; settled = it.settled }) in
      record {
        sound = it.sound;
        has = λ opened. subst (λ d. HasRows d rows) (sym (same opened).now) (it.has (same opened).was_open);
        settled = λ opened. (same opened).now ∙ it.settled (same opened).was_open ∙ sym (same opened).committed;
        left = λ trees left. elim (stays.survives.crash clean trees left) [ inl was ↦ it.left trees was | inr none ↦ absurd none ];
      })

  module _ (change : Change) where
    abbrev changed : List Row
    changed = after (operation_of change) rows

    -- a change that was made
    pub made_kept : HasCleanDisk old → (Settled : (trees : Trees) → IsTrue new.is_open → new.may_leave trees → trees ≡ new.committed.trees)
        → ChangeFits rows change → IsMade old new change → KeepsSoundRows old rows → KeepsSoundRows new changed
    made_kept clean settled fits made it =
        let has = made.made rows (it.has made.was_open) fits in
        let sound = change_sound rows change it.sound fits in
        record {
          sound = sound;
          has = λ opened. has;
          settled = λ opened. sym made.committed;
          left = λ trees left.
              let is : new.now.trees ≡ trees = sym (settled trees made.is_open left ∙ ap (λ (d : Database). d.trees) made.committed) in
              record { rows = changed; has = subst (λ t. HasRows (under_schema t) changed) is (under new.now changed has); sound = sound };
        }

    -- where a change was made a crash leaves its rows and no others
    pub made_settles : (Settled : (trees : Trees) → IsTrue new.is_open → new.may_leave trees → trees ≡ new.committed.trees)
        → ChangeFits rows change → IsMade old new change → KeepsSoundRows old rows → (r : List Row) → MayLeave new r → r ≡ changed
    made_settles settled fits made it r left =
        let has = made.made rows (it.has made.was_open) fits in
        let is : left.trees ≡ new.now.trees = settled left.trees made.is_open left.left ∙ ap (λ (d : Database). d.trees) made.committed in
        one_list (under_schema new.now.trees) r changed (subst (λ t. HasRows (under_schema t) r) is left.has) (under new.now changed has)

    -- the rows of what a change would have committed
    committed_rows : (trees : Trees) → ChangeFits rows change → KeepsSoundRows old rows → Commits old change trees → HasRows (under_schema trees) changed
    committed_rows trees fits it commits =
        subst (λ t. HasRows (under_schema t) changed) (sym commits.is) (under commits.after changed (commits.made rows (it.has commits.was_open) fits))

    -- a change that was not made
    pub undone_kept : HasCleanDisk new → ChangeFits rows change → (IsTrue new.is_open → IsUndone old new) → Survives old new (Commits old change) → KeepsSoundRows old rows → KeepsSoundRows new rows
    undone_kept clean fits undone survives it =
        record {
          sound = it.sound;
          has = λ opened. let back = undone opened in subst (λ d. HasRows d rows) (it.settled back.was_open ∙ sym back.now) (it.has back.was_open);
          settled = λ opened. (undone opened).now ∙ sym (undone opened).committed;
          left = λ trees left. elim (survives.crash clean trees left) [
            | inl was ↦ it.left trees was
            | inr commits ↦ record { rows = changed; has = committed_rows trees fits it commits; sound = change_sound rows change it.sound fits }
          ];
        }

    -- then a crash leaves what it could leave before, or the rows with the change
    pub undone_leaves : HasCleanDisk new → Kept old rows → (HasCleanDisk old → ChangeFits rows change) → Survives old new (Commits old change)
        → (r : List Row) → MayLeave new r → MayLeave old r ⊎ (r ≡ changed)
    undone_leaves clean kept fits survives r left =
        let before : HasCleanDisk old = omega (arith, survives.clean) in
        elim (survives.crash clean left.trees left.left) [
          | inl was ↦ inl (record { trees = left.trees; left = was; has = left.has })
          | inr commits ↦ inr (∥∥₁_elim kept (rows_set r changed) (λ k.
              one_list (under_schema left.trees) r changed left.has (committed_rows left.trees (fits before) (k before) commits)))
        ]

pub no_rows_sound : IsSound []
unfolding IsRising
no_rows_sound = record { rising = tt; own = tt; held = tt }

-- a store that was filled keeps its rows
pub filled_keeps : (s : Connected) (rows : List Row) → ((trees : Trees) → IsTrue s.is_open → s.may_leave trees → trees ≡ s.committed.trees)
    → IsSound rows → IsFilled s rows → KeepsSoundRows s rows
filled_keeps s rows settled sound filled = record {
  sound = sound;
  has = λ opened. filled.has;
  settled = λ opened. filled.settled;
  left = λ trees left.
      let is : s.now.trees ≡ trees = sym (settled trees filled.is_open left ∙ ap (λ (d : Database). d.trees) (sym filled.settled)) in
      record { rows = rows; has = subst (λ t. HasRows (under_schema t) rows) is (under s.now rows filled.has); sound = sound };
}

-- and a crash leaves them
pub filled_settled : (s : Connected) (rows : List Row) → ((trees : Trees) → IsTrue s.is_open → s.may_leave trees → trees ≡ s.committed.trees)
    → IsFilled s rows → (r : List Row) → MayLeave s r → r ≡ rows
filled_settled s rows settled filled r left =
    let is : left.trees ≡ s.now.trees = settled left.trees filled.is_open left.left ∙ ap (λ (d : Database). d.trees) (sym filled.settled) in
    one_list (under_schema s.now.trees) r rows (subst (λ t. HasRows (under_schema t) r) is left.has) (under s.now rows filled.has)
