-- A query that shows no rows of a write leaves what the store holds.
use Rattle.std.proofs.Common.{◌≡◌, inl, inr, ℕ, List, None, IfOk, IsTrue, false, refl, sym, subst, ◌∙◌, arith}
use Rattle.sqlite_value.specs.Order.{Row as Values}
use Rattle.sqlite_trees.specs.Tree.{Trees}
use Rattle.sqlite_resolve.specs.declared.compiled.Compiled.{Compiled}
use Rattle.sqlite.specs.declared.error.Error.{Error}
use Rattle.sqlite.specs.State.{State, HasCleanDisk, IsStatement, IsUnchanged, IsRolledBack, Fails, Survives, Shown, FailsToQuery, IsNotRun, CommitsShowing}
use Rattle.sqlite.proofs.StateLemmas.{survives_weaker, survives_then}
use Rattle.dq_tables.specs.declared.row.Row.{Row}
use Rattle.dq_sql.specs.Tie.{IsAtRest, IsSame, Stays, HasRows}
use Rattle.dq_sql.specs.RowReads.{ShowsNoWrite, ShowsSame, HoldsOf}

pub unchanged_same : (old new : State) → IsUnchanged old new → IsSame old new
unchanged_same old new h = record { was_open = h.0.was_open; now = h.0.now_is; committed = h.0.committed_is }

pub rolled_same : (old new : State) → IsRolledBack old new → IsTrue new.is_open → IsAtRest old → IsSame old new
rolled_same old new h live rest = record {
  was_open = h.was_open live;
  now = (h.undone live).0 ∙ sym (rest.settled (h.was_open live));
  committed = (h.undone live).1;
}

pub fails_same : (old new : State) (too_big : Type 0) (e : Error) → Fails old new too_big e → IsTrue new.is_open → IsAtRest old → IsSame old new
fails_same old new too_big e h = rolled_same old new h.3

module _ (sql : List ℕ) (params : Values) (old new : State) (silent : ShowsNoWrite sql) where
  pub shows_none : (c : Compiled) → IsStatement old sql params c → c.returning ≡ None
  shows_none c it = subst (λ r. IfOk r (λ c. c.returning ≡ None)) it.is (silent old.now.schema)

  pub commits_none : (db : Trees) → ¬ CommitsShowing sql params old db
  unfolding CommitsShowing
  commits_none db h = absurd (let some = rw (shows_none h.0 h.1) at h.2 in cc)

  pub shown_unchanged : (rows : List Values) → Shown sql params old new rows → IsUnchanged old new
  unfolding Shown
  shown_unchanged rows h = (rw (shows_none h.0 h.1) at h.2).3

  not_run_same : (e : Error) → IsNotRun old new sql params e → IsTrue new.is_open → IsAtRest old → IsSame old new
  unfolding IsNotRun
  not_run_same e (inl h) live rest = unchanged_same old new h.1
  not_run_same e (inr h) live rest = fails_same old new _ e h live rest

  failed_same : (e : Error) → FailsToQuery sql params old new e → IsTrue new.is_open → IsAtRest old → IsSame old new
  unfolding FailsToQuery
  failed_same e (inl h) live rest = not_run_same e h live rest
  failed_same e (inr h) live rest =
      let it = rw (shows_none h.0 h.1) at h.2 in unchanged_same old new it.3

  pub shown_stays : (rows : List Values) → Survives old new (CommitsShowing sql params old) → (old.in_transaction ≡ false → new.in_transaction ≡ false)
      → (HasCleanDisk new → Shown sql params old new rows) → Stays old new
  shown_stays rows kept mode ok = record {
    survives = survives_weaker old new _ _ (λ _ db. commits_none db) kept;
    mode = mode;
    same = λ clean live rest. unchanged_same old new (shown_unchanged rows (ok clean));
  }

  pub failed_stays : (e : Error) → Survives old new (CommitsShowing sql params old) → (old.in_transaction ≡ false → new.in_transaction ≡ false)
      → (HasCleanDisk new → FailsToQuery sql params old new e) → Stays old new
  failed_stays e kept mode err = record {
    survives = survives_weaker old new _ _ (λ _ db. commits_none db) kept;
    mode = mode;
    same = λ clean live rest. failed_same e (err clean) live rest;
  }

-- ---- calls in turn

pub shows_same : (old new : State) → IsUnchanged old new → ShowsSame old new
shows_same old new h = record { was_open = λ live. h.0.was_open; now = h.0.now_is }

pub holds_before : (a b : State) (P : List Row → Type 0) → ShowsSame a b → HoldsOf b P → HoldsOf a P
holds_before a b P same h = record {
  is_open = same.was_open h.is_open;
  of_rows = λ rows has. h.of_rows rows (subst (λ d. HasRows d rows) (sym same.now) has);
}
