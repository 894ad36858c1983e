-- A query whose rows are read in turn shows what it would show at once, and leaves what the store holds.
use Rattle.std.proofs.Common.{◌≡◌, ◌⊎◌, inl, inr, ℕ, List, [], Result, Ok, Err, Option, None, IfOk, IfErr, OnOk, OnErr, IsTrue, false, sym, subst}
use Rattle.std.specs.Borrow.{Bor}
use Rattle.sqlite_value.specs.Order.{Row as Values}
use Rattle.sqlite_trees.specs.declared.store.Store.{Ghosts}
use Rattle.sqlite_resolve.specs.declared.compiled.Compiled.{Compiled}
use Rattle.sqlite_resolve.specs.declared.error.CompileError.{CompileError}
use Rattle.sqlite.specs.declared.error.Error.{Error}
use Rattle.sqlite.specs.declared.rows.stream.Rows.{Rows}
use Rattle.sqlite.specs.Effect.{Database}
use Rattle.sqlite.specs.Clock.{timed}
use Rattle.sqlite.specs.Listing.{understood, reads_listing, IsSourceOf}
use Rattle.sqlite.specs.State.{State, HasCleanDisk, IsStatement, IsUnchanged, Fails, Survives, Shown, ShowsRows, CommitsShowing}
use Rattle.sqlite.specs.Held.{Held, state}
use Rattle.sqlite.specs.Given.{HasGiven, HasBegun, Returns, IsRefused}
use Rattle.sqlite.specs.Next.{HasMoved}
use Rattle.sqlite.proofs.Callers.{unchanged_then}
use Rattle.sqlite.proofs.StateLemmas.{survives_weaker}
use Rattle.dq_sql.specs.Tie.{IsAtRest, IsSame, Stays}
use Rattle.dq_sql.specs.RowReads.{ShowsNoWrite}
use Rattle.dq_sql.proofs.ReadOnlyQueries.{unchanged_same, fails_same, failed_stays, commits_none, shows_none}

module _ (sql : List ℕ) (params : Values) (old mid new : State) (silent : ShowsNoWrite sql) (same : IsUnchanged old mid) where
  -- What is shown from a state that is as before is shown from before.
  pub shown_from : (rows : List Values) → Shown sql params mid new rows → Shown sql params old new rows
  unfolding Shown
  shown_from rows h =
      let none = shows_none sql params mid new silent h.0 h.1 in
      let full = timed params h.0.formats h.1.now in
      let it = subst (ShowsRows mid new sql h.0 full rows) none h.2 in
      let now = same.0.now_is in (
        h.0,
        record { is = subst (λ (d : Database). understood d.schema sql ≡ Ok h.0) now h.1.is; whole = h.1.whole; given = h.1.given; now = h.1.now },
        subst (ShowsRows old new sql h.0 full rows) (sym none)
            (it.0, subst (λ (d : Database). IsSourceOf (reads_listing d.schema sql) d it.0) now it.1, it.2, unchanged_then old mid new same it.3),
      )

returns_none : (r : Result Compiled CompileError) → IfOk r (λ c. c.returning ≡ None) → ¬ Returns r
returns_none (Ok c) none some = absurd (let it = rw none at some in cc)
returns_none (Err e) none some = some

-- A query that shows no rows of a write has given none as it begins.
pub begun_silent : {S : Type 0} (g : Ghosts S) (sql : List ℕ) (params : Values) (old new : Held S) → ShowsNoWrite sql → HasBegun g sql params old new
    → HasGiven g sql params new [] × IsUnchanged (state g old) (state g new)
begun_silent g sql params old new silent (inl h) = h
begun_silent g sql params old new silent (inr h) = absurd (returns_none (understood old.schema sql) (silent old.schema) h.0)

pub begun_stays : (sql : List ℕ) (params : Values) (old new : State) → ShowsNoWrite sql → Survives old new (CommitsShowing sql params old)
    → (old.in_transaction ≡ false → new.in_transaction ≡ false) → (HasCleanDisk new → IsUnchanged old new) → Stays old new
begun_stays sql params old new silent kept mode same = record {
  survives = survives_weaker old new _ _ (λ _ db. commits_none sql params old new silent db) kept;
  mode = mode;
  same = λ clean live rest. unchanged_same old new (same clean);
}

pub refused_stays : {S X : Type 0} (g : Ghosts S) (sql : List ℕ) (params : Values) (old : Held S) (result : Result X Error) (e : Error) (new : Held S) → ShowsNoWrite sql
    → result ≡ Err e → OnErr result (IsRefused g sql params old result new) → Stays (state g old) (state g new)
refused_stays g sql params old (Ok x) e new silent same h = absurd (cc)
refused_stays g sql params old (Err f) e new silent same h = failed_stays sql params (state g old) (state g new) silent f h.survives h.mode h.err
