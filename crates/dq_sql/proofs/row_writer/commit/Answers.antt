use Rattle.std.proofs.Common.{◌≡◌, IsTrue, Result, Ok, Err, OnOk, IfErr, [], false, inl, inr, refl, sym, subst, arith, rules, ◌∙◌}
use Rattle.std.proofs.lemmas.Bool.{false≢true}
use Rattle.sqlite.specs.State.{State, HasCleanDisk, Shows, KeepsCounts}
use Rattle.sqlite.specs.Steps.{FailsToCommit}
use Rattle.sqlite.specs.declared.error.Error.{Error}
use Rattle.sqlite.specs.Held.{state}
use Rattle.sqlite.proofs.StateLemmas.{survives_then}
use Rattle.sqlite.proofs.Callers.{survives_begin}
use Rattle.sqlite.specs.Effect.{Database}
use Rattle.dq_sql.specs.RowWrites.{MakesChange, Commits, IsMade, IsUndone}
use Rattle.dq_sql.proofs.row_writer.commit.Goals as goal

-- what a commit that succeeds shows
shown_by : (r : Result (Unit {0}) Error) (x : Unit {0}) (mid new : State) → r ≡ Ok x
    → OnOk r (IsTrue mid.in_transaction × Shows mid new mid.now mid.now false × KeepsCounts mid new × (new.marks ≡ [])) → Shows mid new mid.now mid.now false
shown_by r x mid new is told = (rw is at told).1

-- a transaction that is open and fails to commit leaves what was committed
undone_by : (r : Result (Unit {0}) Error) (old mid new : State) (e : Error) → r ≡ Err e → IfErr r (FailsToCommit mid new) → IsTrue mid.in_transaction
    → (IsTrue mid.is_open → IsTrue old.is_open) → (IsTrue mid.is_open → mid.committed ≡ old.committed) → IsTrue new.is_open → IsUndone old new
undone_by r old mid new e is told inside was_open committed live = either (rw is at told)
  where
    either : FailsToCommit mid new e → IsUndone old new
    either (inl h) =
        let open_then = h.3.was_open live in
        record { was_open = was_open open_then; now = (h.3.undone live).0 ∙ committed open_then; committed = (h.3.undone live).1 ∙ committed open_then }
    either (inr h) = absurd (false≢true (sym h.1 ∙ inside))

pub returns-in-Ok-clause-survives : goal.returns-in-Ok-clause-survives
returns-in-Ok-clause-survives g c =
    let old = c.args.conn.now in
    let mid = c.make.new.tx.conn.now in
    let begun = c.transaction-tx.ensures.begun in
    let P = Commits (state g.S.Store old) c.args.change.now in
    let made = λ (clean : HasCleanDisk (state g.S.Store mid)).
    let both = c.in_ok-make.ensures.done clean (rw begun refl) in
    let was_open : IsTrue (state g.S.Store old).is_open = rw begun at (both.0.on.was_open both.0.is_open) in
    let it : MakesChange (state g.S.Store old).now (state g.S.Store mid).now c.args.change.now = rw begun at both.1 in
    let whole : P (state g.S.Store mid).now.trees = record { was_open = was_open; after = (state g.S.Store mid).now; made = it; is = refl } in whole in
    let whole = survives_then (state g.S.Store old) (state g.S.Store mid) (state g.S.Store c.commit.new.self.0) _ _ P (λ _ db none. absurd none)
    (λ clean db is. subst P (sym is) (made (omega (arith, c.commit.ensures.survives.clean)))) (survives_begin g.S.Store old (state g.S.Store mid) _ (rw begun at c.make.ensures.survives)) c.commit.ensures.survives in
    search (rules, whole)

pub returns-in-Err-clause-survives : goal.returns-in-Err-clause-survives
returns-in-Err-clause-survives g c =
    let old = c.args.conn.now in
    let mid = c.make.new.tx.conn.now in
    let begun = c.transaction-tx.ensures.begun in
    let P = Commits (state g.S.Store old) c.args.change.now in
    let made = λ (clean : HasCleanDisk (state g.S.Store mid)).
    let both = c.in_ok-make.ensures.done clean (rw begun refl) in
    let was_open : IsTrue (state g.S.Store old).is_open = rw begun at (both.0.on.was_open both.0.is_open) in
    let it : MakesChange (state g.S.Store old).now (state g.S.Store mid).now c.args.change.now = rw begun at both.1 in
    let whole : P (state g.S.Store mid).now.trees = record { was_open = was_open; after = (state g.S.Store mid).now; made = it; is = refl } in whole in
    let whole = survives_then (state g.S.Store old) (state g.S.Store mid) (state g.S.Store c.commit.new.self.0) _ _ P (λ _ db none. absurd none)
    (λ clean db is. subst P (sym is) (made (omega (arith, c.commit.ensures.survives.clean)))) (survives_begin g.S.Store old (state g.S.Store mid) _ (rw begun at c.make.ensures.survives)) c.commit.ensures.survives in
    search (rules, whole)

pub returns-in-Ok-clause-done : goal.returns-in-Ok-clause-done
returns-in-Ok-clause-done g c =
    let old = state g.S.Store c.args.conn.now in
    let mid = state g.S.Store c.make.new.tx.conn.now in
    let new = state g.S.Store c.commit.new.self.0 in
    let begun = c.transaction-tx.ensures.begun in
    let whole = λ (clean : HasCleanDisk new).
    let shown = shown_by c.commit.result c.in-Ok.field-0 mid new c.in-Ok.is (c.commit.ensures.ok clean) in
    let before : HasCleanDisk mid = omega (arith, c.commit.ensures.survives.clean) in
    let both = c.in_ok-make.ensures.done before (rw begun refl) in
    let was_open : IsTrue old.is_open = rw begun at (both.0.on.was_open both.0.is_open) in
    let it : MakesChange old.now mid.now c.args.change.now = rw begun at both.1 in
    let made : IsMade old new c.args.change.now = record {
      was_open = was_open;
      is_open = shown.is_open;
      made = subst (λ (d : Database). MakesChange old.now d c.args.change.now) (sym shown.now_is) it;
      committed = shown.committed_is ∙ sym shown.now_is;
    } in made in
    search (rules, whole)

pub returns-in-Ok-clause-stays : goal.returns-in-Ok-clause-stays
returns-in-Ok-clause-stays g c clean live = tt

pub returns-in-Err-clause-stays : goal.returns-in-Err-clause-stays
returns-in-Err-clause-stays g c =
    let old = state g.S.Store c.args.conn.now in
    let mid = state g.S.Store c.make.new.tx.conn.now in
    let new = state g.S.Store c.commit.new.self.0 in
    let begun = c.transaction-tx.ensures.begun in
    let whole = λ (clean : HasCleanDisk new) (live : IsTrue new.is_open).
    let before : HasCleanDisk mid = omega (arith, c.commit.ensures.survives.clean) in
    let went = (c.in_ok-make.ensures.done before (rw begun refl)).0 in
    let kept = rw begun at (c.make.ensures.kept before (rw begun refl)) in
    let undone : IsUndone old new = undone_by c.commit.result old mid new c.in-Err.error c.in-Err.is (c.commit.ensures.err clean) went.on.inside kept.was_open kept.committed live in undone in
    search (rules, whole)
