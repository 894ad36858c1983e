-- Entries that are started in turn, in a transaction.
use Rattle.std.proofs.Common.{◌≡◌, ◌<◌, ◌+◌, ℕ, List, map, length, take, get_or, IsTrue, refl, subst, arith}
use Rattle.sqlite.specs.Effect.{Database}
use Rattle.sqlite.specs.State.{State, HasCleanDisk, Survives, KeepsCommit}
use Rattle.sqlite.proofs.StateLemmas.{survives_then}
use Rattle.dq_tables.specs.Rows.{Start, after_edit, after_edits}
use Rattle.dq_tables.proofs.Soundness.{start_more}
use Rattle.dq_sql.specs.Tie.{HasRows}
use Rattle.dq_sql.specs.RowWrites.{Starts, StartsEach, StatementRan}
use Rattle.dq_sql.proofs.NewStore.{keeps_then}
use Rattle.dq_sql.proofs.WrittenRows.{went_further}

abbrev Untouched : State → State → Type 0
Untouched old new = HasCleanDisk new → IsTrue old.in_transaction → KeepsCommit old new

-- what there is once the entries with some keys are started
pub record HasStarted (old new : State) (institution : List ℕ) (keys : List (List ℕ)) : Type 0 where
  pub survives : Survives old new (λ _. ⊥)
  pub kept : Untouched old new
  pub inside : HasCleanDisk new → IsTrue old.in_transaction → IsTrue new.in_transaction
  pub done : HasCleanDisk new → IsTrue old.in_transaction → IsTrue old.is_open → StatementRan old new × StartsEach old.now new.now institution keys

starts_more : (d m e : Database) (institution : List ℕ) (keys : List (List ℕ)) (i : ℕ) (key : List ℕ) → i < length keys → get_or keys i key ≡ key
    → StartsEach d m institution (take i keys) → Starts m e institution key → StartsEach d e institution (take (i + 1) keys)
starts_more d m e h keys i key within here each one rows has =
    let before = after_edits h (map Start (take i keys)) rows in
    subst (HasRows e) (start_more h keys i key rows before (after_edit h (Start key) before) within here refl refl) (one before (each rows has))

module _ (old mid new : State) (institution : List ℕ) (keys : List (List ℕ)) (before : HasStarted old mid institution keys) (survives : Survives mid new (λ _. ⊥))
    (kept : Untouched mid new) where
  pub stopped_survives : Survives old new (λ _. ⊥)
  stopped_survives = survives_then old mid new _ _ _ (λ _ db none. none) (λ _ db none. none) before.survives survives

  pub stopped_kept : Untouched old new
  stopped_kept clean inside =
      let early : HasCleanDisk mid = omega (arith, survives.clean, clean) in
      keeps_then old mid new (before.kept early inside) (kept clean (before.inside early inside))

pub one_started : (old mid new : State) (institution : List ℕ) (keys : List (List ℕ)) (i : ℕ) (key : List ℕ) → i < length keys → get_or keys i key ≡ key
    → HasStarted old mid institution (take i keys) → Survives mid new (λ _. ⊥) → Untouched mid new
    → (HasCleanDisk new → IsTrue mid.in_transaction → StatementRan mid new × Starts mid.now new.now institution key)
    → HasStarted old new institution (take (i + 1) keys)
one_started old mid new institution keys i key within here before survives kept done =
    let early = λ (clean : HasCleanDisk new). let h : HasCleanDisk mid = omega (arith, survives.clean, clean) in h in
    record {
      survives = stopped_survives old mid new institution (take i keys) before survives kept;
      kept = stopped_kept old mid new institution (take i keys) before survives kept;
      inside = λ clean inside. (done clean (before.inside (early clean) inside)).0.on.inside;
      done = λ clean inside opened.
          let first = before.done (early clean) inside opened in
          let second = done clean first.0.on.inside in
          (went_further old mid new first.0 second.0, starts_more old.now mid.now new.now institution keys i key within here first.1 second.1);
    }
