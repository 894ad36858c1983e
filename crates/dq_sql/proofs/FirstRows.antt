-- Rows that are put in order into a store without rows.
use Rattle.std.proofs.Common.{◌≡◌, ℕ, zero, suc, ◌+◌, ◌<◌, List, [], ◌∷◌, ◌++◌, length, get_or, take, IsTrue, refl, sym, ap, subst, ◌∙◌, arith, add-one}
use Rattle.std.specs.List.{AllByRecursion, insert}
use Rattle.std.specs.declared.cmp.Ordering.TheVariants.{Less}
use Rattle.std.proofs.Math.Seq.{take-suc, take-length, drop-length}
use Rattle.std.proofs.lemmas.List.{get_or-take, get_or_default, length-take-le}
use Rattle.sqlite.specs.Effect.{Database}
use Rattle.sqlite.specs.State.{State, HasCleanDisk, KeepsCommit, Survives}
use Rattle.sqlite.proofs.StateLemmas.{survives_then}
use Rattle.dq_tables.specs.declared.row.Row.{Row}
use Rattle.dq_tables.specs.Rows.{IsRising, after_edit, Put, record_of, row_place_of, row_place_order}
use Rattle.dq_tables.specs.Lookups.{IsFree}
use Rattle.dq_tables.proofs.InOrder.{rising_at, located_free}
use Rattle.dq_tables.proofs.Edits.{inserts}
use Rattle.dq_sql.specs.Tie.{HasRows}
use Rattle.dq_sql.specs.RowWrites.{AddsRow, StatementRan}
use Rattle.dq_sql.specs.FirstRows.{AddsRows}
use Rattle.dq_sql.proofs.NewStore.{keeps_then}

-- ---- one row past all others

each_taken : {X : Type 0} (P : X → Type 0) (xs : List X) (i : ℕ) → AllByRecursion P xs → AllByRecursion P (take i xs)
each_taken P xs zero h = tt
each_taken P [] (suc i) h = tt
each_taken P (x ∷ xs) (suc i) h = (h.0, each_taken P xs i h.1)

rising_taken : (rows : List Row) (i : ℕ) → IsRising rows → IsRising (take i rows)
unfolding IsRising
rising_taken rows zero h = tt
rising_taken [] (suc i) h = tt
rising_taken (row ∷ rows) (suc i) h = (each_taken _ rows i h.0, rising_taken rows i h.1)

module _ (rows : List Row) (i : ℕ) (row : Row) (within : i < length rows) (is : row ≡ get_or rows i row) (rising : IsRising rows) where
  long : length (take i rows) ≡ i
  long = length-take-le i rows (omega arith)

  before : (k : ℕ) (d : Row) → k < length (take i rows) → row_place_order (row_place_of (get_or (take i rows) k d)) (row_place_of row) ≡ Less
  before k d less =
      let low : k < i = omega (arith, long) in
      let there : get_or rows k row ≡ get_or (take i rows) k d =
      get_or_default rows k row d (omega arith) ∙ sym (get_or-take i rows k d low) in
      subst (λ r. row_place_order (row_place_of r) (row_place_of row) ≡ Less) there
      (subst (λ r. row_place_order (row_place_of (get_or rows k row)) (row_place_of r) ≡ Less) (sym is) (rising_at rows rising k i row low within))

  -- the place of a row past all others is free
  free : IsFree (row_place_of row) (take i rows) (length (take i rows))
  free = located_free (row_place_of row) (take i rows) (rising_taken rows i rising) (length (take i rows)) (omega arith) before
      (λ k d from under. absurd (omega arith))

  at_end : (xs : List Row) → insert xs (length xs) row ≡ xs ++ row ∷ []
  at_end xs = rw (take-length, drop-length) refl

  -- and where it is put there, it is the last
  last : after_edit row.inst (Put (record_of row)) (take i rows) ≡ take (i + 1) rows
  last =
      sym (inserts (take i rows) row (length (take i rows)) free) ∙ at_end (take i rows) ∙ ap (λ r. take i rows ++ r ∷ []) is
      ∙ sym (rw add-one (take-suc rows i row within))

  pub next_added : (d e : Database) → HasRows d (take i rows) → AddsRow d e row → HasRows e (take (i + 1) rows)
  next_added d e has adds = subst (HasRows e) last (adds (take i rows) has free.found)

-- ---- the rows in turn

-- What some rows, put in turn, make of a connection.
pub record HasPut (old new : State) (rows : List Row) : Type 0 where
  pub inside : HasCleanDisk new → IsTrue old.in_transaction → IsTrue new.in_transaction
  pub done : HasCleanDisk new → IsTrue old.in_transaction → IsTrue old.is_open → AddsRows old new rows
  pub kept : HasCleanDisk new → IsTrue old.in_transaction → KeepsCommit old new
  pub survives : Survives old new (λ _. ⊥)

module _ (old mid new : State) (rows : List Row) (i : ℕ) (row : Row) (within : i < length rows) (is : row ≡ get_or rows i row) (rising : IsRising rows) where
  -- one more that was put
  pub put_next : HasPut old mid (take i rows) → (HasCleanDisk new → IsTrue mid.in_transaction → StatementRan mid new × AddsRow mid.now new.now row)
      → (HasCleanDisk new → IsTrue mid.in_transaction → KeepsCommit mid new) → Survives mid new (λ _. ⊥) → HasPut old new (take (i + 1) rows)
  put_next had went kept survives =
      let early : HasCleanDisk new → HasCleanDisk mid = λ clean. omega (arith, survives.clean) in
      record {
        inside = λ clean inside. (went clean (had.inside (early clean) inside)).0.on.inside;
        done = λ clean inside opened.
            let before = had.done (early clean) inside opened in
            let it = went clean before.on.inside in
            record {
              on = record { was_open = opened; is_open = it.0.is_open; committed = it.0.on.committed ∙ before.on.committed; inside = it.0.on.inside };
              added = λ none. next_added rows i row within is rising mid.now new.now (before.added none) it.1;
            };
        kept = λ clean inside. keeps_then old mid new (had.kept (early clean) inside) (kept clean (had.inside (early clean) inside));
        survives = survives_then old mid new _ _ _ (λ _ db none. none) (λ _ db none. none) had.survives survives;
      }
