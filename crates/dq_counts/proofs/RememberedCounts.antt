-- What is remembered of how many rows tables have, after a call.
use Rattle.std.proofs.Common.{◌≡◌, List, Result, sym, subst}
use Rattle.std.proofs.Math.Logic.{∥∥₁_map}
use Rattle.dq_tables.specs.declared.fault.TableFault.{TableFault}
use Rattle.dq_tables.specs.declared.row.Row.{Row}
use Rattle.dq_tables.specs.TableStates.{State, Reads}
use Rattle.dq_counts.specs.declared.counts.Counts.{Counts}
use Rattle.dq_counts.specs.Counts.{AreRight, AreRightOf}

-- It is as right where the rows stay.
pub same_right : {before after : Type 0} (old new : List Row) (counts : Counts) → (after → before) → (after → new ≡ old) → ∥ (before → AreRight old counts) ∥₁
    → ∥ (after → AreRight new counts) ∥₁
same_right old new counts was same known =
    ∥∥₁_map known (λ right honest. subst (λ (rows : List Row). AreRight rows counts) (sym (same honest)) (right (was honest)))

pub read_right : {A : Type 0} (old new : State) (answer : Result A TableFault) (counts : Counts) → Reads old new answer → AreRightOf old counts → AreRightOf new counts
read_right old new answer counts reads = same_right old.rows new.rows counts reads.goes.was_honest reads.same
