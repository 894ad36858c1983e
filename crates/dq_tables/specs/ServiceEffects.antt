-- The effects of a service over tables: its answer, and the edits of the institution's records,
-- follow from these records alone.
use Rattle.std.specs.Prelude.{◌≡◌, ℕ, Bool, List, [], ◌∷◌, Option, Some, None, Result, IfOk, OnOk, OnErr, ◌⊎◌, if◌then◌else◌}
use Rattle.dq_tables.specs.declared.fault.TableFault.{TableFault}
use Rattle.dq_tables.specs.declared.row.Row.{Row}
use Rattle.dq_tables.specs.Rows.{Record, Edit, of, by, after}
use Rattle.dq_tables.specs.TableStates.{State, IsSettled, HealthAfter}

-- The call answers as `does` says of the institution's records and makes its edits, all of them, or
-- is refused and makes none. With a crash in the call, or a fault, either the rows are left that
-- were there before, or those with the edits.
pub record Serves {Answer : Type 0} (old new : State) (institution : List ℕ)
    (does : List Record → Answer × List Edit)
    (result : Result Answer TableFault) : Type 0 where
  pub goes : HealthAfter old new result
  pub answered : new.honest → IfOk result (λ answer. answer ≡ (does (of institution old.rows)).0)
  pub done : new.honest → OnOk result
      (new.rows ≡ after (by institution (does (of institution old.rows)).1) old.rows)
  pub same : new.honest → OnErr result (new.rows ≡ old.rows)
  pub settles : new.honest → OnOk result (IsSettled old → IsSettled new)
  pub crash : new.honest → OnErr result ((r : List Row) → new.may_leave r
      → (old.may_leave r)
      ⊎ (r ≡ after (by institution (does (of institution old.rows)).1) old.rows))

-- of refusals in their order, each with whether it holds, the first that does
abbrev pub first_refusal : {Refusal : Type 0} → List (Bool × Refusal) → Option Refusal
first_refusal [] = None
first_refusal (refusal ∷ others) = if refusal.0 then Some refusal.1 else first_refusal others

-- A refusal is the answer, and edits nothing. Where there is none, this is answered and edited.
abbrev pub refusal_or : {Answer : Type 0} → Option Answer → Answer × List Edit → Answer × List Edit
refusal_or (Some refusal) done = (refusal, [])
refusal_or None done = done
