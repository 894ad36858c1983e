-- The state of tables as contracts see it, and how calls leave it.
use Rattle.std.specs.Prelude.{◌≡◌, Bool, true, List, Result, Err, OnOk, OnErr, ◌⊎◌}
use Rattle.dq_tables.specs.declared.fault.TableFault.{TableFault}
use Rattle.dq_tables.specs.declared.fault.TableFault.TheVariants.{Store}
use Rattle.dq_tables.specs.declared.row.Row.{Row}

-- The rows, in order of kind, institution and key. Tables are honest while nothing else writes the
-- rows, and what was written is what is read. They have failed once a call has answered Store. A
-- crash may leave some lists of rows and no others.
pub record State : Type 1 where
  pub rows : List Row
  pub honest : Type 0
  pub failed : Bool
  pub may_leave : List Row → Type 0

-- A crash leaves the rows and no others.
pub record IsSettled (it : State) : Type 0 where
  pub only : (r : List Row) → it.may_leave r → r ≡ it.rows

-- Tables that were not honest do not become so. Store is answered only where a failure is there
-- afterwards, and a failure comes with Store alone and stays.
pub record HealthAfter {Answer : Type 0} (old new : State) (result : Result Answer TableFault)
    : Type 0 where
  pub was_honest : new.honest → old.honest
  pub told : result ≡ Err Store → new.failed ≡ true
  pub untold : new.failed ≡ true → (old.failed ≡ true) ⊎ (result ≡ Err Store)
  pub lasts : old.failed ≡ true → new.failed ≡ true

-- a call that reads
pub record Reads {Answer : Type 0} (old new : State) (result : Result Answer TableFault)
    : Type 0 where
  pub goes : HealthAfter old new result
  pub same : new.honest → new.rows ≡ old.rows
  pub crash : new.honest → (r : List Row) → new.may_leave r → old.may_leave r

-- a call that changes the rows, whole or not at all
pub record Writes {Answer : Type 0} (old new : State) (changed : List Row)
    (result : Result Answer TableFault) : Type 0 where
  pub goes : HealthAfter old new result
  pub done : new.honest → OnOk result (new.rows ≡ changed)
  pub same : new.honest → OnErr result (new.rows ≡ old.rows)
  pub settles : new.honest → OnOk result (IsSettled new)
  pub crash : new.honest
      → OnErr result ((r : List Row) → new.may_leave r → (old.may_leave r) ⊎ (r ≡ changed))
