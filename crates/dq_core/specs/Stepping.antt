-- The requirements of a server's step on its event, and what the step leaves at a fault.
use Rattle.std.specs.Prelude.{◌≡◌, ℕ, true, false, ◌⊎◌, IsTrue, List, [], ◌++◌, take, Result, Err, OnOk, Option, None}
use Rattle.dq_tables.specs.declared.row.Row.{Row}
use Rattle.dq_tables.specs.Rows.{Operation, after_all}
use Rattle.dq_tables.specs.TableStates.{State as Kept, IsSettled}
use Rattle.dq_core.specs.declared.event.Event.{Event}
use Rattle.dq_core.specs.declared.event.Event.TheVariants.{Open, Piece, End, Pull, Schedule, Withdraw}
use Rattle.dq_core.specs.declared.fault.Fault.{Fault}
use Rattle.dq_core.specs.declared.fault.Fault.TheVariants.{Store}
use Rattle.dq_core.specs.Connections.{Connection, connection_in, is_pending}
use Rattle.dq_core.specs.Histories.{is_above}

-- an opened number has to be above the numbers opened before
abbrev pub Opens : Option ℕ → Event → Type 0
Opens newest (Open number) = IsTrue (is_above newest number)
Opens newest (Piece number piece) = Unit {0}
Opens newest (End number) = Unit {0}
Opens newest (Pull number) = Unit {0}
Opens newest (Schedule institution octets) = Unit {0}
Opens newest (Withdraw institution id) = Unit {0}

-- the end of a connection, a piece or a pull for a number that is not held, an empty piece, and a
-- pull where no C-FIND is open
abbrev pub TakesNoMemory : List Connection → Event → Type 0
TakesNoMemory connections (End number) = Unit {0}
TakesNoMemory connections (Piece number []) = Unit {0}
TakesNoMemory connections (Piece number piece) = connection_in number connections ≡ None
TakesNoMemory connections (Pull number) = is_pending number connections ≡ false
TakesNoMemory connections (Open number) = ⊥
TakesNoMemory connections (Schedule institution octets) = ⊥
TakesNoMemory connections (Withdraw institution id) = ⊥

-- Tables that were not honest do not become so. Store is answered only if the tables failed in the call. If a crash
-- could leave only the rows before an answer, it can leave nothing else after it.
pub record HealthAfter {A : Type 0} (old new : Kept) (result : Result A Fault) : Type 0 where
  pub was_honest : new.honest → old.honest
  pub told : result ≡ Err Store → new.failed ≡ true
  pub untold : new.failed ≡ true → (old.failed ≡ true) ⊎ (result ≡ Err Store)
  pub lasts : old.failed ≡ true → new.failed ≡ true
  pub settles : new.honest → OnOk result (IsSettled old → IsSettled new)

-- what a crash may leave, where before it could leave the rows alone
abbrev pub MayLeaveAfter : Kept → Kept → List Row → Type 0
MayLeaveAfter old new r = IsSettled old × new.may_leave r

-- The rows after the first of the operations. What is left of them in a crash are these rows, with
-- or without the next operation.
pub record IsPartOf (operations : List Operation) (before after : List Row)
    (IsLeft : List Row → Type 0) : Type 0 where
  pub done : List Operation
  pub later : List Operation
  pub whole : done ++ later ≡ operations
  pub made : after ≡ after_all done before
  pub crash : (r : List Row) → IsLeft r
      → (r ≡ after) ⊎ (r ≡ after_all (take 1 later) after)
