-- The state of a server after a look at its rows.
use Rattle.std.specs.Prelude.{◌≡◌, ◌↔◌, true, false, List, Ok, Err}
use Rattle.dq_tables.specs.declared.row.Row.{Row}
use Rattle.dq_tables.specs.TableStates.{State}
use Rattle.dq_core.specs.declared.event.Event.{Event}
use Rattle.dq_core.specs.declared.fault.Fault.{Fault}
use Rattle.dq_core.specs.declared.fault.Fault.TheVariants.{Store, Stopped}
use Rattle.dq_core.specs.Stepping.{HealthAfter}
use Rattle.dq_core.specs.ServerView.{ServerView, IsWorking, Refines}

-- It is answered: the server stands for whatever history it stood for, and its rows stay.
pub record Looked {Tables : Type 0} (state : Tables → State) (old new : ServerView Tables)
    : Type 0 where
  pub stands : (rows : List Row) (events : List Event) → Refines state rows old events
      → (state new.tables).honest → Refines state rows new events
  pub same : (state new.tables).honest → (state new.tables).rows ≡ (state old.tables).rows
  pub institutions : new.institutions ≡ old.institutions
  pub newest : new.newest ≡ old.newest
  pub spent : new.spent ≡ old.spent
  pub goes : HealthAfter {A = Unit {0}} (state old.tables) (state new.tables) (Ok tt)

-- Nothing of what keeps the rows changes, but that what was honest may no longer be so.
pub record LeavesAlone (old new : State) : Type 0 where
  pub was_honest : new.honest → old.honest
  pub same : new.rows ≡ old.rows
  pub failed : new.failed ≡ old.failed
  pub crash : new.honest → (r : List Row) → new.may_leave r → old.may_leave r

-- The server fails at it, and is spent. Its rows stay, and a crash leaves nothing that it could not
-- leave before. It fails with Store only where its tables failed at this look.
pub record FailsToLook {Tables : Type 0} (state : Tables → State) (old new : ServerView Tables)
    (fault : Fault) : Type 0 where
  pub same : (state new.tables).honest → (state new.tables).rows ≡ (state old.tables).rows
  pub crash : (state new.tables).honest → (r : List Row) → (state new.tables).may_leave r
      → (state old.tables).may_leave r
  pub institutions : new.institutions ≡ old.institutions
  pub newest : new.newest ≡ old.newest
  pub spent : new.spent ≡ true
  pub goes : HealthAfter {A = Unit {0}} (state old.tables) (state new.tables) (Err fault)
  pub store : IsWorking state old → fault ≡ Store
      → ((state old.tables).failed ≡ false) × ((state new.tables).failed ≡ true)
  pub stopped : (fault ≡ Stopped) ↔ (old.spent ≡ true)
  pub unchanged : old.spent ≡ true → new ≡ old
