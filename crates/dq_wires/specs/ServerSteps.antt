-- The server's step at one event, or when it is asked a question.
use Rattle.std.specs.Prelude.{◌≡◌, ◌↔◌, ℕ, Bool, true, false, List, [], ◌∷◌, ◌++◌, Ok, Err}
use Rattle.dq_tables.specs.declared.row.Row.{Row}
use Rattle.dq_tables.specs.TableStates.{State}
use Rattle.dq_core.specs.declared.event.Event.{Event}
use Rattle.dq_core.specs.declared.event.Reply.{Reply}
use Rattle.dq_core.specs.declared.fault.Fault.{Fault}
use Rattle.dq_core.specs.declared.fault.Fault.TheVariants.{Store, Stopped}
use Rattle.dq_core.specs.Connections.{is_pending}
use Rattle.dq_core.specs.Shared.{turn, world_after}
use Rattle.dq_core.specs.Histories.{newest_after}
use Rattle.dq_core.specs.Stepping.{TakesNoMemory, HealthAfter, MayLeaveAfter, IsPartOf}
use Rattle.dq_core.specs.ServerView.{ServerView, IsWorking, Refines}
use Rattle.dq_core.specs.Looking.{Looked}
use Rattle.dq_wires.specs.Steps.{Step}
use Rattle.dq_wires.specs.Steps.Step.{Answered, Asked}

-- It is answered: whatever history the server stands for, the reply is that of the plain server,
-- and the server then stands for the history with the event.
pub record Stepped {Tables : Type 0} (state : Tables → State) (old new : ServerView Tables)
    (event : Event) (reply : Reply) : Type 0 where
  pub replied : (rows : List Row) (events : List Event) → Refines state rows old events
      → (state new.tables).honest
      → reply ≡ (turn old.institutions (world_after old.institutions rows events) event).reply
  pub stands : (rows : List Row) (events : List Event) → Refines state rows old events
      → (state new.tables).honest → Refines state rows new (events ++ event ∷ [])
  pub institutions : new.institutions ≡ old.institutions
  pub newest : new.newest ≡ newest_after old.newest (event ∷ [])
  pub unspent : new.spent ≡ false
  pub goes : HealthAfter (state old.tables) (state new.tables) (Ok reply)

-- It is asked whether a C-FIND is open on a connection: it is as after a look, and the answer is
-- what the plain server has after whatever history it stands for.
pub record Asks {Tables : Type 0} (state : Tables → State) (old new : ServerView Tables)
    (number : ℕ) (pending : Bool) : Type 0 where
  pub looked : Looked state old new
  pub told : (rows : List Row) (events : List Event) → Refines state rows old events
      → (state new.tables).honest
      → pending ≡ is_pending number (world_after old.institutions rows events).connections

-- a step
abbrev pub Moves : {Tables : Type 0} → (Tables → State) → ServerView Tables → ServerView Tables
    → Step → Type 0
Moves state old new (Answered event reply) = Stepped state old new event reply
Moves state old new (Asked number pending) = Asks state old new number pending

-- The server fails at an event, after the first of its operations, and is spent. At what takes no memory
-- a server that stands for a history does not fail. It fails with Store only where its tables failed
-- at this event.
pub record Fails {Tables : Type 0} (state : Tables → State) (old new : ServerView Tables)
    (event : Event) (fault : Fault) : Type 0 where
  pub part : (rows : List Row) (events : List Event) → Refines state rows old events
      → (state new.tables).honest
      → IsPartOf
      (turn old.institutions (world_after old.institutions rows events) event).operations
      (world_after old.institutions rows events).rows (state new.tables).rows
      (MayLeaveAfter (state old.tables) (state new.tables))
  pub never : (rows : List Row) (events : List Event) → Refines state rows old events
      → TakesNoMemory (world_after old.institutions rows events).connections event → ⊥
  pub institutions : new.institutions ≡ old.institutions
  pub spent : new.spent ≡ true
  pub goes : HealthAfter {A = Reply} (state old.tables) (state new.tables) (Err fault)
  pub store : IsWorking state old → fault ≡ Store
      → ((state old.tables).failed ≡ false) × ((state new.tables).failed ≡ true)
  pub stopped : (fault ≡ Stopped) ↔ (old.spent ≡ true)
  pub unchanged : old.spent ≡ true → new ≡ old
