-- The state of a server that stands for a history, after further steps.
use Rattle.std.specs.Prelude.{◌≡◌, List, ◌++◌}
use Rattle.dq_tables.specs.declared.row.Row.{Row}
use Rattle.dq_tables.specs.TableStates.{State, IsSettled}
use Rattle.dq_core.specs.declared.event.Event.{Event}
use Rattle.dq_core.specs.Shared.{replies_from, world_after}
use Rattle.dq_core.specs.ServerView.{ServerView, Refines}
use Rattle.dq_wires.specs.Steps.{Step, events_of, replies_of}

-- It stands for the history with their events, and their replies are those of the plain server.
pub record Serves {Tables : Type 0} (state : Tables → State) (old new : ServerView Tables)
    (steps : List Step) : Type 0 where
  pub stands : (rows : List Row) (events : List Event) → Refines state rows old events
      → (state new.tables).honest → Refines state rows new (events ++ events_of steps)
  pub replied : (rows : List Row) (events : List Event) → Refines state rows old events
      → (state new.tables).honest
      → replies_of steps
      ≡ replies_from old.institutions (world_after old.institutions rows events)
      (events_of steps)
  pub institutions : new.institutions ≡ old.institutions
  pub was_honest : (state new.tables).honest → (state old.tables).honest
  -- a crash that could leave only the rows can still leave nothing else
  pub settles : (state new.tables).honest → IsSettled (state old.tables)
      → IsSettled (state new.tables)
