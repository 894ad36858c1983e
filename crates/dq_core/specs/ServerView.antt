-- A server as contracts see it, and which history of events it refines.
use Rattle.std.specs.Prelude.{◌≡◌, ◌⊎◌, ℕ, Bool, false, List, [], Option, None}
use Rattle.dq_config.specs.declared.config.Institution.{Institution}
use Rattle.dq_tables.specs.declared.row.Row.{Row}
use Rattle.dq_tables.specs.TableStates.{State}
use Rattle.dq_core.specs.declared.event.Event.{Event}
use Rattle.dq_core.specs.declared.event.Event.TheVariants.{Open, Piece, End, Pull, Schedule, Withdraw}
use Rattle.dq_core.specs.declared.connections.Connections.{Connections}
use Rattle.dq_core.specs.Shared.{world_after}
use Rattle.dq_core.specs.Histories.{newest_after}
use Rattle.dq_core.specs.Slots.{AreHeld, has_slot, has_search}

-- A server as contracts see it. Its slots are there for the prover.
pub record ServerView (Tables : Type 0) : Type 0 where
  pub institutions : List Institution
  pub tables : Tables
  pub slots : Connections
  pub newest : Option ℕ
  pub spent : Bool

-- An event that takes no memory, by what the server itself holds and whatever its tables did: the end of a connection,
-- an empty piece, a piece under a number without a slot, or a pull under a number with no C-FIND open in a slot.
abbrev pub IsQuiet : Connections → Event → Type 0
IsQuiet held (End number) = Unit {0}
IsQuiet held (Piece number piece) = (piece ≡ []) ⊎ (has_slot number held ≡ false)
IsQuiet held (Pull number) = has_search number held ≡ false
IsQuiet held (Open number) = ⊥
IsQuiet held (Schedule institution octets) = ⊥
IsQuiet held (Withdraw institution id) = ⊥

-- The tables of a server that is not spent have not failed. A new server is so, and stays so.
abbrev pub IsWorking : {Tables : Type 0} → (Tables → State) → ServerView Tables → Type 0
IsWorking state server = server.spent ≡ false → (state server.tables).failed ≡ false

-- A server refines a history over the rows that were there as it began: it is not spent, it
-- holds exactly the connections that the plain server holds, each after the octets that came on it,
-- and its tables have not failed and keep the plain server's rows.
pub record Refines {Tables : Type 0} (state : Tables → State) (rows : List Row)
    (server : ServerView Tables) (events : List Event) : Type 0 where
  pub unspent : server.spent ≡ false
  pub newest : server.newest ≡ newest_after None events
  pub holds : AreHeld server.institutions (world_after server.institutions rows events).rows
      server.slots (world_after server.institutions rows events).connections
  pub keeps : (state server.tables).rows ≡ (world_after server.institutions rows events).rows
  pub working : (state server.tables).failed ≡ false
