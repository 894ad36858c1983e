-- The outcome of a run of a history, also when a fault ends it.
use Rattle.std.specs.Prelude.{◌≡◌, ℕ, suc, ◌⊎◌, List, [], ◌∷◌, length, take, drop, Option, Some}
use Rattle.dq_config.specs.declared.config.Institution.{Institution}
use Rattle.dq_config.specs.Limits.{limits_of}
use Rattle.dq_tables.specs.declared.row.Row.{Row}
use Rattle.dq_tables.specs.Rows.{of}
use Rattle.dq_core.specs.declared.event.Event.{Event}
use Rattle.dq_core.specs.declared.event.Reply.{Reply}
use Rattle.dq_core.specs.declared.fault.Fault.{Fault}
use Rattle.dq_core.specs.declared.fault.Fault.TheVariants.{NoMemory}
use Rattle.dq_core.specs.Connections.{Connection}
use Rattle.dq_core.specs.Shared.{replies, world_after, rows_within}
use Rattle.dq_core.specs.Alone.{alone_replies, alone_after, records_within}
use Rattle.dq_core.specs.Own.{is_own_event, own, replies_at}
use Rattle.dq_core.specs.Isolation.{own_among, own_replies, own_rows_within}
use Rattle.dq_core.specs.Stepping.{TakesNoMemory}

-- The replies are those to the first events, and the rows those after these events and the first
-- operations of the next.
pub record IsRun (institutions : List Institution) (rows : List Row) (events : List Event)
    (given : List Reply) (kept : List Row) : Type 0 where
  pub first_replies : given ≡ take (length given) (replies institutions rows events)
  pub operations : ℕ
  pub rows_then : kept ≡ rows_within institutions rows events (length given) operations

-- The rows that a crash leaves after such a run, if before the run it could leave only the rows: the rows of the run,
-- with or without the next operation of the event in which a fault came.
pub record IsLeftOf (institutions : List Institution) (rows : List Row) (events : List Event)
    (given : List Reply) (kept left : List Row) : Type 0 where
  pub operations : ℕ
  pub rows_then : kept ≡ rows_within institutions rows events (length given) operations
  pub with_next : (left ≡ kept)
      ⊎ (left ≡ rows_within institutions rows events (length given) (suc operations))

-- the next event, which is there, may fault: it is none of those that take no memory
abbrev pub MayFault : List Connection → List Event → Type 0
MayFault connections [] = ⊥
MayFault connections (event ∷ events) = TakesNoMemory connections event → ⊥

-- Where a fault ends a run after the replies to so many events, it came in the next one.
abbrev pub FaultsAfter : List Institution → List Row → List Event → ℕ → Type 0
FaultsAfter institutions rows events answered =
    MayFault (world_after institutions rows (take answered events)).connections
    (drop answered events)

-- A run that has no room to begin: want of memory is its fault, it answers no event, and its tables
-- are as they were given.
pub record HasNoRoom {Tables : Type 0} (tables : Tables) (given : List Reply) (fault : Option Fault)
    (left : Tables) : Type 0 where
  pub no_memory : fault ≡ Some NoMemory
  pub no_reply : given ≡ []
  pub same_tables : left ≡ tables

-- The replies at an institution's own events are those of its server alone to those among them
-- that were answered. Its records are those that this server then has, after the first operations
-- of the next event where that is its own.
pub record IsOwnRun (institutions : List Institution) (rows : List Row) (events : List Event)
    (i : Institution) (given : List Reply) (kept : List Row) : Type 0 where
  pub same_replies : replies_at (is_own_event institutions i.name events) events given
      ≡ own_replies institutions rows events i (length given)
  pub operations : ℕ
  pub same_records : of i.name kept
      ≡ of i.name (own_rows_within institutions rows events i (length given) operations)

-- The same of the server of one institution that has neither names nor routes.
pub record IsRunByRecords (institutions : List Institution) (rows : List Row) (events : List Event)
    (i : Institution) (given : List Reply) (kept : List Row) : Type 0 where
  pub same_replies : replies_at (is_own_event institutions i.name events) events given
      ≡ alone_replies (limits_of i) (of i.name rows)
      (own_among institutions i.name events (length given))
  pub operations : ℕ
  pub same_records : of i.name kept
      ≡ records_within (limits_of i) (of i.name rows) (is_own_event institutions i.name events)
      events (length given) operations

-- Where no fault came, so it is of the whole history.
pub record IsWholeByRecords (institutions : List Institution) (rows : List Row)
    (events : List Event) (i : Institution) (given : List Reply) (kept : List Row) : Type 0 where
  pub same_replies : replies_at (is_own_event institutions i.name events) events given
      ≡ alone_replies (limits_of i) (of i.name rows) (own institutions i.name events)
  pub same_records : of i.name kept
      ≡ (alone_after (limits_of i) (of i.name rows) (own institutions i.name events)).records
