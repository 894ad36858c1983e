-- A replay of a capture over a store.
use Rattle.std.specs.Prelude.{◌≡◌, ℕ, List, length, take, Some}
use Rattle.dq_config.specs.declared.config.Institution.{Institution}
use Rattle.dq_tables.specs.declared.row.Row.{Row}
use Rattle.dq_core.specs.declared.event.Event.{Event}
use Rattle.dq_core.specs.declared.event.Reply.{Reply}
use Rattle.dq_core.specs.Owners.{owner}
use Rattle.dq_core.specs.Own.{stream_of}
use Rattle.dq_core.specs.Runs.{IsRun}
use Rattle.dq_core.specs.Conversations.{IsAnsweredRun}
use Rattle.dq_captures.specs.Captures.{AreCapture}

-- The replies are those of a run of the events that the lines tell, from the rows of the store, which are
-- those that are `stored`. On each connection of an institution they send its conversation, and each
-- C-FIND in it is answered with exactly the records that match.
pub record IsExactReplay (stored : List Row → Type 0) (lines : List (List ℕ))
    (institutions : List Institution) (given : List Reply) (kept : List Row) : Type 0 where
  pub rows : List Row
  pub events : List Event
  pub of_store : (held : List Row) → stored held → rows ≡ held
  pub told : AreCapture lines events
  pub run : IsRun institutions rows events given kept
  pub exact : (number : ℕ) (i : Institution)
      → owner institutions (stream_of number (take (length given) events)) ≡ Some i
      → IsAnsweredRun institutions rows events given number i
