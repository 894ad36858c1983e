-- The state from which a restart goes on.
use Rattle.std.specs.Prelude.{◌≡◌, IsTrue, List, length, take, Contains}
use Rattle.dq_config.specs.declared.config.Institution.{Institution}
use Rattle.dq_tables.specs.declared.row.Row.{Row}
use Rattle.dq_core.specs.declared.event.Event.{Event}
use Rattle.dq_core.specs.declared.event.Reply.{Reply}
use Rattle.dq_core.specs.Histories.{is_well_formed_history}
use Rattle.dq_core.specs.Shared.{replies}
use Rattle.dq_core.specs.Isolation.{replies_alone}
use Rattle.dq_core.specs.Own.{is_own_event, own, replies_at}
use Rattle.dq_core.specs.Runs.{IsLeftOf, IsOwnRun}

-- A run began from `rows`, answered the first events with `given`, and stopped with the rows `kept`.
-- A restart then finds `found`: the rows of all that was answered, and at most the operation in hand.
pub record IsRestart (institutions : List Institution) (rows : List Row) (events : List Event)
    (given : List Reply) (kept found : List Row) : Type 0 where
  pub answered : given ≡ take (length given) (replies institutions rows events)
  pub left : IsLeftOf institutions rows events given kept found
  -- Each institution's replies and records are those of its server alone.
  pub own_before : (i : Institution) → Contains institutions i
      → IsOwnRun institutions rows events i given found
  -- From there on, too, its replies are those of its server alone, with no connection held.
  pub own_after : (i : Institution) → Contains institutions i → (more : List Event)
      → IsTrue (is_well_formed_history more)
      → replies_at (is_own_event institutions i.name more) more (replies institutions found more)
      ≡ replies_alone i found (own institutions i.name more)
