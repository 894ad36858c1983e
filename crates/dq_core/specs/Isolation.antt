-- The definition of isolation: one institution's replies and records do not depend on the others.
use Rattle.std.specs.Prelude.{◌≡◌, ℕ, zero, Bool, IsTrue, if◌then◌else◌, List, [], ◌∷◌, ◌++◌, length, filter, take, drop, Contains}
use Rattle.dq_config.specs.declared.config.Institution.{Institution}
use Rattle.dq_core.specs.declared.event.Event.{Event}
use Rattle.dq_core.specs.declared.event.Reply.{Reply}
use Rattle.dq_tables.specs.declared.row.Row.{Row}
use Rattle.dq_config.specs.Limits.{limits_of}
use Rattle.dq_tables.specs.Rows.{of, rows_named, IsRising}
use Rattle.dq_core.specs.Owners.{HaveOwnNames}
use Rattle.dq_core.specs.Histories.{is_well_formed_history}
use Rattle.dq_core.specs.Shared.{World, replies, world_after, rows_within}
use Rattle.dq_core.specs.Own.{is_own_event, own}

-- the own events of an institution among the first that were answered
abbrev pub own_among : List Institution → List ℕ → List Event → ℕ → List Event
own_among institutions name events answered =
    filter (is_own_event institutions name events) (take answered events)

-- An institution's server alone is the same server, configured with it alone, over its rows: those
-- under its name. This is what it replies to events.
abbrev pub replies_alone : Institution → List Row → List Event → List Reply
replies_alone i rows events = replies (i ∷ []) (rows_named i.name rows) events

-- what it holds and keeps after them
abbrev pub world_alone : Institution → List Row → List Event → World
world_alone i rows events = world_after (i ∷ []) (rows_named i.name rows) events

-- its replies to the own events among the first that were answered
abbrev pub own_replies : List Institution → List Row → List Event → Institution → ℕ → List Reply
own_replies institutions rows events i answered =
    replies_alone i rows (own_among institutions i.name events answered)

-- how many operations of the next event are the institution's: none where the event is not its own
abbrev pub own_operations : (Event → Bool) → List Event → ℕ → ℕ
own_operations mine [] operations = zero
own_operations mine (event ∷ events) operations = if mine event then operations else zero

-- its rows after these events, and after the first operations of the next event
abbrev pub own_rows_within : List Institution → List Row → List Event → Institution → ℕ → ℕ
    → List Row
own_rows_within institutions rows events i answered operations =
    rows_within (i ∷ []) (rows_named i.name rows) (own institutions i.name events)
    (length (own_among institutions i.name events answered))
    (own_operations (is_own_event institutions i.name events) (drop answered events) operations)

-- The replies of one that nobody owns: those of a server without institutions.
abbrev pub stranger_replies : List Event → List Reply
stranger_replies events = replies [] [] events

-- A history of a configuration that has the institution, over rows in their order: no two
-- institutions have one name, and opened numbers rise.
pub record Begins (institutions : List Institution) (rows : List Row) (events : List Event)
    (i : Institution) : Type 0 where
  pub own_names : HaveOwnNames institutions
  pub listed : Contains institutions i
  pub rising : IsRising rows
  pub well_formed : IsTrue (is_well_formed_history events)

-- Two histories agree for an institution that both configurations have: the limits are the same,
-- the records as the histories begin, and the own events. Nothing is asked of the routes, which
-- tell whose an event is and no more, and nothing of any other institution.
pub record Agree (institutions others : List Institution) (rows other_rows : List Row)
    (events other_events : List Event) (i j : Institution) : Type 0 where
  pub name : i.name ≡ j.name
  pub limits : limits_of i ≡ limits_of j
  pub records : of i.name rows ≡ of j.name other_rows
  pub own_events : own institutions i.name events ≡ own others j.name other_events

-- the first of the others
abbrev pub IsPrefix : List Reply → List Reply → Type 0
IsPrefix first whole = (later : List Reply) × (first ++ later ≡ whole)
