-- A replay over a store is exact, by the law of dq_core.
use Rattle.std.specs.Prelude.{◌≡◌, ℕ, List, length, take, Some, IsTrue}
use Rattle.dq_config.specs.declared.config.Institution.{Institution}
use Rattle.dq_tables.specs.declared.row.Row.{Row}
use Rattle.dq_core.specs.declared.event.Event.{Event}
use Rattle.dq_core.specs.declared.event.Reply.{Reply}
use Rattle.dq_core.specs.Histories.{is_well_formed_history}
use Rattle.dq_core.specs.Owners.{owner}
use Rattle.dq_core.specs.Own.{stream_of}
use Rattle.dq_core.specs.Runs.{IsRun}
use Rattle.dq_core.specs.Soundness.{HoldSound, BringOctets}
use Rattle.dq_core.specs.Conversations.{IsAnsweredRun}
use Rattle.dq_captures.specs.Captures.{AreCapture}
use Rattle.dq_app.specs.Replays.{IsExactReplay}

-- the clause `exact` of `associations_are_answered_in_full`
abbrev pub AreExactRuns : Type 0
AreExactRuns = (institutions : List Institution) (rows : List Row) (events : List Event) (given : List Reply) (kept : List Row) (number : ℕ) (i : Institution)
    → IsRun institutions rows events given kept → IsTrue (is_well_formed_history events) → HoldSound rows → BringOctets events
    → owner institutions (stream_of number (take (length given) events)) ≡ Some i → IsAnsweredRun institutions rows events given number i

pub replayed : AreExactRuns → (stored : List Row → Type 0) (lines : List (List ℕ)) (institutions : List Institution) (rows : List Row)
    (events : List Event) (given : List Reply) (kept : List Row) → ((held : List Row) → stored held → rows ≡ held) → AreCapture lines events → HoldSound rows
    → BringOctets events → IsRun institutions rows events given kept → IsExactReplay stored lines institutions given kept
replayed law stored lines institutions rows events given kept of_store told sound octets ran = record {
  rows = rows;
  events = events;
  of_store = of_store;
  told = told;
  run = ran;
  exact = λ number i owned. law institutions rows events given kept number i ran told.rising sound octets owned;
}
