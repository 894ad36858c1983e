-- A serving: what a turner does from its beginning on, one call after the other.
use Rattle.std.specs.Prelude.{◌≡◌, ◌⊎◌, ℕ, List, [], ◌∷◌, ◌++◌, map, Option}
use Rattle.std.specs.List.{flat_map}
use Rattle.dq_tables.specs.declared.row.Row.{Row}
use Rattle.dq_tables.specs.TableStates.{State}
use Rattle.dq_core.specs.declared.event.Event.{Event}
use Rattle.dq_core.specs.declared.event.Reply.{Reply}
use Rattle.dq_core.specs.Own.{Output, Octet, Close, is_on_connection, replies_at}
use Rattle.dq_core.specs.ServerView.{ServerView, Refines}
use Rattle.dq_core.specs.Looking.{Looked}
use Rattle.dq_wires.specs.declared.calls.Call.{Call}
use Rattle.dq_wires.specs.Logs.{LogsAll}
use Rattle.dq_wires.specs.HeldConnections.{reply_octets}
use Rattle.dq_wires.specs.Steps.{Step, Runs, events_of, replies_of}
use Rattle.dq_wires.specs.ServerSteps.{Moves}
use Rattle.dq_wires.specs.ConnectionActions.{event_steps}
use Rattle.dq_wires.specs.Turns.{Done, Hold, Turn, IsTurn, turn_calls, turn_steps, after_turn, Cut, IsCut, cut_steps}
use Rattle.dq_wires.specs.Turns.Cut.{NoRoom, AcceptFailed, OpenFailed, Midway}
use Rattle.dq_wires.specs.Turners.{IsOrder}
use Rattle.dq_wires.specs.Octets.{written_in, done_on}

-- One turn of all connections, or an order of the console with its reply.
pub data Act : Type 0 where
  Turned : Turn → Act
  Ordered : Event → Reply → Act

abbrev pub act_calls : Act → List Call
act_calls (Turned t) = turn_calls t
act_calls (Ordered event reply) = []

abbrev pub act_steps : Act → List Step
act_steps (Turned t) = turn_steps t
act_steps (Ordered event reply) = event_steps event reply

abbrev pub act_done : Act → List Done
act_done (Turned t) = t.done
act_done (Ordered event reply) = []

-- as a turner begins
abbrev pub nothing_held : Hold
nothing_held = record { held = []; newest = 0 }

-- acts one after the other
abbrev pub AreActs : Hold → List Act → Type 0
AreActs h [] = Unit {0}
AreActs h (Turned t ∷ acts) = IsTurn h t × AreActs (after_turn h t) acts
AreActs h (Ordered event reply ∷ acts) = IsOrder event × AreActs h acts

abbrev pub after_acts : Hold → List Act → Hold
after_acts h [] = h
after_acts h (Turned t ∷ acts) = after_acts (after_turn h t) acts
after_acts h (Ordered event reply ∷ acts) = after_acts h acts

-- whole turns
abbrev pub all_turned : List Turn → List Act
all_turned turns = map (λ (t : Turn). Turned t) turns

-- By these steps a server has come from the first to where it is. From the last of them on one has
-- only looked at it.
pub record ComesBy {Tables : Type 0} (state : Tables → State) (first now : ServerView Tables)
    (steps : List Step) : Type 0 where
  pub last : ServerView Tables
  pub runs : Runs (Moves state) first last steps
  pub looks : Looked state last now

-- A serving that goes on: by these acts a server that stands for no event, over the rows that are
-- there, and that holds no connection, has come to where it is.
pub record Serving {Tables : Type 0} (state : Tables → State) (rows : List Row)
    (before after : Option (List Call)) (first now : ServerView Tables) (hold : Hold)
    (acts : List Act) : Type 0 where
  pub begins : Refines state rows first []
  pub are : AreActs nothing_held acts
  pub leaves : hold ≡ after_acts nothing_held acts
  pub calls : LogsAll before after (flat_map act_calls acts)
  pub steps : ComesBy state first now (flat_map act_steps acts)

-- the turns of connections before a fault
abbrev pub cut_done : Cut → List Done
cut_done NoRoom = []
cut_done AcceptFailed = []
cut_done (OpenFailed place number) = []
cut_done (Midway taking done wire at) = done

abbrev pub served_steps : List Act → Cut → List Step
served_steps acts cut = flat_map act_steps acts ++ cut_steps cut

abbrev pub served_done : List Act → Cut → List Done
served_done acts cut = flat_map act_done acts ++ cut_done cut

-- The outcome of a serving: its acts, and the part of a turn that a fault cut off. If no fault did, this part is one
-- before any call.
pub record Served {Tables : Type 0} (state : Tables → State) (rows : List Row)
    (first last : ServerView Tables) (acts : List Act) (cut : Cut) : Type 0 where
  pub begins : Refines state rows first []
  pub are : AreActs nothing_held acts
  pub fits : IsCut (after_acts nothing_held acts) cut
  pub steps : ComesBy state first last (served_steps acts cut)

-- the events that were answered, in order: what came
abbrev pub served_events : List Act → Cut → List Event
served_events acts cut = events_of (served_steps acts cut)

-- the octets that were written to the wire of the connection with a number
abbrev pub written_on : ℕ → List Act → Cut → List ℕ
written_on number acts cut = done_on number written_in (served_done acts cut)

-- those of the replies on this connection
abbrev pub answered_on : ℕ → List Act → Cut → List ℕ
answered_on number acts cut =
    let steps = served_steps acts cut in
    flat_map reply_octets (replies_at (is_on_connection number) (events_of steps) (replies_of steps))

-- the octets among what a server does on a connection
abbrev pub octets_among : List Output → List ℕ
octets_among [] = []
octets_among (Octet octet ∷ outputs) = octet ∷ octets_among outputs
octets_among (Close ∷ outputs) = octets_among outputs

-- the first of the others
abbrev pub IsFrontOf : List ℕ → List ℕ → Type 0
IsFrontOf front whole = (later : List ℕ) × (front ++ later ≡ whole)

-- one list begins the other
abbrev pub OneBegins : List ℕ → List ℕ → Type 0
OneBegins some more = IsFrontOf some more ⊎ IsFrontOf more some
