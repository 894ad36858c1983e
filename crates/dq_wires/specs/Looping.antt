-- A capture that clients play.
use Rattle.std.specs.Prelude.{◌≡◌, ◌≢◌, ◌⊎◌, ◌+◌, ◌==◌, ℕ, Bool, true, List, [], ◌∷◌, ◌++◌, length, Option, Some, None, IfSome, option_map}
use Rattle.std.specs.List.{flat_map, position}
use Rattle.dq_tables.specs.TableStates.{State}
use Rattle.dq_core.specs.declared.event.Event.{Event}
use Rattle.dq_core.specs.declared.event.Event.TheVariants.{Open, Piece, End, Pull, Schedule, Withdraw}
use Rattle.dq_core.specs.Histories.{opened_numbers}
use Rattle.dq_wires.specs.declared.calls.Call.{Call}
use Rattle.dq_wires.specs.declared.loopback.looping.CaptureConnection.{CaptureConnection}
use Rattle.dq_wires.specs.declared.loopback.looping.Sent.{Sent}
use Rattle.dq_wires.specs.declared.loopback.looping.Wanted.{Wanted}
use Rattle.dq_wires.specs.declared.loopback.looping.Wanted.TheVariants as wanted
use Rattle.dq_wires.specs.Logs.{LogsAll}
use Rattle.dq_wires.specs.HeldConnections.{HeldConnection, connection_with}
use Rattle.dq_wires.specs.Steps.{Runs}
use Rattle.dq_wires.specs.ServerSteps.{Moves}
use Rattle.dq_wires.specs.Turns.{Hold}
use Rattle.dq_wires.specs.Turners.{TurnerView}
use Rattle.dq_wires.specs.Servings.{Act, act_calls, act_steps, AreActs, after_acts}
use Rattle.dq_wires.specs.Servings.Act.{Turned, Ordered}

-- the orders of the console among events, in order
abbrev pub orders_of : List Event → List Event
orders_of [] = []
orders_of (Open number ∷ events) = orders_of events
orders_of (Piece number octets ∷ events) = orders_of events
orders_of (End number ∷ events) = orders_of events
orders_of (Pull number ∷ events) = orders_of events
orders_of (Schedule institution octets ∷ events) = Schedule institution octets ∷ orders_of events
orders_of (Withdraw institution id ∷ events) = Withdraw institution id ∷ orders_of events

-- those that were stepped in acts
abbrev pub ordered_in : List Act → List Event
ordered_in [] = []
ordered_in (Turned t ∷ acts) = ordered_in acts
ordered_in (Ordered event reply ∷ acts) = event ∷ ordered_in acts

-- the number of a connection in the capture
abbrev pub capture_number : CaptureConnection → ℕ
capture_number line = line.number

abbrev pub has_number : ℕ → CaptureConnection → Bool
has_number number line = line.number == number

abbrev pub sent_number : Sent → ℕ
sent_number sent = sent.number

-- The server's number of a connection. It counts them from 1, as they are opened; these are their
-- numbers in the capture.
abbrev pub given_to : ℕ → List ℕ → Option ℕ
given_to number opened = option_map (λ at. at + 1) (position (λ other. other == number) opened)

-- A piece reached the server: so many more octets were heard on its connection, or a reply has
-- closed it. One that the server had let go of before hears nothing.
abbrev pub IsHeard : List ℕ → Option HeldConnection → Option HeldConnection → Type 0
IsHeard octets None after = Unit {0}
IsHeard octets (Some before) None = ⊥
IsHeard octets (Some before) (Some after) =
    (after.heard ≡ before.heard + length octets) ⊎ (after.closed ≡ true)

-- An event of a capture came about, after the opening of these connections. An opened one is held
-- by the server, under the next number; of one that ended it has let go.
abbrev pub IsPlayed : List ℕ → Event → Hold → Hold → Type 0
IsPlayed opened (Open number) before after = (before.newest ≡ length opened)
    × (after.newest ≡ length opened + 1) × (connection_with after.newest after.held ≢ None)
IsPlayed opened (Piece number octets) before after = IfSome (given_to number opened) (λ given.
    IsHeard octets (connection_with given before.held) (connection_with given after.held))
IsPlayed opened (End number) before after = IfSome (given_to number opened) (λ given.
    connection_with given after.held ≡ None)
IsPlayed opened (Pull number) before after = Unit {0}
IsPlayed opened (Schedule institution octets) before after = Unit {0}
IsPlayed opened (Withdraw institution id) before after = Unit {0}

-- By these acts the events of a capture came about, after earlier ones, each before the next: each
-- has acts of its own, and an order of the console is the only one that is stepped in them.
abbrev pub ArePlayed : List Event → Hold → List Event → List Act → Type 0
ArePlayed earlier before [] acts = acts ≡ []
ArePlayed earlier before (event ∷ events) acts = (own : List Act) × (later : List Act)
    × (acts ≡ own ++ later)
    × (ordered_in own ≡ orders_of (event ∷ []))
    × IsPlayed (opened_numbers earlier) event before (after_acts before own)
    × ArePlayed (earlier ++ event ∷ []) (after_acts before own) events later

-- The condition that is awaited on a connection has come about.
abbrev pub IsCome : Wanted → Option HeldConnection → Type 0
IsCome goal None = Unit {0}
IsCome (wanted.Heard count) (Some wire) = (wire.heard ≡ count) ⊎ (wire.closed ≡ true)
IsCome wanted.Gone (Some wire) = ⊥

-- By these acts a turner has come from one state to another, without a fault.
pub record Acted {Tables : Type 0} (state : Tables → State) (before after : Option (List Call))
    (old new : TurnerView Tables) (acts : List Act) : Type 0 where
  pub are : AreActs old.hold acts
  pub leaves : new.hold ≡ after_acts old.hold acts
  pub calls : LogsAll before after (flat_map act_calls acts)
  pub steps : Runs (Moves state) old.server new.server (flat_map act_steps acts)
  pub working : new.fault ≡ None

-- by acts with these orders among them
abbrev pub ActsOn : {Tables : Type 0} → (Tables → State) → Option (List Call) → Option (List Call)
    → TurnerView Tables → TurnerView Tables → List Event → Type 0
ActsOn state before after old new orders =
    (acts : List Act) × (ordered_in acts ≡ orders) × Acted state before after old new acts

-- by acts that play events of a capture
abbrev pub PlaysOn : {Tables : Type 0} → (Tables → State) → Option (List Call)
    → Option (List Call) → TurnerView Tables → TurnerView Tables → List Event → Type 0
PlaysOn state before after old new events =
    (acts : List Act) × ArePlayed [] old.hold events acts × Acted state before after old new acts
