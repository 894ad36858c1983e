-- Turns of all connections that are held.
use Rattle.std.specs.Prelude.{◌≡◌, ◌<◌, ◌+◌, ◌-◌, ◌^◌, ℕ, Bool, true, false, nat_lt, ◌&&◌, List, [], ◌∷◌, ◌++◌, length, map, Option, Some, None, Result, Ok, Err}
use Rattle.std.specs.List.{flat_map}
use Rattle.dq_core.specs.declared.event.Event.{Event}
use Rattle.dq_core.specs.declared.event.Event.TheVariants.{Open}
use Rattle.dq_core.specs.declared.event.Reply.{Reply}
use Rattle.dq_core.specs.declared.fault.Fault.{Fault}
use Rattle.dq_wires.specs.declared.calls.WireFault.{WireFault}
use Rattle.dq_wires.specs.declared.calls.Call.{Call}
use Rattle.dq_wires.specs.declared.calls.Call.TheVariants.{Accept}
use Rattle.dq_wires.specs.declared.fault.TurnFault.{TurnFault}
use Rattle.dq_wires.specs.declared.fault.TurnFault.TheVariants.{Network}
use Rattle.dq_wires.specs.Limits.{most_wires}
use Rattle.dq_wires.specs.Logs.{LogsAll}
use Rattle.dq_wires.specs.HeldConnections.{HeldConnection, new_held}
use Rattle.dq_wires.specs.Steps.{Step, Runs, StopsBy}
use Rattle.dq_wires.specs.ConnectionActions.{ConnectionAction, IsDue, action_calls, action_steps, action_after, event_steps, Break, IsBreak, break_calls, break_event}

-- A connection as its turn came, and what was done.
pub record Done : Type 0 where
  pub wire : HeldConnection
  pub action : ConnectionAction

abbrev pub connection_of : Done → HeldConnection
connection_of d = d.wire

abbrev pub calls_of : Done → List Call
calls_of d = action_calls d.wire d.action

abbrev pub done_steps : Done → List Step
done_steps d = action_steps d.wire d.action

abbrev pub connections_kept : Done → List HeldConnection
connections_kept d = action_after d.wire d.action

-- each action is one for its connection
abbrev pub AreDue : List Done → Type 0
AreDue [] = Unit {0}
AreDue (d ∷ done) = IsDue d.wire d.action × AreDue done

-- the connections that are held, by rising number, and the number that was given last
pub record Hold : Type 0 where
  pub held : List HeldConnection
  pub newest : ℕ

abbrev pub greatest_number : ℕ
greatest_number = 2 ^ 64 - 1

-- whether there is room for one more, and a number
abbrev pub has_room_for_connection : Hold → Bool
has_room_for_connection h = nat_lt (length h.held) most_wires && nat_lt h.newest greatest_number

-- How a turn begins.
pub data Taking : Type 0 where
  -- no connection is asked for
  Full : Taking
  -- none came
  Nobody : Taking
  -- one came at this place, and was opened under this number
  NewConnection : ℕ → ℕ → Reply → Taking

-- One is asked for where there is room, and has the next number.
abbrev pub IsTaking : Hold → Taking → Type 0
IsTaking h Full = has_room_for_connection h ≡ false
IsTaking h Nobody = has_room_for_connection h ≡ true
IsTaking h (NewConnection place number reply) = (has_room_for_connection h ≡ true) × (number ≡ h.newest + 1)

abbrev pub taking_calls : Taking → List Call
taking_calls Full = []
taking_calls Nobody = Accept (Ok None) ∷ []
taking_calls (NewConnection place number reply) = Accept (Ok (Some place)) ∷ []

abbrev pub taking_steps : Taking → List Step
taking_steps Full = []
taking_steps Nobody = []
taking_steps (NewConnection place number reply) = event_steps (Open number) reply

-- the new connection is held last
abbrev pub with_taken : Hold → Taking → Hold
with_taken h Full = h
with_taken h Nobody = h
with_taken h (NewConnection place number reply) =
    record { held = h.held ++ new_held place number ∷ []; newest = number }

-- a turn of all
pub record Turn : Type 0 where
  pub taking : Taking
  pub done : List Done

-- Every connection that is held has one action, the new one too, in order.
pub record IsTurn (h : Hold) (t : Turn) : Type 0 where
  pub takes : IsTaking h t.taking
  pub each : map connection_of t.done ≡ (with_taken h t.taking).held
  pub due : AreDue t.done

abbrev pub turn_calls : Turn → List Call
turn_calls t = taking_calls t.taking ++ flat_map calls_of t.done

abbrev pub turn_steps : Turn → List Step
turn_steps t = taking_steps t.taking ++ flat_map done_steps t.done

abbrev pub after_turn : Hold → Turn → Hold
after_turn h t =
    record { held = flat_map connections_kept t.done; newest = (with_taken h t.taking).newest }

-- turns one after the other
abbrev pub AreTurns : Hold → List Turn → Type 0
AreTurns h [] = Unit {0}
AreTurns h (t ∷ turns) = IsTurn h t × AreTurns (after_turn h t) turns

abbrev pub after_turns : Hold → List Turn → Hold
after_turns h [] = h
after_turns h (t ∷ turns) = after_turns (after_turn h t) turns

abbrev pub all_calls : List Turn → List Call
all_calls turns = flat_map turn_calls turns

abbrev pub all_steps : List Turn → List Step
all_steps turns = flat_map turn_steps turns

-- Where a turn is cut off by a fault.
pub data Cut : Type 0 where
  -- before any call: there is no memory for one more connection, or for what is read
  NoRoom : Cut
  -- no connection can be accepted
  AcceptFailed : Cut
  -- one came at this place, and the server failed at its opening, under this number
  OpenFailed : ℕ → ℕ → Cut
  -- after the turns of some connections, in that of another
  Midway : Taking → List Done → HeldConnection → Break → Cut

-- The turn was one up to there.
pub record IsMidway (h : Hold) (taking : Taking) (done : List Done) (wire : HeldConnection)
    (at : Break) : Type 0 where
  pub takes : IsTaking h taking
  pub others : List HeldConnection
  pub each : map connection_of done ++ wire ∷ others ≡ (with_taken h taking).held
  pub due : AreDue done
  pub breaks : IsBreak wire at

abbrev pub IsCut : Hold → Cut → Type 0
IsCut h NoRoom = Unit {0}
IsCut h AcceptFailed = has_room_for_connection h ≡ true
IsCut h (OpenFailed place number) = (has_room_for_connection h ≡ true) × (number ≡ h.newest + 1)
IsCut h (Midway taking done wire at) = IsMidway h taking done wire at

-- the failure of an accept
abbrev pub accept_failure : Result (Option ℕ) WireFault
accept_failure = Err (record {})

-- its calls
abbrev pub cut_calls : Cut → List Call
cut_calls NoRoom = []
cut_calls AcceptFailed = Accept accept_failure ∷ []
cut_calls (OpenFailed place number) = Accept (Ok (Some place)) ∷ []
cut_calls (Midway taking done wire at) =
    taking_calls taking ++ (flat_map calls_of done ++ break_calls wire at)

-- the events that were answered in it
abbrev pub cut_steps : Cut → List Step
cut_steps NoRoom = []
cut_steps AcceptFailed = []
cut_steps (OpenFailed place number) = []
cut_steps (Midway taking done wire at) = taking_steps taking ++ flat_map done_steps done

-- what the fault is, and of which event
abbrev pub CutStops : {State : Type 0} → (State → State → Event → Fault → Type 0)
    → State → State → Cut → TurnFault → Type 0
CutStops Fails old new NoRoom fault = StopsBy Fails old new None fault
CutStops Fails old new AcceptFailed fault = (new ≡ old) × (fault ≡ Network)
CutStops Fails old new (OpenFailed place number) fault =
    StopsBy Fails old new (Some (Open number)) fault
CutStops Fails old new (Midway taking done wire at) fault =
    StopsBy Fails old new (break_event wire at) fault

-- So many turns went to their end: the calls of the wires are exactly theirs, the server was led by
-- exactly their events with these replies, and what is held afterwards is what they leave.
pub record TurnsWent {State : Type 0} (Goes : State → State → Step → Type 0)
    (before after : Option (List Call)) (old new : State) (from to : Hold)
    (count : ℕ) : Type 0 where
  pub turns : List Turn
  pub whole : length turns ≡ count
  pub are : AreTurns from turns
  pub calls : LogsAll before after (all_calls turns)
  pub steps : Runs Goes old new (all_steps turns)
  pub leaves : to ≡ after_turns from turns

-- Fewer turns went to their end, and the next was cut off by a fault: the calls are exactly theirs
-- and its own up to there, and so are the events that were answered.
pub record TurnsCut {State : Type 0} (Goes : State → State → Step → Type 0)
    (Fails : State → State → Event → Fault → Type 0) (before after : Option (List Call))
    (old new : State) (from : Hold) (count : ℕ) (fault : TurnFault) : Type 0 where
  pub turns : List Turn
  pub fewer : length turns < count
  pub are : AreTurns from turns
  pub cut : Cut
  pub fits : IsCut (after_turns from turns) cut
  pub calls : LogsAll before after (all_calls turns ++ cut_calls cut)
  pub mid : State
  pub steps : Runs Goes old mid (all_steps turns ++ cut_steps cut)
  pub stops : CutStops Fails mid new cut fault
