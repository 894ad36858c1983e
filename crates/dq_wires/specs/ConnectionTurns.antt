-- How the turn of one connection went. This is there for the prover.
use Rattle.std.specs.Prelude.{◌≡◌, ◌⊎◌, ℕ, Bool, true, false, if◌then◌else◌, List, [], ◌∷◌, Option, Some, None}
use Rattle.dq_core.specs.declared.event.Event.{Event}
use Rattle.dq_core.specs.declared.event.Event.TheVariants.{Piece, End, Pull}
use Rattle.dq_core.specs.declared.event.Reply.{Reply}
use Rattle.dq_core.specs.declared.fault.Fault.{Fault}
use Rattle.dq_wires.specs.declared.calls.Call.{Call}
use Rattle.dq_wires.specs.declared.calls.Call.TheVariants.{Shut}
use Rattle.dq_wires.specs.declared.fault.TurnFault.{TurnFault}
use Rattle.dq_wires.specs.Logs.{Logs, LogsAll}
use Rattle.dq_wires.specs.HeldConnections.{HeldConnection, with_heard, with_reply}
use Rattle.dq_wires.specs.Steps.{Step, Runs, StopsBy}
use Rattle.dq_wires.specs.Steps.Step.{Answered, Asked}
use Rattle.dq_wires.specs.ConnectionActions.{Shutting, ConnectionAction, IsDue, action_calls, action_steps, action_after, Break, IsBreak, break_calls, break_event}

-- The end of a connection was stepped, and it was shut.
pub record Ends {State : Type 0} (Goes : State → State → Step → Type 0)
    (before after : Option (List Call)) (old new : State) (wire : HeldConnection) : Type 0 where
  pub reply : Reply
  pub answer : Shutting
  pub goes : Goes old new (Answered (End wire.number) reply)
  pub calls : Logs before after (Shut wire.place answer)

-- Octets were stepped, and the connection keeps the answer.
pub record Hears {State : Type 0} (Goes : State → State → Step → Type 0)
    (old new : State) (wire next : HeldConnection) (octets : List ℕ) : Type 0 where
  pub reply : Reply
  pub goes : Goes old new (Answered (Piece wire.number octets) reply)
  pub kept : next ≡ with_reply (with_heard wire octets) reply

-- A C-FIND is open, and was pulled; the connection keeps the answer.
pub record Pulls {State : Type 0} (Goes : State → State → Step → Type 0)
    (old new : State) (wire next : HeldConnection) : Type 0 where
  pub mid : State
  pub reply : Reply
  pub is_open : Goes old mid (Asked wire.number true)
  pub goes : Goes mid new (Answered (Pull wire.number) reply)
  pub kept : next ≡ with_reply wire reply

-- No C-FIND is open, or it was pulled.
abbrev pub Waits : {State : Type 0} → (State → State → Step → Type 0) → State → State → HeldConnection
    → HeldConnection → Type 0
Waits Goes old new wire next = (Goes old new (Asked wire.number false) × (next ≡ wire))
    ⊎ (Pulls Goes old new wire next)

-- There was no memory for the octets, or the server failed at them.
abbrev pub FailsToHear : {State : Type 0} → (State → State → Event → Fault → Type 0)
    → State → State → HeldConnection → List ℕ → TurnFault → Type 0
FailsToHear Fails old new wire octets fault = (StopsBy Fails old new None fault)
    ⊎ (StopsBy Fails old new (Some (Piece wire.number octets)) fault)

-- An action was done, and the connection is still held or not.
pub record ActionDone {State : Type 0} (Goes : State → State → Step → Type 0)
    (before after : Option (List Call)) (old new : State) (wire next : HeldConnection)
    (held : Bool) : Type 0 where
  pub action : ConnectionAction
  pub due : IsDue wire action
  pub calls : LogsAll before after (action_calls wire action)
  pub steps : Runs Goes old new (action_steps wire action)
  pub kept : action_after wire action ≡ (if held then next ∷ [] else [])

-- It was cut off by a fault.
pub record ActionCut {State : Type 0} (Fails : State → State → Event → Fault → Type 0)
    (before after : Option (List Call)) (old new : State) (wire : HeldConnection)
    (fault : TurnFault) : Type 0 where
  pub at : Break
  pub fits : IsBreak wire at
  pub calls : LogsAll before after (break_calls wire at)
  pub stops : StopsBy Fails old new (break_event wire at) fault
