-- The actions in the turn of one connection.
use Rattle.std.specs.Prelude.{◌≡◌, ◌≢◌, ◌≤◌, ℕ, true, false, List, [], ◌∷◌, length, drop, Option, Some, None, Result, Ok, Err}
use Rattle.dq_core.specs.declared.event.Event.{Event}
use Rattle.dq_core.specs.declared.event.Event.TheVariants.{Piece, End, Pull}
use Rattle.dq_core.specs.declared.event.Reply.{Reply}
use Rattle.dq_wires.specs.declared.calls.WireFault.{WireFault}
use Rattle.dq_wires.specs.declared.calls.ReadOutcome.{ReadOutcome}
use Rattle.dq_wires.specs.declared.calls.ReadOutcome.TheVariants as came
use Rattle.dq_wires.specs.declared.calls.Call.{Call}
use Rattle.dq_wires.specs.declared.calls.Call.TheVariants.{Read, Write, Shut}
use Rattle.dq_wires.specs.Limits.{most_read}
use Rattle.dq_wires.specs.HeldConnections.{HeldConnection, with_heard, with_reply}
use Rattle.dq_wires.specs.Steps.{Step}
use Rattle.dq_wires.specs.Steps.Step.{Answered, Asked}

-- what a shut is answered, which is passed over
abbrev pub Shutting : Type 0
Shutting = Result (Unit {0}) WireFault

-- An action for a connection in its turn.
pub data ConnectionAction : Type 0 where
  -- so many of its unsent octets were written
  Sent : ℕ → ConnectionAction
  -- the write failed; its end was stepped, and it was shut
  WriteFailed : Reply → Shutting → ConnectionAction
  -- the write failed, of one that a reply had closed; it was shut
  LastWriteFailed : Shutting → ConnectionAction
  -- it was closed and all was written; it was shut
  Closed : Shutting → ConnectionAction
  -- octets came and were stepped
  Received : List ℕ → Reply → ConnectionAction
  -- nothing came, and no C-FIND is open
  Idle : ConnectionAction
  -- nothing came, and a C-FIND is open; the next of its answers were pulled
  Pulled : Reply → ConnectionAction
  -- the peer left; its end was stepped, and it was shut
  PeerLeft : ReadOutcome → Reply → Shutting → ConnectionAction

-- a connection with unsent octets
abbrev pub IsSending : HeldConnection → Type 0
IsSending wire = wire.unsent ≢ []

-- one on which all was sent that was answered, and which no reply closed
abbrev pub IsListening : HeldConnection → Type 0
IsListening wire = (wire.unsent ≡ []) × (wire.closed ≡ false)

-- a read tells that no more comes
abbrev pub TellsEnd : ReadOutcome → Type 0
TellsEnd (came.Octets octets) = ⊥
TellsEnd came.Nothing = ⊥
TellsEnd came.Ended = Unit {0}
TellsEnd came.Failed = Unit {0}

-- Which connection an action is for: unsent octets are written, a closed one that has none is shut,
-- and from any other is read. Where nothing comes it is asked whether a C-FIND is open.
abbrev pub IsDue : HeldConnection → ConnectionAction → Type 0
IsDue wire (Sent count) = IsSending wire × (count ≤ length wire.unsent)
IsDue wire (WriteFailed reply shut) = IsSending wire × (wire.closed ≡ false)
IsDue wire (LastWriteFailed shut) = IsSending wire × (wire.closed ≡ true)
IsDue wire (Closed shut) = (wire.unsent ≡ []) × (wire.closed ≡ true)
IsDue wire (Received octets reply) = IsListening wire × (length octets ≤ most_read)
IsDue wire Idle = IsListening wire
IsDue wire (Pulled reply) = IsListening wire
IsDue wire (PeerLeft came reply shut) = IsListening wire × TellsEnd came

-- the failure of a write
abbrev pub write_failure : Result ℕ WireFault
write_failure = Err (record {})

-- the calls of the wires for it
abbrev pub action_calls : HeldConnection → ConnectionAction → List Call
action_calls wire (Sent count) = Write wire.place wire.unsent (Ok count) ∷ []
action_calls wire (WriteFailed reply shut) =
    Write wire.place wire.unsent write_failure ∷ Shut wire.place shut ∷ []
action_calls wire (LastWriteFailed shut) = Write wire.place wire.unsent write_failure ∷ Shut wire.place shut ∷ []
action_calls wire (Closed shut) = Shut wire.place shut ∷ []
action_calls wire (Received octets reply) = Read wire.place most_read (came.Octets octets) ∷ []
action_calls wire Idle = Read wire.place most_read came.Nothing ∷ []
action_calls wire (Pulled reply) = Read wire.place most_read came.Nothing ∷ []
action_calls wire (PeerLeft came reply shut) =
    Read wire.place most_read came ∷ Shut wire.place shut ∷ []

abbrev pub event_steps : Event → Reply → List Step
event_steps event reply = Answered event reply ∷ []

-- the events that are stepped, and what is asked, under its own number
abbrev pub action_steps : HeldConnection → ConnectionAction → List Step
action_steps wire (Sent count) = []
action_steps wire (WriteFailed reply shut) = event_steps (End wire.number) reply
action_steps wire (LastWriteFailed shut) = []
action_steps wire (Closed shut) = []
action_steps wire (Received octets reply) = event_steps (Piece wire.number octets) reply
action_steps wire Idle = Asked wire.number false ∷ []
action_steps wire (Pulled reply) = Asked wire.number true ∷ event_steps (Pull wire.number) reply
action_steps wire (PeerLeft came reply shut) = event_steps (End wire.number) reply

-- the connection afterwards, if it is still held
abbrev pub action_after : HeldConnection → ConnectionAction → List HeldConnection
action_after wire (Sent count) = record wire { unsent = drop count wire.unsent } ∷ []
action_after wire (WriteFailed reply shut) = []
action_after wire (LastWriteFailed shut) = []
action_after wire (Closed shut) = []
action_after wire (Received octets reply) = with_reply (with_heard wire octets) reply ∷ []
action_after wire Idle = wire ∷ []
action_after wire (Pulled reply) = with_reply wire reply ∷ []
action_after wire (PeerLeft came reply shut) = []

-- Where the turn of a connection is cut off by a fault.
pub data Break : Type 0 where
  -- octets came, and there is no memory for them
  OutOfMemory : List ℕ → Break
  -- octets came, and the server failed at them
  PieceFailed : List ℕ → Break
  -- nothing came, a C-FIND is open, and the server failed at the pull
  PullFailed : Break
  -- the peer left, and the server failed at the end
  EndFailed : ReadOutcome → Break
  -- the write failed, and the server failed at the end
  EndAfterWriteFailed : Break

abbrev pub IsBreak : HeldConnection → Break → Type 0
IsBreak wire (OutOfMemory octets) = IsListening wire × (length octets ≤ most_read)
IsBreak wire (PieceFailed octets) = IsListening wire × (length octets ≤ most_read)
IsBreak wire PullFailed = IsListening wire
IsBreak wire (EndFailed came) = IsListening wire × TellsEnd came
IsBreak wire EndAfterWriteFailed = IsSending wire × (wire.closed ≡ false)

-- its only call
abbrev pub break_calls : HeldConnection → Break → List Call
break_calls wire (OutOfMemory octets) = Read wire.place most_read (came.Octets octets) ∷ []
break_calls wire (PieceFailed octets) = Read wire.place most_read (came.Octets octets) ∷ []
break_calls wire PullFailed = Read wire.place most_read came.Nothing ∷ []
break_calls wire (EndFailed came) = Read wire.place most_read came ∷ []
break_calls wire EndAfterWriteFailed = Write wire.place wire.unsent write_failure ∷ []

-- the event at which the server failed, if it did
abbrev pub break_event : HeldConnection → Break → Option Event
break_event wire (OutOfMemory octets) = None
break_event wire (PieceFailed octets) = Some (Piece wire.number octets)
break_event wire PullFailed = Some (Pull wire.number)
break_event wire (EndFailed came) = Some (End wire.number)
break_event wire EndAfterWriteFailed = Some (End wire.number)
