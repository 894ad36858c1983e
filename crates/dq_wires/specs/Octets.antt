-- The octets of a connection: answered, written, lost with it, and unsent.
use Rattle.std.specs.Prelude.{◌<◌, ◌≤◌, ◌==◌, ℕ, if◌then◌else◌, List, [], ◌∷◌, ◌++◌, take, Ok, Err}
use Rattle.std.specs.List.{flat_map}
use Rattle.dq_wires.specs.declared.calls.Call.{Call}
use Rattle.dq_wires.specs.declared.calls.Call.TheVariants.{Accept, Read, Write, Shut}
use Rattle.dq_wires.specs.HeldConnections.{HeldConnection, reply_octets}
use Rattle.dq_wires.specs.Steps.{replies_of}
use Rattle.dq_wires.specs.ConnectionActions.{ConnectionAction}
use Rattle.dq_wires.specs.ConnectionActions.ConnectionAction.{Sent, WriteFailed, LastWriteFailed, Closed, Received, Idle, Pulled, PeerLeft}
use Rattle.dq_wires.specs.Turns.{Done, calls_of, done_steps, Hold, Turn}

-- those of the replies to its events
abbrev pub answered_in : Done → List ℕ
answered_in d = flat_map reply_octets (replies_of (done_steps d))

-- those that a call took
abbrev pub octets_taken : Call → List ℕ
octets_taken (Accept answer) = []
octets_taken (Read place room came) = []
octets_taken (Write place octets (Ok count)) = take count octets
octets_taken (Write place octets (Err fault)) = []
octets_taken (Shut place answer) = []

abbrev pub written_in : Done → List ℕ
written_in d = flat_map octets_taken (calls_of d)

-- what had not been written when a connection was given up
abbrev pub action_lost : HeldConnection → ConnectionAction → List ℕ
action_lost wire (Sent count) = []
action_lost wire (WriteFailed reply shut) = wire.unsent ++ reply_octets reply
action_lost wire (LastWriteFailed shut) = wire.unsent
action_lost wire (Closed shut) = []
action_lost wire (Received octets reply) = []
action_lost wire Idle = []
action_lost wire (Pulled reply) = []
action_lost wire (PeerLeft came reply shut) = reply_octets reply

abbrev pub lost_in : Done → List ℕ
lost_in d = action_lost d.wire d.action

abbrev pub unsent_of : HeldConnection → List ℕ
unsent_of wire = wire.unsent

-- those of the connection with a number
abbrev pub on : ℕ → ℕ → List ℕ → List ℕ
on number other octets = if other == number then octets else []

abbrev pub held_on : ℕ → List HeldConnection → List ℕ
held_on number held = flat_map (λ (w : HeldConnection). on number w.number w.unsent) held

abbrev pub done_on : ℕ → (Done → List ℕ) → List Done → List ℕ
done_on number octets done = flat_map (λ (d : Done). on number d.wire.number (octets d)) done

-- what was done in turns, one after the other
abbrev pub done_of : Turn → List Done
done_of t = t.done

abbrev pub turns_done : List Turn → List Done
turns_done turns = flat_map done_of turns

-- Numbers rise strictly from above the first to the second at most.
abbrev pub RisesTo : ℕ → ℕ → List HeldConnection → Type 0
RisesTo low high [] = low ≤ high
RisesTo low high (w ∷ held) = (low < w.number) × RisesTo w.number high held

-- The connections that are held have rising numbers, none above the newest.
abbrev pub IsNumbered : Hold → Type 0
IsNumbered h = RisesTo 0 h.newest h.held
