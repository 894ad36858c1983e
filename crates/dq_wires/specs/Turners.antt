-- A turner as contracts see it.
use Rattle.std.specs.Prelude.{◌≡◌, ◌+◌, ◌&&◌, ℕ, Bool, not, IsTrue, List, [], ◌∷◌, ◌++◌, Option, Some, None, IfSome, Result, Ok, Err}
use Rattle.dq_core.specs.declared.event.Event.{Event}
use Rattle.dq_core.specs.declared.event.Event.TheVariants.{Open, Piece, End, Pull, Schedule, Withdraw}
use Rattle.dq_core.specs.Histories.{is_above}
use Rattle.dq_core.specs.Slots.{has_search}
use Rattle.dq_core.specs.ServerView.{ServerView}
use Rattle.dq_wires.specs.declared.calls.Call.{Call}
use Rattle.dq_wires.specs.declared.calls.Call.TheVariants.{Accept}
use Rattle.dq_wires.specs.declared.fault.TurnFault.{TurnFault}
use Rattle.dq_wires.specs.declared.fault.TurnFault.TheVariants.{NoMemory, Server, Network}
use Rattle.dq_wires.specs.HeldConnections.{HeldConnection}
use Rattle.dq_wires.specs.Logs.{one_more_failure}
use Rattle.dq_wires.specs.Turns.{Hold, accept_failure}

-- Its server, the connections that are held, and the fault that stopped it.
pub record TurnerView (Tables : Type 0) : Type 0 where
  pub server : ServerView Tables
  pub hold : Hold
  pub fault : Option TurnFault

-- A C-FIND is open on a connection, of which answers remain. After a fault none is.
abbrev pub is_searching : {Tables : Type 0} → ServerView Tables → HeldConnection → Bool
is_searching server wire = not server.spent && has_search wire.number server.slots

-- The number after a given one can be opened.
abbrev pub NextOpens : Option ℕ → ℕ → Type 0
NextOpens newest number = IsTrue (is_above newest (number + 1))

-- an order of the console
abbrev pub IsOrder : Event → Type 0
IsOrder (Open number) = ⊥
IsOrder (Piece number octets) = ⊥
IsOrder (End number) = ⊥
IsOrder (Pull number) = ⊥
IsOrder (Schedule institution octets) = Unit {0}
IsOrder (Withdraw institution id) = Unit {0}

-- The first fault stays.
abbrev pub first_fault : Option TurnFault → TurnFault → TurnFault
first_fault None fault = fault
first_fault (Some earlier) fault = earlier

-- The last call that is told is an accept that failed.
abbrev pub EndsInFailedAccept : Option (List Call) → Type 0
EndsInFailedAccept log = IfSome log (λ calls.
    (earlier : List Call) × (calls ≡ earlier ++ Accept accept_failure ∷ []))

-- The count of failed accepts after turns: one more where no connection could be accepted.
abbrev pub failures_after_turns : ℕ → Result (Unit {0}) TurnFault → ℕ
failures_after_turns count (Ok done) = count
failures_after_turns count (Err NoMemory) = count
failures_after_turns count (Err (Server fault)) = count
failures_after_turns count (Err Network) = one_more_failure count
