-- What an order of the console leaves, and why an accept failed.
use Rattle.std.proofs.Common.{◌≡◌, ℕ, IsTrue, List, [], ◌∷◌, ◌++◌, Option, Some, None, refl, sym, ◌∙◌, append_assoc, arith}
use Rattle.dq_core.specs.declared.event.Event.{Event}
use Rattle.dq_core.specs.declared.event.Event.TheVariants.{Open, Piece, End, Pull, Schedule, Withdraw}
use Rattle.dq_core.specs.declared.fault.Fault.{Fault}
use Rattle.dq_core.specs.Histories.{is_above}
use Rattle.dq_core.specs.Stepping.{Opens}
use Rattle.dq_wires.specs.declared.calls.Call.{Call}
use Rattle.dq_wires.specs.declared.calls.Call.TheVariants.{Accept}
use Rattle.dq_wires.specs.declared.fault.TurnFault.{TurnFault}
use Rattle.dq_wires.specs.declared.fault.TurnFault.TheVariants.{Network}
use Rattle.dq_wires.specs.Logs.{LogsAll}
use Rattle.dq_wires.specs.Steps.{Step, StopsBy}
use Rattle.dq_wires.specs.ConnectionActions.{break_event}
use Rattle.dq_wires.specs.Turns.{Hold, Cut, CutStops, accept_failure, cut_calls, all_calls, TurnsCut}
use Rattle.dq_wires.specs.Turns.Cut.{NoRoom, AcceptFailed, OpenFailed, Midway}
use Rattle.dq_wires.specs.Turners.{NextOpens, IsOrder, EndsInFailedAccept}

pub order-opens : (newest : Option ℕ) (event : Event) → IsOrder event → Opens newest event
order-opens newest (Open number) h = absurd h
order-opens newest (Piece number octets) h = tt
order-opens newest (End number) h = tt
order-opens newest (Pull number) h = tt
order-opens newest (Schedule inst octets) h = tt
order-opens newest (Withdraw inst id) h = tt

-- nothing was opened
pub opens-first : (newest : Option ℕ) → IsTrue (is_above newest 0) → NextOpens newest 0
opens-first None h = refl
opens-first (Some n) h = grind arith

not-network : {State : Type 0} (Fails : State → State → Event → Fault → Type 0) (old new : State) (fault : TurnFault) (event : Option Event)
    → StopsBy Fails old new event fault → fault ≡ Network → ⊥
not-network Fails old new fault None stops e = let memory = stops.1 in cc
not-network Fails old new fault (Some event) stops e = let server = stops.1 in cc

unaccepted-last : (before after : Option (List Call)) (calls : List Call) → LogsAll before after (calls ++ Accept accept_failure ∷ []) → EndsInFailedAccept after
unaccepted-last before None calls told = tt
unaccepted-last None (Some after) calls told = absurd told
unaccepted-last (Some before) (Some after) calls told = (before ++ calls, told ∙ sym (append_assoc before calls (Accept accept_failure ∷ [])))

module _ {State : Type 0} (Fails : State → State → Event → Fault → Type 0) (mid new : State) (fault : TurnFault) where
  last-call : (before after : Option (List Call)) (calls : List Call) (cut : Cut)
      → LogsAll before after (calls ++ cut_calls cut) → CutStops Fails mid new cut fault → fault ≡ Network → EndsInFailedAccept after
  last-call before after calls NoRoom told stops e = absurd (not-network Fails mid new fault None stops e)
  last-call before after calls AcceptFailed told stops e = unaccepted-last before after calls told
  last-call before after calls (OpenFailed place number) told stops e = absurd (not-network Fails mid new fault (Some (Open number)) stops e)
  last-call before after calls (Midway taking done wire at) told stops e =
      absurd (not-network Fails mid new fault (break_event wire at) stops e)

-- The network failed only where an accept did.
pub network-unaccepted : {State : Type 0} {Goes : State → State → Step → Type 0} {Fails : State → State → Event → Fault → Type 0}
    {before after : Option (List Call)} {old new : State} {from : Hold} {count : ℕ} {fault : TurnFault}
    → TurnsCut Goes Fails before after old new from count fault → fault ≡ Network → EndsInFailedAccept after
network-unaccepted {Fails = Fails} {before = before} {after = after} {new = new} {fault = fault} cut e =
    last-call Fails cut.mid new fault before after (all_calls cut.turns) cut.cut cut.calls cut.stops e
