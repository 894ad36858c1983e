-- How a turn begins.
use Rattle.std.proofs.Common.{◌≡◌, ◌+◌, ℕ, true, List, [], ◌∷◌, ◌++◌, Option, Some, Ok, refl}
use Rattle.dq_core.specs.declared.event.Event.{Event}
use Rattle.dq_core.specs.declared.event.Event.TheVariants.{Open}
use Rattle.dq_core.specs.declared.event.Reply.{Reply}
use Rattle.dq_core.specs.declared.fault.Fault.{Fault}
use Rattle.dq_wires.specs.declared.calls.Call.{Call}
use Rattle.dq_wires.specs.declared.calls.Call.TheVariants.{Accept}
use Rattle.dq_wires.specs.declared.fault.TurnFault.{TurnFault}
use Rattle.dq_wires.specs.declared.fault.TurnFault.TheVariants.{NoMemory, Network}
use Rattle.dq_wires.specs.Logs.{Logs}
use Rattle.dq_wires.specs.HeldConnections.{HeldConnection, new_held}
use Rattle.dq_wires.specs.Steps.{Step, StopsBy}
use Rattle.dq_wires.specs.Steps.Step.{Answered}
use Rattle.dq_wires.specs.Turns.{Hold, has_room_for_connection, accept_failure}
use Rattle.dq_wires.specs.Turns.Taking.{NewConnection}
use Rattle.dq_wires.specs.Turns.Cut.{NoRoom, AcceptFailed, OpenFailed}
use Rattle.dq_wires.specs.TurnOutcomes.{TakingWent, TurnCut}
use Rattle.dq_wires.proofs.Logging.{logs-none}
use Rattle.dq_wires.proofs.WholeTurns.{hold-of}

module _ {State : Type 0} {Goes : State → State → Step → Type 0} {Fails : State → State → Event → Fault → Type 0} {before : Option (List Call)}
    {old : State} {from : Hold} where
  pub cut-at_room : TurnCut Goes Fails before before old old from NoMemory
  cut-at_room = record { cut = NoRoom; fits = tt; calls = logs-none before; mid = old; steps = refl; stops = (refl, refl) }

  pub cut-at_accept : {after : Option (List Call)} → has_room_for_connection from ≡ true → Logs before after (Accept accept_failure) → TurnCut Goes Fails before after old old from Network
  cut-at_accept room told = record { cut = AcceptFailed; fits = room; calls = told; mid = old; steps = refl; stops = (refl, refl) }

  pub cut-at_open : {after : Option (List Call)} {new : State} {fault : TurnFault} (place : ℕ) → has_room_for_connection from ≡ true → Logs before after (Accept (Ok (Some place)))
      → StopsBy Fails old new (Some (Open (from.newest + 1))) fault → TurnCut Goes Fails before after old new from fault
  cut-at_open place room told stops =
      record { cut = OpenFailed place (from.newest + 1); fits = (room, refl); calls = told; mid = old; steps = refl; stops = stops }

module _ {State : Type 0} {Goes : State → State → Step → Type 0} {before after : Option (List Call)} {old new : State} {h : List HeldConnection} {n : ℕ} where
  pub taken-new : {k : List HeldConnection} (place : ℕ) (reply : Reply) → has_room_for_connection (record { held = h; newest = n }) ≡ true
      → Logs before after (Accept (Ok (Some place))) → Goes old new (Answered (Open (n + 1)) reply) → k ≡ h ++ new_held place (n + 1) ∷ []
      → TakingWent Goes before after old new (record { held = h; newest = n }) (record { held = k; newest = n + 1 })
  taken-new place reply room told goes kept = record {
    taking = NewConnection place (n + 1) reply;
    takes = (room, refl);
    calls = told;
    steps = (new, goes, refl);
    leaves = hold-of kept refl;
  }
