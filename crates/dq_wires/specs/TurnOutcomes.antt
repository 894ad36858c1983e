-- How parts of a turn went. This is there for the prover.
use Rattle.std.specs.Prelude.{◌≡◌, List, ◌∷◌, ◌++◌, map, Option}
use Rattle.std.specs.List.{flat_map}
use Rattle.dq_core.specs.declared.event.Event.{Event}
use Rattle.dq_core.specs.declared.fault.Fault.{Fault}
use Rattle.dq_wires.specs.declared.calls.Call.{Call}
use Rattle.dq_wires.specs.declared.fault.TurnFault.{TurnFault}
use Rattle.dq_wires.specs.declared.turns.connection_set.ConnectionSet.{ConnectionSet}
use Rattle.dq_wires.specs.Logs.{LogsAll}
use Rattle.dq_wires.specs.HeldConnections.{HeldConnection}
use Rattle.dq_wires.specs.Steps.{Step, Runs, StopsBy}
use Rattle.dq_wires.specs.ConnectionActions.{Break, IsBreak, break_calls, break_event}
use Rattle.dq_wires.specs.Turns.{Done, connection_of, calls_of, done_steps, connections_kept, AreDue, Hold, Taking, IsTaking, taking_calls, taking_steps, with_taken, Turn, IsTurn, turn_calls, turn_steps, after_turn, Cut, IsCut, cut_calls, cut_steps, CutStops}

-- what contracts see of the connections that are held
abbrev pub hold_in : ConnectionSet → Hold
hold_in wires = record { held = wires.held.items; newest = wires.newest }

-- each of these connections had its turn
pub record RoundWent {State : Type 0} (Goes : State → State → Step → Type 0)
    (before after : Option (List Call)) (old new : State) (from to : List HeldConnection) : Type 0 where
  pub done : List Done
  pub each : map connection_of done ≡ from
  pub due : AreDue done
  pub calls : LogsAll before after (flat_map calls_of done)
  pub steps : Runs Goes old new (flat_map done_steps done)
  pub kept : to ≡ flat_map connections_kept done

-- the first had their turns, and that of the next was cut off by a fault
pub record RoundCut {State : Type 0} (Goes : State → State → Step → Type 0)
    (Fails : State → State → Event → Fault → Type 0) (before after : Option (List Call))
    (old new : State) (from : List HeldConnection) (fault : TurnFault) : Type 0 where
  pub done : List Done
  pub wire : HeldConnection
  pub others : List HeldConnection
  pub each : map connection_of done ++ wire ∷ others ≡ from
  pub due : AreDue done
  pub at : Break
  pub breaks : IsBreak wire at
  pub calls : LogsAll before after (flat_map calls_of done ++ break_calls wire at)
  pub mid : State
  pub steps : Runs Goes old mid (flat_map done_steps done)
  pub stops : StopsBy Fails mid new (break_event wire at) fault

-- a turn began
pub record TakingWent {State : Type 0} (Goes : State → State → Step → Type 0)
    (before after : Option (List Call)) (old new : State) (from to : Hold) : Type 0 where
  pub taking : Taking
  pub takes : IsTaking from taking
  pub calls : LogsAll before after (taking_calls taking)
  pub steps : Runs Goes old new (taking_steps taking)
  pub leaves : to ≡ with_taken from taking

-- one turn
pub record TurnWent {State : Type 0} (Goes : State → State → Step → Type 0)
    (before after : Option (List Call)) (old new : State) (from to : Hold) : Type 0 where
  pub turn : Turn
  pub is : IsTurn from turn
  pub calls : LogsAll before after (turn_calls turn)
  pub steps : Runs Goes old new (turn_steps turn)
  pub leaves : to ≡ after_turn from turn

-- one that is cut off
pub record TurnCut {State : Type 0} (Goes : State → State → Step → Type 0)
    (Fails : State → State → Event → Fault → Type 0) (before after : Option (List Call))
    (old new : State) (from : Hold) (fault : TurnFault) : Type 0 where
  pub cut : Cut
  pub fits : IsCut from cut
  pub calls : LogsAll before after (cut_calls cut)
  pub mid : State
  pub steps : Runs Goes old mid (cut_steps cut)
  pub stops : CutStops Fails mid new cut fault
