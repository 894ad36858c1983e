-- Events and questions that are put to a server, one after the other, each with its answer, and a fault at an event.
use Rattle.std.specs.Prelude.{◌≡◌, ℕ, Bool, List, [], ◌∷◌, Option, Some, None}
use Rattle.dq_core.specs.declared.event.Event.{Event}
use Rattle.dq_core.specs.declared.event.Reply.{Reply}
use Rattle.dq_core.specs.declared.fault.Fault.{Fault}
use Rattle.dq_wires.specs.declared.fault.TurnFault.{TurnFault}
use Rattle.dq_wires.specs.declared.fault.TurnFault.TheVariants.{NoMemory, Server}

-- An event with its reply; or a question, whether a C-FIND is open on the connection with a number,
-- with its answer.
pub data Step : Type 0 where
  Answered : Event → Reply → Step
  Asked : ℕ → Bool → Step

-- Questions are no events, and have no replies.
abbrev pub events_of : List Step → List Event
events_of [] = []
events_of (Answered event reply ∷ steps) = event ∷ events_of steps
events_of (Asked number pending ∷ steps) = events_of steps

abbrev pub replies_of : List Step → List Reply
replies_of [] = []
replies_of (Answered event reply ∷ steps) = reply ∷ replies_of steps
replies_of (Asked number pending ∷ steps) = replies_of steps

-- Steps lead from one state of a server to another, each by what `Goes` says of one step.
abbrev pub Runs : {State : Type 0} → (State → State → Step → Type 0) → State → State → List Step
    → Type 0
Runs Goes old new [] = new ≡ old
Runs {State} Goes old new (s ∷ steps) =
    (mid : State) × Goes old mid s × Runs Goes mid new steps

-- A fault: of an event, as `Fails` says of one, or want of memory before any event.
abbrev pub StopsBy : {State : Type 0} → (State → State → Event → Fault → Type 0)
    → State → State → Option Event → TurnFault → Type 0
StopsBy Fails old new None fault = (new ≡ old) × (fault ≡ NoMemory)
StopsBy Fails old new (Some event) fault =
    (why : Fault) × (fault ≡ Server why) × Fails old new event why
