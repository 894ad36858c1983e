-- How the rounds of a service went. This is there for the prover.
use Rattle.std.specs.Prelude.{◌≡◌, ◌≤◌, ℕ, List, [], ◌++◌, length, Option, Some, None, option_map}
use Rattle.std.specs.List.{flat_map}
use Rattle.dq_tables.specs.declared.row.Row.{Row}
use Rattle.dq_tables.specs.TableStates.{State}
use Rattle.dq_core.specs.ServerView.{ServerView}
use Rattle.dq_wires.specs.declared.calls.Call.{Call}
use Rattle.dq_wires.specs.Logs.{LogsAll}
use Rattle.dq_wires.specs.Servings.{Act, act_calls, Serving}
use Rattle.dq_wires.specs.Servings.{Served as ServedOver}
use Rattle.dq_wires.specs.Turns.{Cut, cut_calls}
use Rattle.dq_wires.specs.Turners.{TurnerView}
use Rattle.dq_app.specs.declared.stop.Stop.{Stop}
use Rattle.dq_console.specs.Console.{HeldClient}
use Rattle.dq_config.specs.declared.config.Institution.{Institution}
use Rattle.dq_captures.specs.Reports.{names_of}
use Rattle.dq_console.specs.declared.console.Console.{Console}
use Rattle.dq_console.specs.Requests.{IsLeft}
use Rattle.dq_console.specs.ClientTurns.{Attends, Interrupted}
use Rattle.dq_console.specs.ServiceProgress.{WentOn, HoldsAt}
use Rattle.dq_app.specs.Serving.{Round, rounds_acts, console_calls, ArePlain, ArePlainTo, IsUncalled, AreConsoled, clients_left, RoundsTell, Halt, halt_acts, halt_cut, halt_calls, IsHalt, HaltTells, HasCause}

-- So many rounds were made, which are so.
pub record RoundsWent {Tables : Type 0} (state : Tables → State) (before after : Option (List Call))
    (old new : TurnerView Tables) (count : ℕ) (AreSo : List Round → Type 0) : Type 0 where
  pub rounds : List Round
  pub counted : length rounds ≡ count
  pub so : AreSo rounds
  pub went : WentOn state before after old new (rounds_acts rounds)

-- A service was cut off after these acts by this cut, and the calls are exactly those of both. The
-- server is then as a fault leaves it.
pub record CutOff {Tables : Type 0} (state : Tables → State) (rows : List Row)
    (before after : Option (List Call)) (first new : ServerView Tables) (acts : List Act)
    (cut : Cut) : Type 0 where
  pub last : ServerView Tables
  pub served : ServedOver state rows first last acts cut
  pub calls : LogsAll before after (flat_map act_calls acts ++ cut_calls cut)
  pub left : IsLeft state last new

-- So many rounds were made at most, and the next was stopped, which are so.
pub record RoundsCut {Tables : Type 0} (state : Tables → State) (breaks : Type 0)
    (before after : Option (List Call)) (old : TurnerView Tables) (new : ServerView Tables) (count : ℕ)
    (AreSo : List Round → Halt → Type 0) (cause : Stop) : Type 0 where
  pub rounds : List Round
  pub most : length rounds ≤ count
  pub halt : Halt
  pub so : AreSo rounds halt
  pub causes : HasCause breaks (halt_cut halt) cause
  pub was_honest : (state new.tables).honest → (state old.server.tables).honest
  pub off : (rows : List Row) (start : Option (List Call)) (first : ServerView Tables)
      (done : List Act) → Serving state rows start before first old.server old.hold done
      → CutOff state rows start after first new (done ++ (rounds_acts rounds ++ halt_acts halt))
      (halt_cut halt)

-- A console as contracts see it: the names of the institutions, the calls of its wires, and its clients.
pub record ConsoleView : Type 0 where
  pub names : List (List ℕ)
  pub calls : Option (List Call)
  pub clients : List HeldClient

abbrev pub console_view : {Wired Front : Type 0} → (Wired → Option (List Call)) → Console Wired Front
    → ConsoleView
console_view log console = record {
  names = console.handler.names.items;
  calls = log console.handler.wires;
  clients = console.clients.items;
}

abbrev pub view_of : {Wired Front : Type 0} → (Wired → Option (List Call))
    → Option (Console Wired Front) → Option ConsoleView
view_of log console = option_map (console_view log) console

-- They began as the calls of the wires had gone on to `now`, and ended with a server `new`. If what keeps the rows is
-- honest then, clients were told of the rows as they were.
module _ {Tables : Type 0} (state : Tables → State) (now : Option (List Call))
    (old : TurnerView Tables) (new : ServerView Tables) where
  -- Each round had a turn of the console, which led from one view of it to the other.
  pub record Beside (from to : ConsoleView) (rounds : List Round) : Type 0 where
    pub are : AreConsoled from.clients rounds
    pub calls : LogsAll from.calls to.calls (flat_map console_calls rounds)
    pub leaves : to.clients ≡ clients_left from.clients rounds
    pub named : to.names ≡ from.names
    pub tells : HoldsAt state now old new (λ institutions rows done.
        RoundsTell institutions from.names rows done rounds)

  -- Each round had one, and so had the next, as far as it came.
  pub record BesideCut (from to : ConsoleView) (rounds : List Round) (halt : Halt) : Type 0 where
    pub are : AreConsoled from.clients rounds
    pub is : IsHalt (clients_left from.clients rounds) halt
    pub calls : LogsAll from.calls to.calls (flat_map console_calls rounds ++ halt_calls halt)
    pub tells : HoldsAt state now old new (λ institutions rows done.
        RoundsTell institutions from.names rows done rounds
        × HaltTells institutions from.names rows (done ++ rounds_acts rounds) halt)

  -- Each round had a turn of the console, if there is one, and is plain if there is none.
  abbrev pub AreBeside : Option ConsoleView → Option ConsoleView → List Round → Type 0
  AreBeside None None rounds = ArePlain rounds
  AreBeside (Some from) (Some to) rounds = Beside from to rounds
  AreBeside from to rounds = ⊥

  -- So it is up to where the service was stopped.
  abbrev pub AreBesideTo : Option ConsoleView → Option ConsoleView → List Round → Halt → Type 0
  AreBesideTo None None rounds halt = ArePlainTo rounds halt
  AreBesideTo (Some from) (Some to) rounds halt = BesideCut from to rounds halt
  AreBesideTo from to rounds halt = ⊥

-- A console is there exactly if clients can come in. It has no client yet, and its wires were not called.
abbrev pub Begins : {Wired Front : Type 0} → (Wired → Option (List Call)) → List Institution
    → Option (List ℕ) → Option (Console Wired Front) → Type 0
Begins log institutions None None = Unit {0}
Begins log institutions (Some path) (Some console) = IsUncalled (log console.handler.wires)
    × (console.clients.items ≡ []) × (console.handler.names.items ≡ names_of institutions)
Begins log institutions clients console = ⊥

module _ {Tables : Type 0} (state : Tables → State) (old new : TurnerView Tables) where
  -- The console had its turn, if there is one.
  abbrev pub IsAttended : Option ConsoleView → Option ConsoleView → Type 0
  IsAttended None None = new ≡ old
  IsAttended (Some from) (Some to) = Attends state from.names from.calls to.calls old new
      from.clients to.clients (λ asked. Unit {0}) × (to.names ≡ from.names)
  IsAttended from to = ⊥

  -- Its turn was interrupted.
  abbrev pub IsInterrupted : Option ConsoleView → Option ConsoleView → Type 0
  IsInterrupted (Some from) (Some to) =
      Interrupted state from.names from.calls to.calls old new from.clients
  IsInterrupted from to = ⊥
