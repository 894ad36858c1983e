-- The service of connections.
use Rattle.std.specs.Prelude.{◌≡◌, ◌⊎◌, ◌≤◌, ◌^◌, ◌-◌, ◌*◌, ℕ, nat_lt, if◌then◌else◌, List, [], ◌∷◌, ◌++◌, length, codes, Option, Some, None, option_map, IfSome}
use Rattle.std.specs.Duration.{as_nanos}
use Rattle.std.specs.List.{flat_map}
use Rattle.std.specs.Io.KnownBytes.{Keeps, Appends}
use Rattle.std.specs.Net.Grammar.{IsIpText}
use Rattle.std.specs.declared.net.ip_addr.IpAddr.{IpAddr}
use Rattle.dq_config.specs.declared.config.Institution.{Institution}
use Rattle.dq_core.specs.declared.fault.Fault.TheVariants as fault
use Rattle.dq_core.specs.Faults.{server_fault_number as fault_number}
use Rattle.dq_core.specs.Shared.{replies}
use Rattle.dq_tables.specs.declared.row.Row.{Row}
use Rattle.dq_tables.specs.TableStates.{State}
use Rattle.dq_wires.specs.declared.calls.Call.{Call}
use Rattle.dq_wires.specs.declared.given_up.Limits.{Limits}
use Rattle.dq_wires.specs.Logs.{LogsAll}
use Rattle.dq_wires.specs.Steps.{replies_of}
use Rattle.dq_wires.specs.Turns.{Turn, Cut, IsCut, cut_calls}
use Rattle.dq_wires.specs.Turns.Cut.{NoRoom, AcceptFailed}
use Rattle.dq_wires.specs.Servings.{Act, act_calls, nothing_held, AreActs, after_acts, served_steps, served_events}
use Rattle.dq_cli.specs.CommandLine.{clients_of, Serving as Service}
use Rattle.dq_wires.specs.Servings.Act.{Turned}
use Rattle.dq_app.specs.declared.stop.Stop.{Stop}
use Rattle.dq_app.specs.declared.stop.Stop.TheVariants as stop
use Rattle.dq_console.specs.Console.{HeldClient, Attending, IsAttending, attending_acts, attending_calls, after_attending, Interruption, IsInterruption, interruption_acts, interruption_calls, rows_after, VisitsTell, AttendingTells}
use Rattle.dq_app.specs.Program.{no_memory, IsRunFault, IsConfigured, RefusesFile, RefusesStore, IsInStore, IsOver, unclosed_store}
use Rattle.dq_captures.specs.ReplyLines.{numbered_line}
use Rattle.dq_captures.specs.Reports.{names_of}
use Rattle.dq_captures.specs.Surroundings.{BreaksOff}

-- the line that is printed once connections can come in
abbrev pub ready_text : ℕ → List ℕ
ready_text port = numbered_line (codes "ready ") port

-- how many turns: without a number, more than there is time for
abbrev pub turn_count : Option ℕ → ℕ
turn_count None = 2 ^ 64 - 1
turn_count (Some turns) = turns

-- ---- where connections come in

-- a count, where it is limited: 0 is no limit
abbrev pub limit_of : ℕ → Option ℕ
limit_of count = if nat_lt 0 count then Some count else None

-- the address of a proxy, if a text names one
abbrev pub IsProxyNamed : Option (List ℕ) → Option IpAddr → Type 0
IsProxyNamed None address = address ≡ None
IsProxyNamed (Some text) None = ⊥
IsProxyNamed (Some text) (Some address) = IsIpText text address

-- so many seconds, in nanoseconds
abbrev pub nanoseconds : ℕ → ℕ
nanoseconds seconds = seconds * 1_000_000_000

-- Connections are given up as the words of a service ask: how long ARTIM runs (PS3.8 section
-- 9.1.5), how long nothing may pass, and how many there may be of an address.
pub record AreLimits (service : Service) (limits : Limits) : Type 0 where
  pub artim : option_map as_nanos limits.artim ≡ option_map nanoseconds (limit_of service.artim)
  pub quiet : option_map as_nanos limits.quiet ≡ option_map nanoseconds service.quiet
  pub peers : limits.peer_connections ≡ limit_of service.peer_connections

-- Wires listen where these words say, with their limits.
abbrev pub ListensAs : {Wired : Type 0} → (Wired → List ℕ → ℕ → Limits → Type 0) → Service → Wired
    → Type 0
ListensAs listens service wires = (limits : Limits) × AreLimits service limits
    × listens wires service.address service.port limits

-- wires that were not called, as far as they tell
abbrev pub IsUncalled : Option (List Call) → Type 0
IsUncalled log = IfSome log (λ calls. calls ≡ [])

-- ---- rounds

-- A turn of all connections, and then one of the console and the web front, if there are any.
pub data Round : Type 0 where
  Plain : Turn → Round
  Consoled : Turn → Attending → Round

abbrev pub round_acts : Round → List Act
round_acts (Plain turn) = Turned turn ∷ []
round_acts (Consoled turn attending) = Turned turn ∷ attending_acts attending

abbrev pub rounds_acts : List Round → List Act
rounds_acts rounds = flat_map round_acts rounds

-- the calls of the console's wires
abbrev pub console_calls : Round → List Call
console_calls (Plain turn) = []
console_calls (Consoled turn attending) = attending_calls attending

-- Without a console they are plain.
abbrev pub ArePlain : List Round → Type 0
ArePlain [] = Unit {0}
ArePlain (Plain turn ∷ rounds) = ArePlain rounds
ArePlain (Consoled turn attending ∷ rounds) = ⊥

-- With one, each turn of it goes on with the clients that the one before left.
abbrev pub AreConsoled : List HeldClient → List Round → Type 0
AreConsoled clients [] = Unit {0}
AreConsoled clients (Plain turn ∷ rounds) = ⊥
AreConsoled clients (Consoled turn attending ∷ rounds) =
    IsAttending clients attending × AreConsoled (after_attending attending) rounds

-- the clients that rounds leave
abbrev pub clients_left : List HeldClient → List Round → List HeldClient
clients_left clients [] = clients
clients_left clients (Plain turn ∷ rounds) = clients_left clients rounds
clients_left clients (Consoled turn attending ∷ rounds) =
    clients_left (after_attending attending) rounds

-- In each round clients of the console and the web front are told of the rows as they are then.
abbrev pub RoundsTell : List Institution → List (List ℕ) → List Row → List Act → List Round → Type 0
RoundsTell institutions names rows done [] = Unit {0}
RoundsTell institutions names rows done (Plain turn ∷ rounds) =
    RoundsTell institutions names rows (done ++ round_acts (Plain turn)) rounds
RoundsTell institutions names rows done (Consoled turn attending ∷ rounds) =
    AttendingTells institutions names rows (done ++ Turned turn ∷ []) attending
    × RoundsTell institutions names rows (done ++ round_acts (Consoled turn attending)) rounds

-- ---- where a service is stopped, and why

-- The part of a round at which a service was stopped.
pub data Halt : Type 0 where
  -- the turn of all connections, up to this cut; or nothing, where the network failed after a round
  InTurn : Cut → Halt
  -- a turn of all connections, and that of the console up to this
  AtConsole : Turn → Interruption → Halt

abbrev pub halt_acts : Halt → List Act
halt_acts (InTurn cut) = []
halt_acts (AtConsole turn it) = Turned turn ∷ interruption_acts it

abbrev pub halt_cut : Halt → Cut
halt_cut (InTurn cut) = cut
halt_cut (AtConsole turn it) = NoRoom

-- the calls of the console's wires
abbrev pub halt_calls : Halt → List Call
halt_calls (InTurn cut) = []
halt_calls (AtConsole turn it) = interruption_calls it

-- Up to there clients of the console are told of the rows as they are.
abbrev pub HaltTells : List Institution → List (List ℕ) → List Row → List Act → Halt → Type 0
HaltTells institutions names rows done (InTurn cut) = Unit {0}
HaltTells institutions names rows done (AtConsole turn it) =
    VisitsTell institutions names rows (done ++ Turned turn ∷ []) it.visits

-- It is one for these clients of the console.
abbrev pub IsHalt : List HeldClient → Halt → Type 0
IsHalt clients (InTurn cut) = Unit {0}
IsHalt clients (AtConsole turn it) = IsInterruption clients it

-- Without a console it is a cut.
abbrev pub ArePlainTo : List Round → Halt → Type 0
ArePlainTo rounds (InTurn cut) = ArePlain rounds
ArePlainTo rounds (AtConsole turn it) = ⊥

-- the fault of a service: that of a run, or that the server had stopped before
abbrev pub IsServiceFault : ℕ → Type 0
IsServiceFault number = IsRunFault number ⊎ (number ≡ fault_number fault.Stopped)

-- Why a service is stopped at a cut: for a fault; or because no connections can come in, where the
-- network broke or an accept failed.
abbrev pub HasCause : Type 0 → Cut → Stop → Type 0
HasCause breaks cut (stop.Fault number) = IsServiceFault number
HasCause breaks cut stop.Network = breaks ⊎ (cut ≡ AcceptFailed)
HasCause breaks cut other = ⊥

-- Why nobody is listened for: want of memory, the keys of the web front are refused, or the network
-- broke.
abbrev pub IsListenError : Type 0 → Stop → Type 0
IsListenError breaks (stop.Fault number) = number ≡ no_memory
IsListenError breaks (stop.Keys line) = Unit {0}
IsListenError breaks stop.Network = breaks
IsListenError breaks other = ⊥

-- ---- services

-- Without a console rounds are plain. With one, over wires which were not called before, the calls
-- of these are exactly those of its turns: so each order is told by a line that a client sent, and
-- is answered by the line of its reply. A search is answered by what the institution that its line names is shown of the
-- rows as they are then, and a report counts them.
module _ {Console : Type 0} (log : Console → Option (List Call)) (institutions : List Institution)
    (rows : List Row) where
  abbrev pub HasConsole : Option (List ℕ) → List Round → Type 0
  HasConsole None rounds = ArePlain rounds
  HasConsole (Some path) rounds = (wires : Console) × (left : Console)
      × IsUncalled (log wires) × AreConsoled [] rounds
      × LogsAll (log wires) (log left) (flat_map console_calls rounds)
      × RoundsTell institutions (names_of institutions) rows [] rounds

-- Acts were done, from rows that were there, over wires that were not called before. A cut may follow:
-- the part of a turn that a fault ends (`NoRoom` is none). The calls are exactly these, and what was
-- answered is what the plain server answers.
pub record AreServed {Wired : Type 0} (log : Wired → Option (List Call))
    (institutions : List Institution) (rows : List Row) (acts : List Act) (cut : Cut) : Type 0 where
  pub wires : Wired
  pub left : Wired
  pub uncalled : IsUncalled (log wires)
  pub are : AreActs nothing_held acts
  pub fits : IsCut (after_acts nothing_held acts) cut
  pub calls : LogsAll (log wires) (log left) (flat_map act_calls acts ++ cut_calls cut)
  pub answered : replies_of (served_steps acts cut)
      ≡ replies institutions rows (served_events acts cut)

-- So many rounds were made and served. The rows that are kept are those after their events.
pub record Served {Wired Console : Type 0} (log : Wired → Option (List Call))
    (console_log : Console → Option (List Call)) (institutions : List Institution)
    (rows : List Row) (count : ℕ) (console : Option (List ℕ)) (kept : List Row) : Type 0 where
  pub rounds : List Round
  pub counted : length rounds ≡ count
  pub served : AreServed log institutions rows (rounds_acts rounds) NoRoom
  pub consoled : HasConsole console_log institutions rows console rounds
  pub leaves : kept ≡ rows_after institutions rows (rounds_acts rounds)

-- The console of a service that was stopped: its calls are exactly those of the rounds, and of the
-- part of one, and so is what was told.
module _ {Console : Type 0} (log : Console → Option (List Call)) (institutions : List Institution)
    (rows : List Row) where
  abbrev pub HasConsoleTo : Option (List ℕ) → List Round → Halt → Type 0
  HasConsoleTo None rounds halt = ArePlainTo rounds halt
  HasConsoleTo (Some path) rounds halt = (wires : Console) × (left : Console)
      × IsUncalled (log wires) × AreConsoled [] rounds × IsHalt (clients_left [] rounds) halt
      × LogsAll (log wires) (log left) (flat_map console_calls rounds ++ halt_calls halt)
      × RoundsTell institutions (names_of institutions) rows [] rounds
      × HaltTells institutions (names_of institutions) rows (rounds_acts rounds) halt

-- Rounds were made, at most so many, and the next was stopped, for this cause.
pub record ServedUpTo {Wired Console : Type 0} (log : Wired → Option (List Call))
    (console_log : Console → Option (List Call)) (breaks : Type 0)
    (institutions : List Institution) (rows : List Row) (count : ℕ) (console : Option (List ℕ))
    (cause : Stop) : Type 0 where
  pub rounds : List Round
  pub most : length rounds ≤ count
  pub halt : Halt
  pub causes : HasCause breaks (halt_cut halt) cause
  pub served : AreServed log institutions rows (rounds_acts rounds ++ halt_acts halt) (halt_cut halt)
  pub consoled : HasConsoleTo console_log institutions rows console rounds halt

-- How a service ends early: for want of memory, for the keys of its web front, or because nobody can
-- come in, before it was ready; for a cause after it was, and what went before is so; because the output fails, after some octets
-- of its line; or by a store that is not closed, after all its turns.
module _ (breaks may_fail : Type 0) (before after : Option (List ℕ)) (port : ℕ)
    (IsSo : Stop → Type 0) where
  abbrev pub EndsService : Stop → Type 0
  EndsService (stop.Fault number) = (Keeps before after × (number ≡ no_memory))
      ⊎ (Appends before after (ready_text port) × IsServiceFault number × IsSo (stop.Fault number))
  EndsService (stop.Keys line) = Keeps before after
  EndsService stop.Network = (Keeps before after × breaks)
      ⊎ (Appends before after (ready_text port) × IsSo stop.Network)
  EndsService stop.Output = BreaksOff may_fail before after (ready_text port)
  EndsService (stop.Store number) =
      (stop.Store number ≡ unclosed_store) × Appends before after (ready_text port)
  EndsService other = ⊥

module _ {Wired Console File : Type 0} (log : Wired → Option (List Call))
    (console_log : Console → Option (List Call)) (state : File → State)
    (held : List ℕ → Option (List ℕ)) (stored : List ℕ → List Row → Type 0)
    (before after : Option (List ℕ)) (serving : Service) where
  -- So many turns were made as are asked for, over wires that had not been called, after the line
  -- was printed, and nothing else. A store that is closed has the rows after them.
  abbrev pub IsServed : (List Row → Type 0) → Type 0
  IsServed closed = Appends before after (ready_text serving.port)
      × ((institutions : List Institution) × IsConfigured held serving.config institutions
      × ((kept : List Row) × (IsInStore serving.place → closed kept)
      × IsOver state stored serving.place (λ rows.
      Served log console_log institutions rows (turn_count serving.turns) (clients_of serving) kept)))

  -- The reasons why a service stops: a refused configuration or store, when nothing was printed, or an early end.
  abbrev pub StopsService : Type 0 → (List ℕ → Type 0) → Type 0 → Stop → Type 0
  StopsService breaks unread may_fail cause =
      (Keeps before after × RefusesFile unread held serving.config cause)
      ⊎ ((institutions : List Institution) × IsConfigured held serving.config institutions
      × ((Keeps before after × RefusesStore cause)
      ⊎ EndsService breaks may_fail before after serving.port (λ why.
      IsOver state stored serving.place (λ rows. ServedUpTo log console_log breaks institutions
      rows (turn_count serving.turns) (clients_of serving) why)) cause))
