-- How parts of a turn of the console went. This is there for the prover.
use Rattle.std.specs.Prelude.{◌≡◌, ◌≢◌, ℕ, Bool, true, false, if◌then◌else◌, List, [], ◌∷◌, ◌++◌, map, Option, Some, None, Result, string_bytes}
use Rattle.std.specs.List.{flat_map}
use Rattle.dq_config.specs.declared.config.Institution.{Institution}
use Rattle.dq_tables.specs.declared.row.Row.{Row}
use Rattle.dq_tables.specs.TableStates.{State}
use Rattle.dq_core.specs.declared.event.Event.{Event}
use Rattle.dq_core.specs.declared.event.Reply.{Reply}
use Rattle.dq_wires.specs.declared.calls.WireFault.{WireFault}
use Rattle.dq_wires.specs.declared.calls.ReadOutcome.{ReadOutcome}
use Rattle.dq_wires.specs.declared.calls.ReadOutcome.TheVariants as what
use Rattle.dq_wires.specs.declared.calls.Call.{Call}
use Rattle.dq_wires.specs.declared.calls.Call.TheVariants.{Read, Write}
use Rattle.dq_wires.specs.ConnectionActions.{Shutting}
use Rattle.dq_wires.specs.Logs.{Logs, LogsAll}
use Rattle.dq_wires.specs.Servings.{Act}
use Rattle.dq_wires.specs.Turners.{TurnerView}
use Rattle.dq_console.specs.declared.answer_error.AnswerError.{AnswerError}
use Rattle.dq_console.specs.declared.answer_error.AnswerError.TheVariants.{NoMemory, Server}
use Rattle.dq_console.specs.declared.asks.KeysError.{KeysError}
use Rattle.dq_console.specs.declared.console_client.Next.{Next}
use Rattle.dq_console.specs.declared.console_client.Next.TheVariants as next
use Rattle.dq_console.specs.Console.{HeldClient, HasNone, HasLine, first_line, without_line, TakesMore, MayBring, with_octets, after_write, LineAnswer, IsLineAnswer, line_answer_text, answer_acts, is_unread, client_with_answer, ClientTurn, IsClientTurn, client_turn_calls, client_turn_acts, after_client_turn, Letting, IsLetting, letting_calls, with_let_in, Visit, client_of, clients_kept, visit_calls, visit_acts, IsShut, AreVisits, IsUnanswered, IsLineUnanswered, order_acts, FrontTurn, IsFrontTurn, IsAnswer, TellsOf, asked_acts, AskedTells, AttendingTells, Attending, IsAttending, attending_calls, attending_acts, after_attending, Interruption, IsInterruption, interruption_calls, interruption_acts, rows_after, TellsRows, ClientTurnTells, VisitsTell}
use Rattle.dq_request.specs.declared.request.Request.{Request}
use Rattle.dq_request.specs.declared.response.Response.{Response}
use Rattle.dq_core.specs.ServerView.{ServerView}
use Rattle.dq_console.specs.declared.console_line.ConsoleLine.{ConsoleLine}
use Rattle.dq_console.specs.declared.console_line.ConsoleLine.TheVariants as line
use Rattle.dq_console.specs.Console.LineAnswer.{Reread}
use Rattle.dq_console.specs.Console.FrontTurn.{Unasked, Responded, LetGo}
use Rattle.dq_console.specs.ConsoleLines.{response_text, keys_text, misspelled_text, bad_line}
use Rattle.dq_console.specs.Requests.{HasFailed, Answered, Unanswered}
use Rattle.dq_console.specs.ServiceProgress.{Attended, Holds}

-- what is taken of a client
abbrev pub TakesLine : HeldClient → HeldClient → Option (List ℕ) → Type 0
TakesLine old new None = HasNone old.came × (new ≡ old)
TakesLine old new (Some line) =
    HasLine old.came × (line ≡ first_line old.came) × (new ≡ without_line old)

-- The octets that are not written were offered: the client is still there, or the write failed.
abbrev pub Writes : Option (List Call) → Option (List Call) → HeldClient → HeldClient → Bool → Type 0
Writes before after old new there = (taken : Result ℕ WireFault)
    × Logs before after (Write old.place old.unsent taken)
    × (after_write old taken ≡ (if there then new ∷ [] else []))

-- From a client was read, so many octets at most. What came is kept; or no more comes, or there is
-- no memory for it.
abbrev pub Reads : Option (List Call) → Option (List Call) → ℕ → HeldClient → HeldClient → Bool → Type 0
Reads before after room old new true = (came : ReadOutcome) × Logs before after (Read old.place room came)
    × MayBring came × (new ≡ with_octets old came)
Reads before after room old new false = (came : ReadOutcome)
    × Logs before after (Read old.place room came) × (came ≢ what.Nothing)

-- something was done for a client, which took no line, and it is still there or not
pub record Quiet (before after : Option (List Call)) (old new : HeldClient)
    (there : Bool) : Type 0 where
  pub client_turn : ClientTurn
  pub is : IsClientTurn old client_turn
  pub quiet : client_turn_acts client_turn ≡ []
  pub tells : (institutions : List Institution) (names : List (List ℕ)) (rows : List Row)
      (done : List Act) → ClientTurnTells institutions names rows done old client_turn
  pub calls : LogsAll before after (client_turn_calls old client_turn)
  pub leaves : after_client_turn old client_turn ≡ (if there then new ∷ [] else [])

-- what comes next of a client
abbrev pub ComesNext : Option (List Call) → Option (List Call) → HeldClient → HeldClient → Next → Type 0
ComesNext before after old new next.Held = Quiet before after old new true
ComesNext before after old new next.Left = Quiet before after old new false
ComesNext before after old new (next.Line line) = TakesMore old × HasLine old.came
    × (line.items ≡ first_line old.came) × (new ≡ without_line old) × (after ≡ before)

module _ {Tables : Type 0} (state : Tables → State) where
  -- The server failed after looks.
  pub record Halted (old new : TurnerView Tables) : Type 0 where
    pub last : TurnerView Tables
    pub acts : Attended state old last []
    pub left : HasFailed state last.server new.server

  -- in the turn of a client, whose line was taken
  abbrev pub HaltedAt : Option (List Call) → Option (List Call) → TurnerView Tables → TurnerView Tables
      → HeldClient → Type 0
  HaltedAt before after old new client = TakesMore client × HasLine client.came
      × (after ≡ before) × Halted old new

  -- There is no answer to a line: for want of memory, when its order may have been stepped, or because the server failed.
  abbrev pub IsNotObeyed : TurnerView Tables → TurnerView Tables → List ℕ → AnswerError → Type 0
  IsNotObeyed old new line NoMemory = (order : Option (Event × Reply)) × IsLineUnanswered line order
      × Attended state old new (order_acts order)
  IsNotObeyed old new line (Server why) = Halted old new

  -- nor to a request of the web front
  abbrev pub IsNotAnswered : TurnerView Tables → TurnerView Tables → Request → AnswerError → Type 0
  IsNotAnswered old new asked NoMemory = (order : Option (Event × Reply)) × IsUnanswered asked order
      × Attended state old new (order_acts order)
  IsNotAnswered old new asked (Server why) = Halted old new

-- ---- the web front's keys

-- where a line has keys read anew, they are, with this outcome
abbrev pub IsRereadFor : (Result (Unit {0}) KeysError → Type 0) → LineAnswer → Type 0
IsRereadFor rereads (Reread outcome) = rereads outcome
IsRereadFor rereads answer = Unit {0}

-- Keys of a front are read anew with these outcomes, one after the other, and nothing else comes about.
module _ {Front : Type 0} (rereads : Front → Front → Result (Unit {0}) KeysError → Type 0) where
  abbrev pub AreReread : List (Result (Unit {0}) KeysError) → Front → Front → Type 0
  AreReread [] old new = new ≡ old
  AreReread (outcome ∷ outcomes) old new =
      (mid : Front) × rereads old mid outcome × AreReread outcomes mid new

  abbrev pub IsReread : Front → Front → Type 0
  IsReread old new = (outcomes : List (Result (Unit {0}) KeysError)) × AreReread outcomes old new

-- what is answered to a line, and what is left if nothing is
module _ {Tables : Type 0} (state : Tables → State) (copied : List Row → Type 0)
    (names : List (List ℕ)) (rereads : Result (Unit {0}) KeysError → Type 0) where
  abbrev pub LineAnswered : ServerView Tables → ServerView Tables → ConsoleLine → List ℕ → Type 0
  LineAnswered old new (line.Asked asked) text = (answer : Response)
      × Answered state copied names old new asked answer × (text ≡ response_text answer)
  LineAnswered old new line.Keys text = (new ≡ old)
      × ((outcome : Result (Unit {0}) KeysError) × rereads outcome × (text ≡ keys_text outcome))
  LineAnswered old new (line.Misspelled word) text =
      (new ≡ old) × (text ≡ misspelled_text (string_bytes word))
  LineAnswered old new line.Bad text = (new ≡ old) × (text ≡ bad_line)

module _ {Tables : Type 0} (state : Tables → State) where
  abbrev pub LineUnanswered : ServerView Tables → ServerView Tables → ConsoleLine → AnswerError → Type 0
  LineUnanswered old new (line.Asked asked) error = Unanswered state old new asked error
  LineUnanswered old new other NoMemory = new ≡ old
  LineUnanswered old new other (Server why) = ⊥

-- over the names of the institutions
module _ {Tables : Type 0} (state : Tables → State) (names : List (List ℕ)) where
  -- what a line tells was done, and the client has its answer
  pub record Does (old new : TurnerView Tables) (line : List ℕ) (client next : HeldClient)
      (rereads : Result (Unit {0}) KeysError → Type 0) : Type 0 where
    pub answer : LineAnswer
    pub is : IsLineAnswer line answer
    pub acts : Attended state old new (answer_acts answer)
    pub leaves : next ≡ client_with_answer client (line_answer_text answer) (is_unread answer)
    pub tells : Holds state old new.server (λ institutions rows done.
        TellsRows institutions names (rows_after institutions rows done) answer)
    pub reread : IsRereadFor rereads answer

  -- the turn of a client was made, but for its shut if it is gone
  pub record ClientTurnMade (before after : Option (List Call)) (old new : TurnerView Tables)
      (client next : HeldClient) (there : Bool) : Type 0 where
    pub client_turn : ClientTurn
    pub is : IsClientTurn client client_turn
    pub calls : LogsAll before after (client_turn_calls client client_turn)
    pub acts : Attended state old new (client_turn_acts client_turn)
    pub leaves : after_client_turn client client_turn ≡ (if there then next ∷ [] else [])
    pub tells : Holds state old new.server (λ institutions rows done.
        ClientTurnTells institutions names rows done client client_turn)

  -- it was made
  pub record Visited (before after : Option (List Call)) (old new : TurnerView Tables)
      (client next : HeldClient) (there : Bool) : Type 0 where
    pub client_turn : ClientTurn
    pub is : IsClientTurn client client_turn
    pub shut : Option Shutting
    pub shuts : IsShut (after_client_turn client client_turn) shut
    pub calls : LogsAll before after
        (visit_calls (record { client = client; client_turn = client_turn; shut = shut }))
    pub acts : Attended state old new (client_turn_acts client_turn)
    pub leaves : after_client_turn client client_turn ≡ (if there then next ∷ [] else [])
    pub tells : Holds state old new.server (λ institutions rows done.
        ClientTurnTells institutions names rows done client client_turn)

  -- the turns of all were made
  pub record AllVisited (before after : Option (List Call)) (old new : TurnerView Tables)
      (from to : List HeldClient) : Type 0 where
    pub visits : List Visit
    pub each : map client_of visits ≡ from
    pub are : AreVisits visits
    pub calls : LogsAll before after (flat_map visit_calls visits)
    pub acts : Attended state old new (flat_map visit_acts visits)
    pub kept : to ≡ flat_map clients_kept visits
    pub tells : Holds state old new.server (λ institutions rows done.
        VisitsTell institutions names rows done visits)

  -- the turns of some were made, and a fault came in that of the next
  pub record SomeVisited (before after : Option (List Call)) (old new : TurnerView Tables)
      (from : List HeldClient) : Type 0 where
    pub visits : List Visit
    pub client : HeldClient
    pub others : List HeldClient
    pub each : map client_of visits ++ client ∷ others ≡ from
    pub are : AreVisits visits
    pub calls : LogsAll before after (flat_map visit_calls visits)
    pub listening : TakesMore client
    pub has : HasLine client.came
    pub last : TurnerView Tables
    pub acts : Attended state old last (flat_map visit_acts visits)
    pub left : HasFailed state last.server new.server
    pub tells : Holds state old new.server (λ institutions rows done.
        VisitsTell institutions names rows done visits)

  -- a request was answered so
  pub record Responds (old new : TurnerView Tables) (asked : Request) (answer : Response) : Type 0 where
    pub stepped : List Act
    pub is : IsAnswer asked answer stepped
    pub acts : Attended state old new stepped
    pub tells : Holds state old new.server (λ institutions rows done.
        TellsOf institutions names (rows_after institutions rows done) asked answer)

  -- the web front had its turn
  pub record RespondedBy (old new : TurnerView Tables) (IsFront : FrontTurn → Type 0) : Type 0 where
    pub asked : FrontTurn
    pub are : IsFrontTurn asked
    pub acts : Attended state old new (asked_acts asked)
    pub tells : Holds state old new.server (λ institutions rows done.
        AskedTells institutions names rows done asked)
    pub front : IsFront asked

  -- a turn was made: `IsFront` tells what the web front asked and was answered
  pub record Attends (before after : Option (List Call)) (old new : TurnerView Tables)
      (clients left : List HeldClient) (IsFront : FrontTurn → Type 0) : Type 0 where
    pub attending : Attending
    pub is : IsAttending clients attending
    pub calls : LogsAll before after (attending_calls attending)
    pub acts : Attended state old new (attending_acts attending)
    pub leaves : left ≡ after_attending attending
    pub tells : Holds state old new.server (λ institutions rows done.
        AttendingTells institutions names rows done attending)
    pub front : IsFront attending.asked

  -- a turn was interrupted
  pub record Interrupted (before after : Option (List Call)) (old new : TurnerView Tables)
      (clients : List HeldClient) : Type 0 where
    pub it : Interruption
    pub is : IsInterruption clients it
    pub calls : LogsAll before after (interruption_calls it)
    pub last : TurnerView Tables
    pub acts : Attended state old last (interruption_acts it)
    pub left : HasFailed state last.server new.server
    pub tells : Holds state old new.server (λ institutions rows done.
        VisitsTell institutions names rows done it.visits)

-- The request that waited is answered, and its answer is given to the web front, or who asked it is let go; or none
-- waited, and the front is as it was.
module _ {Front : Type 0} (waiting : Front → Option Request) (answers : Front → Front → Response → Type 0)
    (lets_go : Front → Front → Type 0) where
  abbrev pub IsFrontServed : Front → Front → FrontTurn → Type 0
  IsFrontServed old new Unasked = (waiting old ≡ None) × (new ≡ old)
  IsFrontServed old new (Responded it) = (waiting old ≡ Some it.asked) × answers old new it.answer
  IsFrontServed old new (LetGo asked order) = (waiting old ≡ Some asked) × lets_go old new

  -- The same, after its keys may have been read anew.
  abbrev pub HasFrontTurn : (Front → Front → Result (Unit {0}) KeysError → Type 0) → Front → Front → FrontTurn → Type 0
  HasFrontTurn rereads old new asked =
      (mid : Front) × IsReread rereads old mid × IsFrontServed mid new asked

-- a turn began
pub record LetsIn (before after : Option (List Call)) (from to : List HeldClient) : Type 0 where
  pub letting : Letting
  pub lets : IsLetting from letting
  pub calls : LogsAll before after (letting_calls letting)
  pub leaves : to ≡ with_let_in from letting
