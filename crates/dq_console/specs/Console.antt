-- The work done for those who call the console, told by the calls of its wires, and for the web front.
use Rattle.std.specs.Prelude.{◌≡◌, ◌≢◌, ◌⊎◌, ◌<◌, ◌≤◌, ◌+◌, ◌^◌, ◌==◌, ℕ, Bool, true, false, nat_lt, if◌then◌else◌, List, [], ◌∷◌, ◌++◌, length, take, drop, map, Option, Some, None, Result, Ok, Err}
use Rattle.std.specs.List.{flat_map, position_or_len}
use Rattle.dq_config.specs.declared.config.Institution.{Institution}
use Rattle.dq_tables.specs.declared.row.Row.{Row}
use Rattle.dq_core.specs.declared.event.Event.{Event}
use Rattle.dq_core.specs.declared.event.Event.TheVariants as event
use Rattle.dq_core.specs.declared.event.Reply.{Reply}
use Rattle.dq_core.specs.Shared.{world_after}
use Rattle.dq_wires.specs.declared.calls.WireFault.{WireFault}
use Rattle.dq_wires.specs.declared.calls.ReadOutcome.{ReadOutcome}
use Rattle.dq_wires.specs.declared.calls.ReadOutcome.TheVariants as what
use Rattle.dq_wires.specs.declared.calls.Call.{Call}
use Rattle.dq_wires.specs.declared.calls.Call.TheVariants.{Accept, Read, Write, Shut}
use Rattle.dq_wires.specs.ConnectionActions.{Shutting}
use Rattle.dq_wires.specs.Servings.{Act, served_events}
use Rattle.dq_wires.specs.Servings.Act.{Ordered}
use Rattle.dq_wires.specs.Turns.{accept_failure}
use Rattle.dq_wires.specs.Turns.Cut.{NoRoom}
use Rattle.dq_captures.specs.Captures.{line_feed}
use Rattle.dq_request.specs.declared.request.Request.{Request}
use Rattle.dq_request.specs.declared.request.Request.TheVariants as request
use Rattle.dq_request.specs.declared.response.Response.{Response}
use Rattle.dq_request.specs.declared.response.BackupError.{BackupError}
use Rattle.dq_console.specs.declared.asks.KeysError.{KeysError}
use Rattle.dq_console.specs.declared.console_line.ConsoleLine.TheVariants as line
use Rattle.dq_console.specs.ConsoleLines.{SpellsRequest, IsMisspelled, TellsLine, keys_line, response_text, keys_text, misspelled_text, bad_line}
use Rattle.dq_console.specs.Requests.{search_response, counts_response, report_response, order_in, order_response, backup_response}

-- A client: its place among the wires, the octets that came and are not taken, those of its answer
-- that are not written, and whether nothing more is taken of it.
pub record HeldClient : Type 0 where
  pub place : ℕ
  pub came : List ℕ
  pub unsent : List ℕ
  pub is_over : Bool

-- as it comes
abbrev pub new_client : ℕ → HeldClient
new_client place = record { place = place; came = []; unsent = []; is_over = false }

-- ---- lines

-- The most octets of a line: those of an entry of 2 ^ 20 octets in hexadecimal, and of the words
-- before them.
abbrev pub line_most : ℕ
line_most = 2 ^ 21 + 256

abbrev pub is_line_end : ℕ → Bool
is_line_end octet = octet == line_feed

-- where the first line ends; the length, where none is whole
abbrev pub first_line_length : List ℕ → ℕ
first_line_length octets = position_or_len is_line_end octets

-- The first line is whole, or longer than a line may be.
abbrev pub HasLine : List ℕ → Type 0
HasLine octets = (first_line_length octets < length octets) ⊎ (line_most < length octets)

-- It is neither.
abbrev pub HasNone : List ℕ → Type 0
HasNone octets = (first_line_length octets ≡ length octets) × (length octets ≤ line_most)

-- The line that ends there. One that is too long is taken as an empty one, which tells nothing.
abbrev pub line_to : ℕ → List ℕ → List ℕ
line_to end octets = if nat_lt line_most end then [] else take end octets

abbrev pub first_line : List ℕ → List ℕ
first_line octets = line_to (first_line_length octets) octets

-- what came after it
abbrev pub other_lines : List ℕ → List ℕ
other_lines octets = drop (first_line_length octets + 1) octets

-- ---- answers

-- The handling of a request: what was asked, what is answered, and the orders that were stepped.
pub record Answering : Type 0 where
  pub asked : Request
  pub answer : Response
  pub acts : List Act

-- An order was stepped, and its reply is the answer.
abbrev pub OrdersOnce : Event → Response → List Act → Type 0
OrdersOnce event answer acts =
    (reply : Reply) × (acts ≡ Ordered event reply ∷ []) × (answer ≡ order_response reply)

-- An order is stepped once, and by nothing else is one stepped.
abbrev pub IsAnswer : Request → Response → List Act → Type 0
IsAnswer (request.Schedule institution octets) answer acts =
    OrdersOnce (event.Schedule institution octets) answer acts
IsAnswer (request.Withdraw institution id) answer acts =
    OrdersOnce (event.Withdraw institution id) answer acts
IsAnswer (request.Backup path) answer acts =
    (acts ≡ []) × ((made : Result (Unit {0}) BackupError) × (answer ≡ backup_response made))
IsAnswer other answer acts = acts ≡ []

abbrev pub IsAnswering : Answering → Type 0
IsAnswering it = IsAnswer it.asked it.answer it.acts

-- ---- orders without an answer

-- The order of a request for whose answer there is no memory, if it was stepped, with its reply.
abbrev pub IsUnanswered : Request → Option (Event × Reply) → Type 0
IsUnanswered asked None = Unit {0}
IsUnanswered asked (Some order) = order_in asked ≡ Some order.0

-- that of a line
abbrev pub IsLineUnanswered : List ℕ → Option (Event × Reply) → Type 0
IsLineUnanswered text None = Unit {0}
IsLineUnanswered text (Some order) =
    (asked : Request) × SpellsRequest text asked × (order_in asked ≡ Some order.0)

abbrev pub order_acts : Option (Event × Reply) → List Act
order_acts None = []
order_acts (Some order) = Ordered order.0 order.1 ∷ []

-- An answer tells of the rows that are there: a search tells what the institution that it names is shown of them, and
-- counts are of them.
abbrev pub TellsOf : List Institution → List (List ℕ) → List Row → Request → Response → Type 0
TellsOf institutions names rows (request.Search search) answer =
    answer ≡ search_response institutions rows search
TellsOf institutions names rows (request.Counts name) answer = answer ≡ counts_response names rows name
TellsOf institutions names rows request.Report answer = answer ≡ report_response names rows
TellsOf institutions names rows other answer = Unit {0}

-- The outcome of a line: what it asks was answered, keys were read anew or why not, a word of it was refused, or it tells
-- nothing.
pub data LineAnswer : Type 0 where
  Obeyed : Answering → LineAnswer
  Reread : Result (Unit {0}) KeysError → LineAnswer
  Refused : List ℕ → LineAnswer
  Unread : LineAnswer

-- which lines it is for
abbrev pub IsLineAnswer : List ℕ → LineAnswer → Type 0
IsLineAnswer text (Obeyed it) = SpellsRequest text it.asked × IsAnswering it
IsLineAnswer text (Reread outcome) = text ≡ keys_line
IsLineAnswer text (Refused word) = IsMisspelled text word
IsLineAnswer text Unread = TellsLine text line.Bad

abbrev pub line_answer_text : LineAnswer → List ℕ
line_answer_text (Obeyed it) = response_text it.answer
line_answer_text (Reread outcome) = keys_text outcome
line_answer_text (Refused word) = misspelled_text word
line_answer_text Unread = bad_line

abbrev pub answer_acts : LineAnswer → List Act
answer_acts (Obeyed it) = it.acts
answer_acts (Reread outcome) = []
answer_acts (Refused word) = []
answer_acts Unread = []

abbrev pub is_unread : LineAnswer → Bool
is_unread (Obeyed it) = false
is_unread (Reread outcome) = false
is_unread (Refused word) = false
is_unread Unread = true

-- The answer to a line is of the rows that are there.
abbrev pub TellsRows : List Institution → List (List ℕ) → List Row → LineAnswer → Type 0
TellsRows institutions names rows (Obeyed it) = TellsOf institutions names rows it.asked it.answer
TellsRows institutions names rows (Reread outcome) = Unit {0}
TellsRows institutions names rows (Refused word) = Unit {0}
TellsRows institutions names rows Unread = Unit {0}

-- the rows after the events of acts
abbrev pub rows_after : List Institution → List Row → List Act → List Row
rows_after institutions rows acts =
    (world_after institutions rows (served_events acts NoRoom)).rows

-- ---- the turn of a client

-- The action taken for a client in its turn.
pub data ClientTurn : Type 0 where
  -- what was not written of its answer was offered
  Offered : Result ℕ WireFault → ClientTurn
  -- all was written, and nothing more is taken
  Closed : ClientTurn
  -- from it was read, so many octets at most, and what came is kept
  Received : ℕ → ReadOutcome → ClientTurn
  -- from it was read; it sends no more, or there is no memory for what came
  Dropped : ℕ → ReadOutcome → ClientTurn
  -- there is no memory for its next line, or for the answer to it: its order may have been stepped, with this reply
  Forgotten : Option (Event × Reply) → ClientTurn
  -- its next line was taken, and this answer offered
  Took : LineAnswer → Result ℕ WireFault → ClientTurn

-- all was written, and more may be taken
abbrev pub TakesMore : HeldClient → Type 0
TakesMore client = (client.unsent ≡ []) × (client.is_over ≡ false)

-- more may come
abbrev pub MayBring : ReadOutcome → Type 0
MayBring (what.Octets octets) = Unit {0}
MayBring what.Nothing = Unit {0}
MayBring what.Ended = ⊥
MayBring what.Failed = ⊥

-- Which client it is for: what is not written goes first, then a line is taken, and else is read.
abbrev pub IsClientTurn : HeldClient → ClientTurn → Type 0
IsClientTurn client (Offered taken) = client.unsent ≢ []
IsClientTurn client Closed = (client.unsent ≡ []) × (client.is_over ≡ true)
IsClientTurn client (Received room came) = TakesMore client × HasNone client.came × MayBring came
IsClientTurn client (Dropped room came) =
    TakesMore client × HasNone client.came × (came ≢ what.Nothing)
IsClientTurn client (Forgotten None) = TakesMore client
IsClientTurn client (Forgotten (Some order)) = TakesMore client × HasLine client.came
    × IsLineUnanswered (first_line client.came) (Some order)
IsClientTurn client (Took answer taken) = TakesMore client × HasLine client.came
    × IsLineAnswer (first_line client.came) answer

abbrev pub client_turn_calls : HeldClient → ClientTurn → List Call
client_turn_calls client (Offered taken) = Write client.place client.unsent taken ∷ []
client_turn_calls client Closed = []
client_turn_calls client (Received room came) = Read client.place room came ∷ []
client_turn_calls client (Dropped room came) = Read client.place room came ∷ []
client_turn_calls client (Forgotten order) = []
client_turn_calls client (Took answer taken) = Write client.place (line_answer_text answer) taken ∷ []

abbrev pub client_turn_acts : ClientTurn → List Act
client_turn_acts (Offered taken) = []
client_turn_acts Closed = []
client_turn_acts (Received room came) = []
client_turn_acts (Dropped room came) = []
client_turn_acts (Forgotten order) = order_acts order
client_turn_acts (Took answer taken) = answer_acts answer

abbrev pub without_line : HeldClient → HeldClient
without_line client = record client { came = other_lines client.came }

-- The answer is to be written. The first line that tells nothing is the last that is taken.
abbrev pub client_with_answer : HeldClient → List ℕ → Bool → HeldClient
client_with_answer client text is_over = record client { unsent = text; is_over = is_over }

abbrev pub with_octets : HeldClient → ReadOutcome → HeldClient
with_octets client (what.Octets octets) = record client { came = client.came ++ octets }
with_octets client what.Nothing = client
with_octets client what.Ended = client
with_octets client what.Failed = client

-- the client after a write, if it is still there: the first of what was offered is written
abbrev pub after_write : HeldClient → Result ℕ WireFault → List HeldClient
after_write client (Ok count) = record client { unsent = drop count client.unsent } ∷ []
after_write client (Err fault) = []

-- the client afterwards, if it is still there
abbrev pub after_client_turn : HeldClient → ClientTurn → List HeldClient
after_client_turn client (Offered taken) = after_write client taken
after_client_turn client Closed = []
after_client_turn client (Received room came) = with_octets client came ∷ []
after_client_turn client (Dropped room came) = []
after_client_turn client (Forgotten order) = []
after_client_turn client (Took answer taken) =
    after_write (client_with_answer (without_line client) (line_answer_text answer) (is_unread answer)) taken

-- ---- a turn of the console

-- A client as its turn came, what was done, and what the shut was answered if it was let go.
pub record Visit : Type 0 where
  pub client : HeldClient
  pub client_turn : ClientTurn
  pub shut : Option Shutting

abbrev pub client_of : Visit → HeldClient
client_of visit = visit.client

abbrev pub clients_kept : Visit → List HeldClient
clients_kept visit = after_client_turn visit.client visit.client_turn

abbrev pub visit_acts : Visit → List Act
visit_acts visit = client_turn_acts visit.client_turn

abbrev pub shut_calls : HeldClient → Option Shutting → List Call
shut_calls client None = []
shut_calls client (Some answer) = Shut client.place answer ∷ []

abbrev pub visit_calls : Visit → List Call
visit_calls visit = client_turn_calls visit.client visit.client_turn ++ shut_calls visit.client visit.shut

-- Who is still there is not shut, and who is gone is.
abbrev pub IsShut : List HeldClient → Option Shutting → Type 0
IsShut [] None = ⊥
IsShut [] (Some answer) = Unit {0}
IsShut (client ∷ clients) None = Unit {0}
IsShut (client ∷ clients) (Some answer) = ⊥

abbrev pub IsVisit : Visit → Type 0
IsVisit visit = IsClientTurn visit.client visit.client_turn × IsShut (clients_kept visit) visit.shut

abbrev pub AreVisits : List Visit → Type 0
AreVisits [] = Unit {0}
AreVisits (visit ∷ visits) = IsVisit visit × AreVisits visits

-- A client is told of the rows after these acts.
abbrev pub ClientTurnTells : List Institution → List (List ℕ) → List Row → List Act → HeldClient → ClientTurn
    → Type 0
ClientTurnTells institutions names rows done client (Offered taken) = Unit {0}
ClientTurnTells institutions names rows done client Closed = Unit {0}
ClientTurnTells institutions names rows done client (Received room came) = Unit {0}
ClientTurnTells institutions names rows done client (Dropped room came) = Unit {0}
ClientTurnTells institutions names rows done client (Forgotten order) = Unit {0}
ClientTurnTells institutions names rows done client (Took answer taken) =
    TellsRows institutions names (rows_after institutions rows done) answer

-- Each client is told of the rows as they are at its turn.
abbrev pub VisitsTell : List Institution → List (List ℕ) → List Row → List Act → List Visit → Type 0
VisitsTell institutions names rows done [] = Unit {0}
VisitsTell institutions names rows done (visit ∷ visits) =
    ClientTurnTells institutions names rows done visit.client visit.client_turn
    × VisitsTell institutions names rows (done ++ visit_acts visit) visits

-- the most clients at a time
abbrev pub most_clients : ℕ
most_clients = 8

-- How a turn begins.
pub data Letting : Type 0 where
  -- there is no room for one more
  Full : Letting
  -- none came
  Nobody : Letting
  -- none can be accepted
  AcceptFailed : Letting
  -- one came at this place
  LetIn : ℕ → Letting
  -- one came at this place, and there is no memory for it
  TurnedAway : ℕ → Shutting → Letting

abbrev pub HasRoomForClient : List HeldClient → Type 0
HasRoomForClient clients = length clients < most_clients

abbrev pub IsLetting : List HeldClient → Letting → Type 0
IsLetting clients Full = most_clients ≤ length clients
IsLetting clients Nobody = HasRoomForClient clients
IsLetting clients AcceptFailed = HasRoomForClient clients
IsLetting clients (LetIn place) = HasRoomForClient clients
IsLetting clients (TurnedAway place answer) = HasRoomForClient clients

abbrev pub letting_calls : Letting → List Call
letting_calls Full = []
letting_calls Nobody = Accept (Ok None) ∷ []
letting_calls AcceptFailed = Accept accept_failure ∷ []
letting_calls (LetIn place) = Accept (Ok (Some place)) ∷ []
letting_calls (TurnedAway place answer) = Accept (Ok (Some place)) ∷ Shut place answer ∷ []

-- the new client is the last
abbrev pub with_let_in : List HeldClient → Letting → List HeldClient
with_let_in clients Full = clients
with_let_in clients Nobody = clients
with_let_in clients AcceptFailed = clients
with_let_in clients (LetIn place) = clients ++ new_client place ∷ []
with_let_in clients (TurnedAway place answer) = clients

-- ---- a turn of the console and of the web front

-- The turn of the web front.
pub data FrontTurn : Type 0 where
  -- no request waits
  Unasked : FrontTurn
  -- the request that waits is answered
  Responded : Answering → FrontTurn
  -- There is no memory for the answer to it, and who asks it is let go. Its order may have been stepped, with this reply.
  LetGo : Request → Option (Event × Reply) → FrontTurn

abbrev pub IsFrontTurn : FrontTurn → Type 0
IsFrontTurn Unasked = Unit {0}
IsFrontTurn (Responded it) = IsAnswering it
IsFrontTurn (LetGo asked order) = IsUnanswered asked order

-- Clients have their visits, and then the web front has its turn.
pub record Attending : Type 0 where
  pub letting : Letting
  pub visits : List Visit
  pub asked : FrontTurn

-- Each client has one visit, the new one too, in order.
pub record IsAttending (clients : List HeldClient) (a : Attending) : Type 0 where
  pub lets : IsLetting clients a.letting
  pub each : map client_of a.visits ≡ with_let_in clients a.letting
  pub are : AreVisits a.visits
  pub answers : IsFrontTurn a.asked

-- the calls of the console's wires
abbrev pub attending_calls : Attending → List Call
attending_calls a = letting_calls a.letting ++ flat_map visit_calls a.visits

abbrev pub asked_acts : FrontTurn → List Act
asked_acts Unasked = []
asked_acts (Responded it) = it.acts
asked_acts (LetGo asked order) = order_acts order

-- the orders that were stepped, with their replies
abbrev pub attending_acts : Attending → List Act
attending_acts a = flat_map visit_acts a.visits ++ asked_acts a.asked

abbrev pub after_attending : Attending → List HeldClient
after_attending a = flat_map clients_kept a.visits

-- Clients, and then the web front, are told of the rows as they are when each is answered.
abbrev pub AskedTells : List Institution → List (List ℕ) → List Row → List Act → FrontTurn → Type 0
AskedTells institutions names rows done Unasked = Unit {0}
AskedTells institutions names rows done (Responded it) =
    TellsOf institutions names (rows_after institutions rows done) it.asked it.answer
AskedTells institutions names rows done (LetGo asked order) = Unit {0}

abbrev pub AttendingTells : List Institution → List (List ℕ) → List Row → List Act → Attending → Type 0
AttendingTells institutions names rows done a =
    VisitsTell institutions names rows done a.visits
    × AskedTells institutions names rows (done ++ flat_map visit_acts a.visits) a.asked

-- ---- a turn that a fault ended

-- At what: at a line of a client, whom others follow, or at the request of the web front.
pub data Stopping : Type 0 where
  AtLine : HeldClient → List HeldClient → Stopping
  AtFront : Stopping

-- After the turns of some clients a turn ended there: the server failed, and there is no answer.
pub record Interruption : Type 0 where
  pub letting : Letting
  pub visits : List Visit
  pub at : Stopping

-- the clients that have had no turn
abbrev pub clients_at : Stopping → List HeldClient
clients_at (AtLine client others) = client ∷ others
clients_at AtFront = []

abbrev pub IsStopping : Stopping → Type 0
IsStopping (AtLine client others) = TakesMore client × HasLine client.came
IsStopping AtFront = Unit {0}

-- The turn was one up to there.
pub record IsInterruption (clients : List HeldClient) (it : Interruption) : Type 0 where
  pub lets : IsLetting clients it.letting
  pub each : map client_of it.visits ++ clients_at it.at ≡ with_let_in clients it.letting
  pub are : AreVisits it.visits
  pub stops : IsStopping it.at

abbrev pub interruption_calls : Interruption → List Call
interruption_calls it = letting_calls it.letting ++ flat_map visit_calls it.visits

abbrev pub interruption_acts : Interruption → List Act
interruption_acts it = flat_map visit_acts it.visits
