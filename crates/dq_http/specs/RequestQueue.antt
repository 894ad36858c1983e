-- Which request is answered next.
use Rattle.std.specs.Prelude.{◌≡◌, ◌⊎◌, ℕ, ◌+◌, ◌++◌, List, [], ◌∷◌, take, drop, position, slice_get, slice_set, remove, Option, Some, None, Result}
use Rattle.std.specs.Option.{option_and_then}
use Rattle.std.specs.declared.alloc.AllocError.{AllocError}
use Rattle.dq_config.specs.declared.config.Institution.{Institution}
use Rattle.dq_request.specs.declared.request.Request.{Request}
use Rattle.dq_request.specs.declared.response.Response.{Response}
use Rattle.dq_web.specs.declared.guard.Guard.{Guard}
use Rattle.dq_web.specs.declared.keys.Keys.{Keys}
use Rattle.dq_web.specs.declared.status.Status.{Status}
use Rattle.dq_wires.specs.declared.calls.Call.{Call}
use Rattle.dq_wires.specs.declared.calls.Call.TheVariants.{Shut}
use Rattle.dq_wires.specs.ConnectionActions.{Shutting}
use Rattle.dq_wires.specs.Logs.{Logs}
use Rattle.dq_http.specs.declared.http_server.HttpServer.{HttpServer}
use Rattle.dq_http.specs.declared.http_connection.HttpConnection.{HttpConnection}
use Rattle.dq_http.specs.HttpConnections.{is_waiting, asked_in, AnswersAt, HasTurn, IsNotedOr}
use Rattle.dq_http.specs.Places.{LetsIn, with_room}

-- where the first connection stands whose request waits
abbrev pub first_waiting : List HttpConnection → Option ℕ
first_waiting connections = position is_waiting connections

abbrev pub asked_by : HttpConnection → Option Request
asked_by connection = asked_in connection.stage

abbrev pub asked_at : List HttpConnection → Option ℕ → Option Request
asked_at connections None = None
asked_at connections (Some at) = option_and_then asked_by (slice_get connections at)

-- the request that waits first
abbrev pub waiting_request : List HttpConnection → Option Request
waiting_request connections = asked_at connections (first_waiting connections)

-- those behind a place, and then those up to it
abbrev pub from_behind : ℕ → List HttpConnection → List HttpConnection
from_behind at connections = drop (at + 1) connections ++ take (at + 1) connections

-- The connection at a place is answered, and is then the last to be answered again. All others are as they were.
abbrev pub AnswersOne : List Institution → (HttpConnection → Option Status → Type 0) → Option ℕ → List HttpConnection → List HttpConnection → Response → Type 0
AnswersOne institutions Noted None old new response = new ≡ old
AnswersOne institutions Noted (Some at) old new response = (connection : HttpConnection) × (answered : HttpConnection)
    × (slice_get old at ≡ Some connection)
    × AnswersAt institutions connection.stage response (Noted connection) connection answered
    × (new ≡ from_behind at (slice_set old at answered))

-- The connection at a place is let go: its place is shut, and nothing else is called. That there is no memory for its
-- response is noted. All others are as they were, in their order.
abbrev pub LetsOneGo : (HttpConnection → Option Status → Type 0) → Option ℕ → List HttpConnection → List HttpConnection → Option (List Call) → Option (List Call) → Type 0
LetsOneGo Noted None old new before after = (new ≡ old) × (after ≡ before)
LetsOneGo Noted (Some at) old new before after = (connection : HttpConnection) × (shut : Shutting)
    × (slice_get old at ≡ Some connection) × (new ≡ remove old at) × Logs before after (Shut connection.place shut)
    × Noted connection None

-- ---- all turns

-- Each connection has its turn, in their order, and is kept as that leaves it, or is let go.
abbrev pub AllTurn : Guard → List HttpConnection → List HttpConnection → Type 0
AllTurn guard [] new = new ≡ []
AllTurn guard (connection ∷ others) new = AllTurn guard others new
    ⊎ ((kept : HttpConnection) × (rest : List HttpConnection) × (new ≡ kept ∷ rest) × HasTurn guard connection kept
    × AllTurn guard others rest)

-- ---- of a server

-- other keys in place of those that it has; its connections are as they were, and what they wait for
abbrev pub with_keys : {Wired : Type 0} → Keys → HttpServer Wired → HttpServer Wired
with_keys keys server =
    record server { state = record server.state { guard = record server.state.guard { keys = keys } } }

abbrev pub next_of : {Wired : Type 0} → HttpServer Wired → Option Request
next_of server = waiting_request server.connections.items

-- The request that waits first is answered. Only the connections change, and the notes.
abbrev pub Answered : {Wired : Type 0} → HttpServer Wired → HttpServer Wired → Response → Type 0
Answered old new response = (reported : Result (Unit {0}) AllocError) × AnswersOne old.state.institutions.items (λ it. IsNotedOr reported it old.notes new.notes)
    (first_waiting old.connections.items) old.connections.items new.connections.items response
    × (new.wires ≡ old.wires) × (new.state ≡ old.state) × (new.peer_connections ≡ old.peer_connections)

-- That of the request that waits first is let go. Only the connections change, the notes, and the calls of the wires.
-- An error reports that there is no memory for its note.
abbrev pub LetsGoAs : {Wired : Type 0} → Result (Unit {0}) AllocError → Option (List Call) → Option (List Call)
    → HttpServer Wired → HttpServer Wired → Type 0
LetsGoAs reported before after old new =
    LetsOneGo (λ it. IsNotedOr reported it old.notes new.notes)
    (first_waiting old.connections.items) old.connections.items new.connections.items before after
    × (new.state ≡ old.state) × (new.peer_connections ≡ old.peer_connections)

abbrev pub LetsGo : {Wired : Type 0} → Option (List Call) → Option (List Call) → HttpServer Wired → HttpServer Wired → Type 0
LetsGo before after old new = (reported : Result (Unit {0}) AllocError) × LetsGoAs reported before after old new

-- Connections are let in, all have their turns, and idle ones give way to those that come next.
abbrev pub Attended : {Wired : Type 0} → HttpServer Wired → HttpServer Wired → Type 0
Attended old new = (all : List HttpConnection) × (left : List HttpConnection)
    × LetsIn old.peer_connections old.state.guard.proxy old.connections.items all
    × AllTurn old.state.guard all left × (new.connections.items ≡ with_room left) × (new.state ≡ old.state)
    × (new.peer_connections ≡ old.peer_connections)
