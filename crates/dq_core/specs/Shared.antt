-- The plain server that institutions share: one reply for each event, read off the whole stream of
-- the event's connection, off the C-FIND that is open on it, and off the rows. It remembers no
-- states, no rests and no buffers.
use Rattle.std.specs.Prelude.{ℕ, false, List, [], ◌∷◌, ◌++◌, map, take, drop, Option, Some, None}
use Rattle.dq_config.specs.declared.config.Institution.{Institution}
use Rattle.dq_core.specs.declared.event.Event.{Event}
use Rattle.dq_core.specs.declared.event.Event.TheVariants as event
use Rattle.dq_core.specs.declared.event.Reply.{Reply}
use Rattle.dq_core.specs.declared.event.Reply.TheVariants as reply
use Rattle.dq_tables.specs.declared.row.Row.{Row}
use Rattle.dq_config.specs.Limits.{limits_of}
use Rattle.dq_config.specs.Routing.{institution_named}
use Rattle.dq_tables.specs.Rows.{Edit, Operation, by, of, after_all}
use Rattle.dq_core.specs.Services.{ConsoleOrder, Scheduling, Withdrawal, Ordered, console_outcome, order_reply}
use Rattle.dq_core.specs.Pages.{Page, next_page}
use Rattle.dq_core.specs.Answers.{Answer, piece_answer, stranger_answer, progress_of, inputs_added, verdict_at, after_piece}
use Rattle.dq_core.specs.Connections.{Connection, new_connection, connection_in, without, with_connection, with_query}
use Rattle.dq_core.specs.Owners.{owner, live_of}

-- between two events: the connections that are held, and the rows of all institutions
pub record World : Type 0 where
  pub connections : List Connection
  pub rows : List Row

-- The effect of an event: its reply, its operations on the rows, in order, and the connections that are held
-- afterwards.
pub record EventEffect : Type 0 where
  pub reply : Reply
  pub operations : List Operation
  pub connections : List Connection

-- a turn without operations
abbrev pub quiet_turn : Reply → List Connection → EventEffect
quiet_turn r connections = record { reply = r; operations = []; connections = connections }

-- A piece is answered by the owner of the stream with the piece, from its own records, its own
-- limits and the count of its own associations.
abbrev pub answer_by : Option Institution → List Institution → World → Connection → List ℕ → Answer
answer_by None institutions world c piece =
    stranger_answer (progress_of c []) (inputs_added c.stream piece)
answer_by (Some i) institutions world c piece =
    let verdict = verdict_at i.associations (live_of institutions i.name world.connections) in
    piece_answer (limits_of i) verdict (of i.name world.rows) c piece

-- changes of the owner's records as operations on the rows
abbrev pub operations_by : Option Institution → List (List Edit) → List Operation
operations_by None changes = []
operations_by (Some i) changes = map (by i.name) changes

abbrev pub answer_turn : Option Institution → World → Connection → List ℕ → Answer → EventEffect
answer_turn institution world c piece answer = record {
  reply = reply.Octets c.number answer.octets answer.close;
  operations = operations_by institution answer.changes;
  connections = after_piece c piece answer world.connections;
}

abbrev pub owner_turn : Option Institution → List Institution → World → Connection → List ℕ → EventEffect
owner_turn institution institutions world c piece =
    answer_turn institution world c piece (answer_by institution institutions world c piece)

abbrev pub piece_turn : List Institution → World → List ℕ → Option Connection → EventEffect
piece_turn institutions world piece None = quiet_turn reply.Ignored world.connections
piece_turn institutions world piece (Some c) =
    owner_turn (owner institutions (c.stream ++ piece)) institutions world c piece

abbrev pub end_turn : World → Option Connection → EventEffect
end_turn world None = quiet_turn reply.Ignored world.connections
end_turn world (Some c) = quiet_turn reply.Done (without c.number world.connections)

-- A pull is answered with the next page of the C-FIND that is open.
abbrev pub page_turn : World → Connection → Page → EventEffect
page_turn world c p = quiet_turn (reply.Octets c.number p.octets false)
    (with_connection (with_query p.query c) world.connections)

abbrev pub pull_turn : World → Option Connection → EventEffect
pull_turn world None = quiet_turn reply.Ignored world.connections
pull_turn world (Some c) = page_turn world c (next_page c.query)

-- the refusal of an order for an institution that is not configured
abbrev pub no_such_institution : ℕ
no_such_institution = 6

abbrev pub ordered_turn : Institution → World → Ordered → EventEffect
ordered_turn i world o = record {
  reply = order_reply o.refusal;
  operations = by i.name o.edits ∷ [];
  connections = world.connections;
}

-- an order of the console for the institution that it names
abbrev pub order_turn : World → ConsoleOrder → Option Institution → EventEffect
order_turn world order None = quiet_turn (reply.Refused no_such_institution) world.connections
order_turn world order (Some i) =
    ordered_turn i world (console_outcome (limits_of i) (of i.name world.rows) order)

-- one event
abbrev pub turn : List Institution → World → Event → EventEffect
turn institutions world (event.Open number) =
    quiet_turn reply.Done (world.connections ++ new_connection number ∷ [])
turn institutions world (event.Piece number piece) =
    piece_turn institutions world piece (connection_in number world.connections)
turn institutions world (event.End number) =
    end_turn world (connection_in number world.connections)
turn institutions world (event.Pull number) =
    pull_turn world (connection_in number world.connections)
turn institutions world (event.Schedule institution octets) =
    order_turn world (Scheduling octets) (institution_named institutions institution)
turn institutions world (event.Withdraw institution id) =
    order_turn world (Withdrawal id) (institution_named institutions institution)

abbrev pub world_after_turn : World → EventEffect → World
world_after_turn world t =
    record { connections = t.connections; rows = after_all t.operations world.rows }

-- the replies to events, one for each, from a world on
abbrev pub replies_from : List Institution → World → List Event → List Reply
replies_from institutions world [] = []
replies_from institutions world (e ∷ events) =
    let t = turn institutions world e in
    t.reply ∷ replies_from institutions (world_after_turn world t) events

-- the world after events
abbrev pub world_from : List Institution → World → List Event → World
world_from institutions world [] = world
world_from institutions world (e ∷ events) =
    world_from institutions (world_after_turn world (turn institutions world e)) events

-- no connection is held at first
abbrev pub first_world : List Row → World
first_world rows = record { connections = []; rows = rows }

-- the replies to a history, over the rows that are there as it begins
abbrev pub replies : List Institution → List Row → List Event → List Reply
replies institutions rows events = replies_from institutions (first_world rows) events

-- what is held and kept after it
abbrev pub world_after : List Institution → List Row → List Event → World
world_after institutions rows events = world_from institutions (first_world rows) events

-- the operations of the next event
abbrev pub operations_next : List Institution → World → List Event → List Operation
operations_next institutions world [] = []
operations_next institutions world (e ∷ events) = (turn institutions world e).operations

-- the rows after the first events of a history, and the first operations of the next
abbrev pub rows_within : List Institution → List Row → List Event → ℕ → ℕ → List Row
rows_within institutions rows events answered operations =
    let world = world_after institutions rows (take answered events) in
    let next = operations_next institutions world (drop answered events) in
    after_all (take operations next) world.rows
