-- The plain server of one institution that has it to itself, with no names and no routes, no other
-- limits, and all records its own. A request that
-- passes the checks of its version, application context and maximum length is accepted, unless the
-- associations are at their limit.
use Rattle.std.specs.Prelude.{ℕ, Bool, false, if◌then◌else◌, List, [], ◌∷◌, ◌++◌, length, filter, take, drop, is_some, Option, Some, None}
use Rattle.dq_assoc.specs.Inputs.{inputs}
use Rattle.dq_core.specs.declared.event.Event.{Event}
use Rattle.dq_core.specs.declared.event.Event.TheVariants as event
use Rattle.dq_core.specs.declared.event.Reply.{Reply}
use Rattle.dq_core.specs.declared.event.Reply.TheVariants as reply
use Rattle.dq_config.specs.Limits.{Limits}
use Rattle.dq_tables.specs.Rows.{Record, Edit, edited_all}
use Rattle.dq_core.specs.Services.{Scheduling, Withdrawal, Ordered, console_outcome, order_reply}
use Rattle.dq_core.specs.Pages.{Page, next_page}
use Rattle.dq_core.specs.Answers.{Answer, piece_answer, request_in, verdict_at, after_piece}
use Rattle.dq_core.specs.Connections.{Connection, new_connection, connection_in, without, with_connection, with_query}

-- between two events: the connections that are held, and the records
pub record AloneWorld : Type 0 where
  pub connections : List Connection
  pub records : List Record

-- The effect of an event: its reply, its changes of the records, in order, and the connections that are held
-- afterwards.
pub record AloneTurn : Type 0 where
  pub reply : Reply
  pub changes : List (List Edit)
  pub connections : List Connection

abbrev pub alone_quiet : Reply → List Connection → AloneTurn
alone_quiet r connections = record { reply = r; changes = []; connections = connections }

-- How many associations are open: the connections held that have sent a request. One whose request
-- is rejected is closed.
abbrev pub alone_live : List Connection → ℕ
alone_live connections =
    length (filter (λ (c : Connection). is_some (request_in (inputs c.stream))) connections)

abbrev pub alone_answer : Limits → AloneWorld → Connection → List ℕ → Answer
alone_answer limits world c piece =
    let verdict = verdict_at limits.associations (alone_live world.connections) in
    piece_answer limits verdict world.records c piece

abbrev pub alone_answer_turn : AloneWorld → Connection → List ℕ → Answer → AloneTurn
alone_answer_turn world c piece answer = record {
  reply = reply.Octets c.number answer.octets answer.close;
  changes = answer.changes;
  connections = after_piece c piece answer world.connections;
}

abbrev pub alone_piece : Limits → AloneWorld → List ℕ → Option Connection → AloneTurn
alone_piece limits world piece None = alone_quiet reply.Ignored world.connections
alone_piece limits world piece (Some c) =
    alone_answer_turn world c piece (alone_answer limits world c piece)

abbrev pub alone_end : AloneWorld → Option Connection → AloneTurn
alone_end world None = alone_quiet reply.Ignored world.connections
alone_end world (Some c) = alone_quiet reply.Done (without c.number world.connections)

abbrev pub alone_page : AloneWorld → Connection → Page → AloneTurn
alone_page world c p = alone_quiet (reply.Octets c.number p.octets false)
    (with_connection (with_query p.query c) world.connections)

abbrev pub alone_pull : AloneWorld → Option Connection → AloneTurn
alone_pull world None = alone_quiet reply.Ignored world.connections
alone_pull world (Some c) = alone_page world c (next_page c.query)

abbrev pub alone_order : AloneWorld → Ordered → AloneTurn
alone_order world o = record {
  reply = order_reply o.refusal;
  changes = o.edits ∷ [];
  connections = world.connections;
}

-- one event; whom the console names is not read
abbrev pub alone_turn : Limits → AloneWorld → Event → AloneTurn
alone_turn limits world (event.Open number) =
    alone_quiet reply.Done (world.connections ++ new_connection number ∷ [])
alone_turn limits world (event.Piece number piece) =
    alone_piece limits world piece (connection_in number world.connections)
alone_turn limits world (event.End number) =
    alone_end world (connection_in number world.connections)
alone_turn limits world (event.Pull number) =
    alone_pull world (connection_in number world.connections)
alone_turn limits world (event.Schedule institution octets) =
    alone_order world (console_outcome limits world.records (Scheduling octets))
alone_turn limits world (event.Withdraw institution id) =
    alone_order world (console_outcome limits world.records (Withdrawal id))

abbrev pub alone_after_turn : AloneWorld → AloneTurn → AloneWorld
alone_after_turn world t =
    record { connections = t.connections; records = edited_all t.changes world.records }

-- the replies to events, one for each, from a world on
abbrev pub alone_replies_from : Limits → AloneWorld → List Event → List Reply
alone_replies_from limits world [] = []
alone_replies_from limits world (e ∷ events) =
    let t = alone_turn limits world e in
    t.reply ∷ alone_replies_from limits (alone_after_turn world t) events

abbrev pub alone_world_from : Limits → AloneWorld → List Event → AloneWorld
alone_world_from limits world [] = world
alone_world_from limits world (e ∷ events) =
    alone_world_from limits (alone_after_turn world (alone_turn limits world e)) events

abbrev pub alone_opening : List Record → AloneWorld
alone_opening records = record { connections = []; records = records }

-- the replies to a history, over the records that are there as it begins
abbrev pub alone_replies : Limits → List Record → List Event → List Reply
alone_replies limits records events = alone_replies_from limits (alone_opening records) events

-- what is held and kept after it
abbrev pub alone_after : Limits → List Record → List Event → AloneWorld
alone_after limits records events = alone_world_from limits (alone_opening records) events

-- the changes of the next event, if it passes a test
abbrev pub changes_next : Limits → AloneWorld → (Event → Bool) → List Event → List (List Edit)
changes_next limits world mine [] = []
changes_next limits world mine (e ∷ events) =
    if mine e then (alone_turn limits world e).changes else []

-- The records after those among the first events of a history that pass a test, and after the first
-- changes of the next event, if it passes it.
abbrev pub records_within : Limits → List Record → (Event → Bool) → List Event → ℕ → ℕ
    → List Record
records_within limits records mine events answered changes =
    let world = alone_after limits records (filter mine (take answered events)) in
    let next = changes_next limits world mine (drop answered events) in
    edited_all (take changes next) world.records
