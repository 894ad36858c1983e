-- The conversation on a connection in a whole history: each message that arrives, with its own
-- responses, those of a C-FIND in as many pages as are asked for, and the close of the connection
-- (PS3.4 sections C.4.1 and K.4.1, PS3.7 section 9.3.2.3, PS3.8 section 9.2).
use Rattle.std.specs.Prelude.{◌≡◌, ◌⊎◌, ℕ, suc, ◌==◌, ◌*◌, nat_le, IsTrue, if◌then◌else◌, List, [], ◌∷◌, ◌++◌, map, length, take, drop, Option, Some, None}
use Rattle.std.specs.List.{AllByRecursion, flat_map}
use Rattle.dq_dimse.specs.CommandFields.{c_cancel}
use Rattle.dq_dimse.specs.Received.{Message}
use Rattle.dq_dimse.specs.Sending.{message_pdus}
use Rattle.dq_assoc.specs.declared.agreement.Agreement.{Agreement}
use Rattle.dq_assoc.specs.declared.association.State.TheVariants.{Waiting, Open}
use Rattle.dq_assoc.specs.declared.association.Verdict.TheVariants.{Accept}
use Rattle.dq_assoc.specs.Negotiation.{agreement_of}
use Rattle.dq_assoc.specs.Table.{Input, Requested, Sent, line, answer_octets}
use Rattle.dq_assoc.specs.Inputs.{inputs}
use Rattle.dq_assoc.specs.After.{is_closed}
use Rattle.dq_config.specs.declared.config.Institution.{Institution}
use Rattle.dq_config.specs.Limits.{limits_of}
use Rattle.dq_tables.specs.declared.row.Row.{Row}
use Rattle.dq_tables.specs.Rows.{Operation, of, after_all}
use Rattle.dq_core.specs.declared.event.Event.{Event}
use Rattle.dq_core.specs.declared.event.Event.TheVariants as event
use Rattle.dq_core.specs.declared.event.Reply.{Reply}
use Rattle.dq_core.specs.Services.{Response, Responses, service_of_message}
use Rattle.dq_core.specs.Pages.{page_length}
use Rattle.dq_core.specs.Answers.{verdict_at}
use Rattle.dq_core.specs.Owners.{live_of}
use Rattle.dq_core.specs.Shared.{World, turn, replies, world_after}
use Rattle.dq_core.specs.Own.{Output, Octet, Close, stream_of, outputs_in, outputs_on}
use Rattle.dq_core.specs.Searches.{IsAnsweredExactly}
use Rattle.dq_core.specs.Soundness.{HoldSound, BringOctets}

-- ---- arrivals

-- An arrival on a connection: an input, with the server's world as it arrives; a pull, which asks
-- for the next page; or the end of the connection.
pub data Arrival : Type 0 where
  InputAt : World → Input → Arrival
  PageRequest : Arrival
  ConnectionEnd : Arrival

-- The inputs of one piece as arrivals. All meet the connections that are held as the piece comes.
-- Each meets the rows after the operations of the messages before it, one operation a message.
abbrev pub input_arrivals : World → List Operation → List Input → List Arrival
input_arrivals world operations [] = []
input_arrivals world operations (Sent message ∷ inputs) =
    let next = record world { rows = after_all (take 1 operations) world.rows } in
    InputAt world (Sent message) ∷ input_arrivals next (drop 1 operations) inputs
input_arrivals world operations (input ∷ inputs) =
    InputAt world input ∷ input_arrivals world operations inputs

-- The arrivals of one event on a connection, after the events before it. A piece brings the inputs
-- that its stream did not have before.
abbrev pub arrivals_at : List Institution → List Row → ℕ → List Event → Event → List Arrival
arrivals_at institutions rows number before (event.Piece n piece) =
    let e = event.Piece n piece in
    let world = world_after institutions rows before in
    let old = inputs (stream_of number before) in
    input_arrivals world (turn institutions world e).operations
    (drop (length old) (inputs (stream_of number (before ++ e ∷ []))))
arrivals_at institutions rows number before (event.Pull n) =
    if n == number then PageRequest ∷ [] else []
arrivals_at institutions rows number before (event.End n) =
    if n == number then ConnectionEnd ∷ [] else []
arrivals_at institutions rows number before e = []

-- the arrivals of further events, in order
abbrev pub arrivals : List Institution → List Row → ℕ → List Event → List Event → List Arrival
arrivals institutions rows number before [] = []
arrivals institutions rows number before (e ∷ events) =
    arrivals_at institutions rows number before e
    ++ arrivals institutions rows number (before ++ e ∷ []) events

-- ---- the responses to a message

-- The arrival after a message and its pulls: a C-CANCEL of it, another message, or no message, if the association or
-- the history ends.
pub data Next : Type 0 where
  Cancel : Next
  AnotherMessage : Next
  NoMessage : Next

-- The number of pulls behind the message with an id, and what stands behind them. A C-CANCEL of
-- another message counts for nothing.
abbrev pub sequel : ℕ → List Arrival → ℕ × Next
sequel id [] = (0, NoMessage)
sequel id (PageRequest ∷ later) = let s = sequel id later in (suc s.0, s.1)
sequel id (ConnectionEnd ∷ later) = (0, NoMessage)
sequel id (InputAt world (Sent message) ∷ later) =
    if message.command.code == c_cancel
    then (if message.command.id == id then (0, Cancel) else sequel id later)
    else (0, AnotherMessage)
sequel id (InputAt world input ∷ later) = (0, NoMessage)

-- the pending responses, and then the final one
abbrev pub all_responses : Responses → List Response
all_responses r = r.pending ++ r.final ∷ []

-- All responses, where so many pages of 64 pending ones hold them. Else the responses on these
-- pages, and what is sent in place of the others.
abbrev pub responses_in_pages : ℕ → Responses → List Response → List Response
responses_in_pages pages r instead =
    if nat_le (length r.pending) (pages * page_length) then all_responses r
    else take (pages * page_length) r.pending ++ instead

-- The responses that are sent: all of them before another message. Else those on the pages, and
-- after a C-CANCEL its own final response, FE00, in place of the others.
abbrev pub responses_sent : ℕ → Next → Responses → List Response
responses_sent pages AnotherMessage r = all_responses r
responses_sent pages Cancel r = responses_in_pages pages r (r.cancelled ∷ [])
responses_sent pages NoMessage r = responses_in_pages pages r []

-- The octets of the responses to a message, if it has any, on its own context: one page at once, and
-- one at each pull.
abbrev pub response_octets_of : Agreement → Message → ℕ × Next → Option Responses → List ℕ
response_octets_of agreement message s None = []
response_octets_of agreement message s (Some r) = flat_map
    (λ (x : Response). message_pdus message.context x.0 x.1 agreement.limit)
    (responses_sent (suc s.0) s.1 r)

-- ---- the conversation

-- The outputs on an association that is open: the responses to each message, over the rows that
-- there are as it arrives. An input that is no message closes, after its answer.
abbrev pub exchange : Institution → Agreement → List Arrival → List Output
exchange i agreement [] = []
exchange i agreement (PageRequest ∷ later) = exchange i agreement later
exchange i agreement (ConnectionEnd ∷ later) = []
exchange i agreement (InputAt world (Sent message) ∷ later) =
    let service = service_of_message (limits_of i) (of i.name world.rows) agreement message in
    let octets = response_octets_of agreement message (sequel message.command.id later)
    service.responses in
    map Octet octets ++ exchange i agreement later
exchange i agreement (InputAt world input ∷ later) =
    map Octet (answer_octets (line Open Accept input).answer) ++ Close ∷ []

-- The outputs on a connection of an institution: the answer to its request, and then the exchange,
-- unless the answer closes.
abbrev pub conversation : List Institution → Institution → List Arrival → List Output
conversation institutions i [] = []
conversation institutions i (InputAt world (Requested request) ∷ later) =
    let live = live_of institutions i.name world.connections in
    let l = line Waiting (verdict_at i.associations live) (Requested request) in
    map Octet (answer_octets l.answer)
    ++ (if is_closed l.next then Close ∷ [] else exchange i (agreement_of request) later)
conversation institutions i (first ∷ later) = conversation institutions i later

-- the conversation on a connection in a history
abbrev pub conversation_on : List Institution → List Row → ℕ → Institution → List Event
    → List Output
conversation_on institutions rows number i events =
    conversation institutions i (arrivals institutions rows number [] events)

-- ---- pages

-- All responses to a message are sent: another message follows, or the pages hold them.
abbrev pub AreAllSent : ℕ × Next → Option Responses → Type 0
AreAllSent s None = Unit {0}
AreAllSent s (Some r) =
    (s.1 ≡ AnotherMessage) ⊎ IsTrue (nat_le (length r.pending) (suc s.0 * page_length))

-- so it is of each message
abbrev pub AreFinished : Institution → Agreement → List Arrival → Type 0
AreFinished i agreement [] = Unit {0}
AreFinished i agreement (InputAt world (Sent message) ∷ later) =
    AreAllSent (sequel message.command.id later)
    (service_of_message (limits_of i) (of i.name world.rows) agreement message).responses
    × AreFinished i agreement later
AreFinished i agreement (arrival ∷ later) = AreFinished i agreement later

abbrev pub without_page_requests : List Arrival → List Arrival
without_page_requests [] = []
without_page_requests (PageRequest ∷ later) = without_page_requests later
without_page_requests (arrival ∷ later) = arrival ∷ without_page_requests later

-- ---- the law

-- Each C-FIND is answered with exactly the records that match.
abbrev pub IsExactAt : Institution → Arrival → Type 0
IsExactAt i (InputAt world (Sent message)) =
    (agreement : Agreement)
    → IsAnsweredExactly (limits_of i) (of i.name world.rows) agreement message
IsExactAt i other = Unit {0}

-- The outputs on a connection that an institution owns, in a whole history, are its conversation.
-- Each C-FIND in that is answered with exactly the records that match.
pub record IsAnswered (institutions : List Institution) (rows : List Row) (events : List Event)
    (number : ℕ) (i : Institution) : Type 0 where
  pub outputs : outputs_on number events (replies institutions rows events)
      ≡ conversation_on institutions rows number i events
  pub exact : HoldSound rows → BringOctets events
      → AllByRecursion (IsExactAt i) (arrivals institutions rows number [] events)

-- So it is of a run that a fault may end, of the events that were answered.
pub record IsAnsweredRun (institutions : List Institution) (rows : List Row) (events : List Event)
    (given : List Reply) (number : ℕ) (i : Institution) : Type 0 where
  pub outputs : outputs_on number events given
      ≡ conversation_on institutions rows number i (take (length given) events)
  pub exact : AllByRecursion (IsExactAt i)
      (arrivals institutions rows number [] (take (length given) events))

-- The outputs of the reply at an event on it are what the event adds to the conversation.
abbrev pub IsAnsweredAt : List Institution → List Row → List Event → ℕ → Institution → Event → Type 0
IsAnsweredAt institutions rows events number i event =
    conversation_on institutions rows number i (events ++ event ∷ [])
    ≡ conversation_on institutions rows number i events
    ++ outputs_in (turn institutions (world_after institutions rows events) event).reply
