-- The answers to the inputs of an association and the changes that these make, for one institution: the same for the
-- server that institutions share and for one that an institution has to itself.
use Rattle.std.specs.Prelude.{ℕ, Bool, false, nat_le, if◌then◌else◌, List, [], ◌∷◌, ◌++◌, length, drop, Option, Some, None, option_map}
use Rattle.dq_pdu.specs.declared.pdu.Request.{Request}
use Rattle.dq_assoc.specs.declared.association.State.TheVariants.{Waiting, Open}
use Rattle.dq_assoc.specs.declared.association.Verdict.{Verdict}
use Rattle.dq_assoc.specs.declared.association.Verdict.TheVariants.{Accept, Nowhere, Busy}
use Rattle.dq_assoc.specs.Table.{Input, Requested, Sent, Line, line, answer_octets}
use Rattle.dq_assoc.specs.Inputs.{inputs}
use Rattle.dq_assoc.specs.After.{is_closed}
use Rattle.dq_assoc.specs.declared.agreement.Agreement.{Agreement}
use Rattle.dq_config.specs.Limits.{Limits}
use Rattle.dq_assoc.specs.Negotiation.{agreement_of}
use Rattle.dq_tables.specs.Rows.{Record, Edit, records_after_edits}
use Rattle.dq_core.specs.Pages.{OpenQuery, Reaction, reaction}
use Rattle.dq_core.specs.Connections.{Connection, with_piece, with_connection, without}

-- The state from which the answers to inputs go on: what was agreed, once a request came, the institution's records,
-- and the C-FIND that is open, if one is.
pub record Progress : Type 0 where
  pub agreement : Option Agreement
  pub records : List Record
  pub query : Option OpenQuery

-- The octets that inputs are answered with, whether the connection is closed after them, the edits
-- that each message made, in order, and what the answers to later inputs go on from.
pub record Answer : Type 0 where
  pub octets : List ℕ
  pub close : Bool
  pub changes : List (List Edit)
  pub next : Progress

abbrev pub no_answer : Progress → Answer
no_answer progress = record { octets = []; close = false; changes = []; next = progress }

-- a line of the association table (PS3.8 section 9.2)
abbrev pub line_answer : Line → Progress → Answer
line_answer l progress = record {
  octets = answer_octets l.answer;
  close = is_closed l.next;
  changes = [];
  next = progress;
}

-- the answer to a message
abbrev pub message_answer : Reaction → Progress → Answer
message_answer reaction progress = record {
  octets = reaction.octets;
  close = false;
  changes = reaction.edits ∷ [];
  next = record progress {
    records = records_after_edits reaction.edits progress.records;
    query = reaction.query;
  };
}

-- two answers as one: nothing comes after one that closes
abbrev pub then_answer : Answer → Answer → Answer
then_answer first later = if first.close then first else record {
  octets = first.octets ++ later.octets;
  close = later.close;
  changes = first.changes ++ later.changes;
  next = later.next;
}

-- an input after the request
abbrev pub open_answer : Limits → Agreement → Progress → Input → Answer
open_answer limits agreement progress (Sent message) =
    message_answer (reaction progress.query limits progress.records agreement message) progress
open_answer limits agreement progress input = line_answer (line Open Accept input) progress

-- what is agreed after an input in the request's place
abbrev pub agreement_by : Input → Option Agreement
agreement_by (Requested request) = Some (agreement_of request)
agreement_by input = None

abbrev pub first_answer : Verdict → Progress → Input → Answer
first_answer verdict progress input =
    line_answer (line Waiting verdict input) (record progress { agreement = agreement_by input })

abbrev pub answer_after : Option Agreement → Limits → Verdict → Progress → Input → Answer
answer_after None limits verdict progress input = first_answer verdict progress input
answer_after (Some agreement) limits verdict progress input =
    open_answer limits agreement progress input

-- one input
abbrev pub input_answer : Limits → Verdict → Progress → Input → Answer
input_answer limits verdict progress input = answer_after progress.agreement limits verdict progress input

-- inputs in order, up to the first that closes
abbrev pub input_answers : Limits → Verdict → Progress → List Input → Answer
input_answers limits verdict progress [] = no_answer progress
input_answers limits verdict progress (input ∷ inputs) =
    let first = input_answer limits verdict progress input in
    then_answer first (input_answers limits verdict first.next inputs)

-- the request among the inputs of a stream: the first of them, if it is one
abbrev pub request_in : List Input → Option Request
request_in [] = None
request_in (Requested request ∷ inputs) = Some request
request_in (input ∷ inputs) = None

-- where the answers stand on a connection, for an institution that has the records
abbrev pub progress_of : Connection → List Record → Progress
progress_of c records = record {
  agreement = option_map agreement_of (request_in (inputs c.stream));
  records = records;
  query = c.query;
}

-- the inputs that a piece adds to those of a stream
abbrev pub inputs_added : List ℕ → List ℕ → List Input
inputs_added stream piece = drop (length (inputs stream)) (inputs (stream ++ piece))

-- what an institution answers to a piece on a connection
abbrev pub piece_answer : Limits → Verdict → List Record → Connection → List ℕ → Answer
piece_answer limits verdict records c piece =
    input_answers limits verdict (progress_of c records) (inputs_added c.stream piece)

-- A request is accepted unless the open associations are at their limit.
abbrev pub verdict_at : ℕ → ℕ → Verdict
verdict_at limit live = if nat_le limit live then Busy else Accept

-- Inputs on a connection that nobody owns: a request is rejected, and what stands in its place
-- closes.
abbrev pub stranger_answer : Progress → List Input → Answer
stranger_answer progress [] = no_answer progress
stranger_answer progress (input ∷ inputs) = line_answer (line Waiting Nowhere input) progress

-- the connections after a piece on one of them
abbrev pub after_piece : Connection → List ℕ → Answer → List Connection → List Connection
after_piece c piece answer connections =
    if answer.close then without c.number connections
    else with_connection (with_piece c piece answer.next.query) connections
