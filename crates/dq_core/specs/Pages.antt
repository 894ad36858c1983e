-- The answers to a C-FIND in pages: how much of its responses is sent at once, and what becomes of
-- those that are left (PS3.4 sections C.4.1 and K.4.1, PS3.7 section 9.3.2.3).
use Rattle.std.specs.Prelude.{ℕ, ◌==◌, nat_le, if◌then◌else◌, List, [], ◌∷◌, ◌++◌, length, take, drop, Option, Some, None, option_map}
use Rattle.std.specs.List.{flat_map}
use Rattle.dq_dimse.specs.CommandFields.{c_cancel}
use Rattle.dq_dimse.specs.Received.{Message}
use Rattle.dq_dimse.specs.Sending.{message_pdus}
use Rattle.dq_assoc.specs.declared.agreement.Agreement.{Agreement}
use Rattle.dq_config.specs.Limits.{Limits}
use Rattle.dq_tables.specs.Rows.{Record, Edit}
use Rattle.dq_core.specs.Services.{Response, Responses, Served, service_of_message}

-- a response as it is sent to a peer that takes PDUs up to a limit
abbrev pub response_octets : ℕ → ℕ → Response → List ℕ
response_octets context limit response = message_pdus context response.0 response.1 limit

-- Responses that were not sent: the id of their presentation context, the longest PDU that the peer
-- takes, and those that are left.
pub record OpenQuery : Type 0 where
  pub context : ℕ
  pub limit : ℕ
  pub left : Responses

-- the Message ID of the request that they answer
abbrev pub answered_message_id : OpenQuery → ℕ
answered_message_id query = query.left.final.0.id

-- how many pending responses are sent at once
abbrev pub page_length : ℕ
page_length = 64

-- the octets that are sent at once, and what is then left, if the final response was not sent
pub record Page : Type 0 where
  pub octets : List ℕ
  pub query : Option OpenQuery

abbrev pub responses_octets : OpenQuery → List Response → List ℕ
responses_octets query responses = flat_map (response_octets query.context query.limit) responses

-- all that is left
abbrev pub rest : OpenQuery → List ℕ
rest query = responses_octets query (query.left.pending ++ query.left.final ∷ [])

abbrev pub without_first : ℕ → OpenQuery → OpenQuery
without_first count query = record query {
  left = record query.left { pending = drop count query.left.pending };
}

-- A page: the next pending responses, and the final one where none of them is left.
abbrev pub page : OpenQuery → Page
page query =
    if nat_le (length query.left.pending) page_length
    then record { octets = rest query; query = None }
    else record {
      octets = responses_octets query (take page_length query.left.pending);
      query = Some (without_first page_length query);
    }

-- Where no response is left, there is nothing to send.
abbrev pub next_page : Option OpenQuery → Page
next_page None = record { octets = []; query = None }
next_page (Some query) = page query

-- the responses to a message, of which none was sent
abbrev pub query_by : Agreement → Message → Option Responses → Option OpenQuery
query_by agreement message responses = option_map (λ (r : Responses). record {
  context = message.context;
  limit = agreement.limit;
  left = r;
}) responses

-- The reaction to a message: the octets that are sent, the edits of the records, and the C-FIND that is open
-- afterwards.
pub record Reaction : Type 0 where
  pub octets : List ℕ
  pub edits : List Edit
  pub query : Option OpenQuery

-- A service answers it: its edits are made, and the first page of its responses is sent.
abbrev pub first_reaction : Agreement → Message → Served → Reaction
first_reaction agreement message service =
    let first = next_page (query_by agreement message service.responses) in
    record { octets = first.octets; edits = service.edits; query = first.query }

-- A C-CANCEL of the C-FIND that is open, on whatever context: that has no more pending responses.
-- One of another message has no effect.
abbrev pub cancel_reaction : ℕ → OpenQuery → Reaction
cancel_reaction id query =
    if id == answered_message_id query
    then record { octets = responses_octets query (query.left.cancelled ∷ []); edits = []; query = None }
    else record { octets = []; edits = []; query = Some query }

-- what comes after all that is left of a C-FIND
abbrev pub after_rest : OpenQuery → Reaction → Reaction
after_rest query later = record later { octets = rest query ++ later.octets }

-- Any other message first brings all that is left of the C-FIND that is open, and is then served.
abbrev pub reaction_while : Option OpenQuery → Message → Reaction → Reaction
reaction_while None message first = first
reaction_while (Some query) message first =
    if message.command.code == c_cancel then cancel_reaction message.command.id query
    else after_rest query first

-- what a message on an association leads to
unfoldable pub reaction : Option OpenQuery → Limits → List Record → Agreement → Message → Reaction
reaction query limits records agreement message = reaction_while query message
    (first_reaction agreement message (service_of_message limits records agreement message))
