-- Reading from the front of octets, computed. Each definition here reads what the one of its name in Spelling spells.
use Rattle.std.specs.Prelude.{◌≡◌, ℕ, ◌+◌, ◌-◌, ◌/◌, ◌%◌, Bool, not, ◌&&◌, ◌||◌, ◌==◌, nat_lt, nat_le, if◌then◌else◌, List, length, take, drop, map, slice_index, Option, Some, None, option_map}
use Rattle.std.specs.Int.{w16, w32, from_be_bytes}
use Rattle.dq_list.specs.Lengths.{is_empty}
use Rattle.dq_list.specs.Readers.{◌>>=◌, only_if}
use Rattle.dq_pdu.specs.declared.pdu_reader.Item.{Item}
use Rattle.dq_pdu.specs.declared.pdu_reader.ReadError.{ReadError}
use Rattle.dq_pdu.specs.declared.pdu_reader.ReadError.TheVariants as errors
use Rattle.dq_pdu.specs.declared.pdu_reader.FirstPdu.{FirstPdu}
use Rattle.dq_pdu.specs.declared.pdu_reader.FirstPdu.TheVariants.{Partial, Faulty, Whole}
use Rattle.dq_pdu.specs.declared.bodies.Associate.{Associate}
use Rattle.dq_pdu.specs.declared.fault.PduFault.TheVariants.{Unrecognized, TooLong, Malformed}
use Rattle.dq_pdu.specs.declared.pdu.Pdu.{Pdu}
use Rattle.dq_pdu.specs.declared.pdu.Pdu.TheVariants.{Request as request_pdu, Accept as accept_pdu, Reject, PData, ReleaseRq, ReleaseRp, Abort}
use Rattle.dq_pdu.specs.declared.pdu.Request.{Request}
use Rattle.dq_pdu.specs.declared.pdu.Accept.{Accept}
use Rattle.dq_pdu.specs.declared.pdu.ProposedContext.{ProposedContext}
use Rattle.dq_pdu.specs.declared.pdu.AnsweredContext.{AnsweredContext}
use Rattle.dq_pdu.specs.declared.pdu.Pdv.{Pdv}
use Rattle.dq_pdu.specs.Numbers.{a_associate_rq, a_associate_ac, a_associate_rj, p_data_tf, a_release_rq, a_release_rp, a_abort, application_context_item, proposed_context_item, answered_context_item, abstract_syntax_item, transfer_syntax_item, user_information_item, maximum_length_item, pdu_header, longest_body, associate_fields, item_header, context_fields, pdv_header, pdv_fields, title_length, reserved_length, short_body}
use Rattle.dq_pdu.specs.Octets.{parts_of, each_given, bodies, at_most_one, exactly_one, without_uid_padding, are_distinct}

-- what an error of a reader tells of what was to be read: nothing where memory ran out
abbrev pub Fails : {Y : Type 0} → ReadError → Option Y → Type 0
Fails errors.Memory read = Unit {0}
Fails errors.Malformed read = read ≡ None

unfoldable pub item_at : List ℕ → Option (Item × List ℕ)
item_at octets =
    let size = from_be_bytes w16 (take 2 (drop 2 octets)) in
    let behind = drop item_header octets in
    if nat_lt (length octets) item_header || nat_lt (length behind) size then None
    else Some (record { kind = slice_index octets 0; octets = take size behind }, drop size behind)

-- the PDV of a control header
abbrev pub pdv_of : ℕ → ℕ → List ℕ → Pdv
pdv_of context control octets = record {
  context = context;
  command = control % 2 == 1;
  last = (control / 2) % 2 == 1;
  octets = octets;
}

unfoldable pub pdv_at : List ℕ → Option (Pdv × List ℕ)
pdv_at octets =
    let size = from_be_bytes w32 (take 4 octets) in
    let behind = drop pdv_header octets in
    let fragment = take (size - pdv_fields) behind in
    if nat_lt (length octets) pdv_header || nat_lt size pdv_fields
    || nat_lt (length (drop 4 octets)) size
    then None
    else Some (
      pdv_of (slice_index octets 4) (slice_index octets 5) fragment,
      drop (size - pdv_fields) behind,
    )

-- whether a context's id is odd
abbrev pub is_odd : ℕ → Bool
is_odd id = id % 2 == 1

unfoldable pub proposed_of : List ℕ → Option ProposedContext
proposed_of body = do
  rest ← only_if (nat_le context_fields (length body)) (drop context_fields body)
  items ← parts_of item_at rest
  abstract ← exactly_one (bodies abstract_syntax_item items)
  let syntaxes = bodies transfer_syntax_item items
  only_if (is_odd (slice_index body 0) && not (is_empty syntaxes)) (record {
    id = slice_index body 0;
    abstract_syntax = without_uid_padding abstract;
    transfer_syntaxes = map without_uid_padding syntaxes;
  })

unfoldable pub answered_of : List ℕ → Option AnsweredContext
answered_of body = do
  rest ← only_if (nat_le context_fields (length body)) (drop context_fields body)
  items ← parts_of item_at rest
  transfer ← exactly_one (bodies transfer_syntax_item items)
  only_if (is_odd (slice_index body 0)) (record {
    id = slice_index body 0;
    result = slice_index body 2;
    transfer_syntax = without_uid_padding transfer;
  })

-- the maximum length, four octets
abbrev pub maximum_in : Option (List ℕ) → Option (Option ℕ)
maximum_in None = Some None
maximum_in (Some octets) = only_if (length octets == 4) (Some (from_be_bytes w32 octets))

-- the maximum length that user information holds
unfoldable pub user_information_of : Option (List ℕ) → Option (Option ℕ)
user_information_of None = Some None
user_information_of (Some body) = do
  items ← parts_of item_at body
  found ← at_most_one (bodies maximum_length_item items)
  maximum_in found

-- what a request and an acceptance have in common, from the body and the items after its fixed
-- fields
unfoldable pub fields_of : List ℕ → List Item → Option Associate
fields_of body items = do
  application ← at_most_one (bodies application_context_item items)
  user ← at_most_one (bodies user_information_item items)
  maximum ← user_information_of user
  Some (record {
    version = from_be_bytes w16 (take 2 body);
    called = take title_length (drop 4 body);
    calling = take title_length (drop 20 body);
    reserved = take reserved_length (drop 36 body);
    application_context = option_map without_uid_padding application;
    maximum_length = maximum;
  })

abbrev pub request_with : Associate → List ProposedContext → Request
request_with fields contexts = record {
  version = fields.version;
  called = fields.called;
  calling = fields.calling;
  reserved = fields.reserved;
  application_context = fields.application_context;
  contexts = contexts;
  maximum_length = fields.maximum_length;
}

abbrev pub accept_with : Associate → List AnsweredContext → Accept
accept_with fields contexts = record {
  version = fields.version;
  called = fields.called;
  calling = fields.calling;
  reserved = fields.reserved;
  application_context = fields.application_context;
  contexts = contexts;
  maximum_length = fields.maximum_length;
}

-- the same with the contexts, each of which is read from the body of an item of the type
unfoldable pub associate_of : {C : Type 0} → (List ℕ → Option C) → (C → ℕ) → ℕ → List ℕ
    → Option (Associate × List C)
associate_of context_of id_of kind body = do
  rest ← only_if (nat_le associate_fields (length body)) (drop associate_fields body)
  items ← parts_of item_at rest
  fields ← fields_of body items
  contexts ← each_given context_of (bodies kind items)
  only_if (are_distinct (map id_of contexts)) (fields, contexts)

unfoldable pub request_of : List ℕ → Option Request
request_of body = do
  read ← associate_of proposed_of (λ c. c.id) proposed_context_item body
  Some (request_with read.0 read.1)

unfoldable pub accept_of : List ℕ → Option Accept
accept_of body = do
  read ← associate_of answered_of (λ c. c.id) answered_context_item body
  Some (accept_with read.0 read.1)

unfoldable pub data_pdu_of : List ℕ → Option Pdu
data_pdu_of body = do
  values ← parts_of pdv_at body
  only_if (not (is_empty values)) (PData values)

-- a PDU of which the body has four octets
abbrev pub if_short : List ℕ → Pdu → Option Pdu
if_short body pdu = only_if (length body == short_body) pdu

-- the PDU of a type that has the body
unfoldable pub pdu_of : ℕ → List ℕ → Option Pdu
pdu_of kind body =
    if kind == a_associate_rq then option_map request_pdu (request_of body)
    else (if kind == a_associate_ac then option_map accept_pdu (accept_of body)
    else (if kind == a_associate_rj
    then if_short body (Reject (slice_index body 1) (slice_index body 2) (slice_index body 3))
    else (if kind == p_data_tf then data_pdu_of body
    else (if kind == a_release_rq then if_short body ReleaseRq
    else (if kind == a_release_rp then if_short body ReleaseRp
    else (if kind == a_abort then if_short body (Abort (slice_index body 2) (slice_index body 3))
    else None))))))

-- a PDU of so many octets, or none where the body breaks a rule
abbrev pub whole_or_malformed : Option Pdu → ℕ → FirstPdu
whole_or_malformed None count = Faulty Malformed
whole_or_malformed (Some pdu) count = Whole pdu count

-- the length of a PDU's body, of its octets
abbrev pub body_length : List ℕ → ℕ
body_length octets = from_be_bytes w32 (take 4 (drop 2 octets))

-- there are seven types of PDU
abbrev pub is_unrecognized : ℕ → Bool
is_unrecognized kind = nat_lt kind a_associate_rq || nat_lt a_abort kind

-- what octets begin with: part of a PDU, a fault, or a whole PDU of so many octets
unfoldable pub first_pdu : List ℕ → FirstPdu
first_pdu octets =
    let size = body_length octets in
    let behind = drop pdu_header octets in
    if nat_lt (length octets) pdu_header then Partial
    else (if is_unrecognized (slice_index octets 0) then Faulty Unrecognized
    else (if nat_lt longest_body size then Faulty TooLong
    else (if nat_lt (length behind) size then Partial
    else (
    whole_or_malformed (pdu_of (slice_index octets 0) (take size behind)) (size + pdu_header)
    ))))
