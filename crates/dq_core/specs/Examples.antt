-- Worked examples: what is sent to the plain server in small histories, and what it replies, octet
-- for octet (PS3.8 section 9.3, PS3.7 section 9.3).
use Rattle.std.specs.Prelude.{ℕ, zero, suc, ◌+◌, ◌/◌, ◌%◌, false, List, [], ◌∷◌, ◌++◌, codes, replicate}
use Rattle.dq_config.specs.declared.config.Institution.{Institution}
use Rattle.dq_tables.specs.declared.row.Kind.TheVariants.{Study}
use Rattle.dq_tables.specs.declared.row.Row.{Row}
use Rattle.dq_core.specs.declared.event.Event.{Event}
use Rattle.dq_core.specs.declared.event.Event.TheVariants.{Open, Piece}
use Rattle.dq_core.specs.declared.event.Reply.{Reply}
use Rattle.dq_core.specs.declared.event.Reply.TheVariants.{Octets}

-- ---- requests and acceptances

-- an item: its type, its length, its body
abbrev pub example_item : ℕ → ℕ → List ℕ → List ℕ
example_item kind size body = kind ∷ 0 ∷ 0 ∷ size ∷ [] ++ body

-- requests and acceptances: their type, the length of the body, the version, the calling title, and
-- the items after the application context
abbrev pub associate_pdu : ℕ → ℕ → ℕ → List ℕ → List ℕ → List ℕ
associate_pdu kind size version calling items =
    kind ∷ 0 ∷ 0 ∷ 0 ∷ (size / 256) ∷ (size % 256) ∷ 0 ∷ version ∷ 0 ∷ 0 ∷ []
    ++ codes "ARCHIVE         " ++ calling ++ replicate 32 0
    ++ example_item 0x10 21 (codes "1.2.840.10008.3.1.1.1") ++ items

abbrev pub implicit : List ℕ
implicit = example_item 0x40 17 (codes "1.2.840.10008.1.2")

abbrev pub explicit : List ℕ
explicit = example_item 0x40 19 (codes "1.2.840.10008.1.2.1")

-- a context of a request: its id, the length of the item, the class and the syntaxes
abbrev pub example_proposal : ℕ → ℕ → List ℕ → List ℕ
example_proposal id size items = example_item 0x20 size (id ∷ 0 ∷ 0 ∷ 0 ∷ [] ++ items)

-- a context of an acceptance: its id, the length of the item, its result, and the syntax
abbrev pub result : ℕ → ℕ → ℕ → List ℕ → List ℕ
result id size reason syntax = example_item 0x21 size (id ∷ 0 ∷ reason ∷ 0 ∷ [] ++ syntax)

-- the user information of a peer that takes PDUs of so many octets, and that of the server
abbrev pub peer_information : ℕ → List ℕ
peer_information maximum = example_item 0x50 17
    (example_item 0x51 4 (0 ∷ 0 ∷ (maximum / 256) ∷ (maximum % 256) ∷ []) ++ example_item 0x52 5 (codes "1.2.3"))

abbrev pub server_information : List ℕ
server_information = example_item 0x50 41 (example_item 0x51 4 (0 ∷ 1 ∷ 0 ∷ 0 ∷ [])
    ++ example_item 0x52 15 (codes "2.25.2718281828") ++ example_item 0x55 10 (codes "DQARCHIVE1"))

-- A request for Verification in Implicit VR Little Endian, with a version, a calling title, a
-- context's id and a maximum length in two octets.
abbrev pub request_from : ℕ → List ℕ → ℕ → ℕ → List ℕ
request_from version calling id maximum = associate_pdu 1 164 version calling
    (example_proposal id 46 (example_item 0x30 17 (codes "1.2.840.10008.1.1") ++ implicit)
    ++ peer_information maximum)

-- such a request of a modality, and its acceptance
abbrev pub associate_request : List ℕ → List ℕ
associate_request calling = request_from 1 calling 1 16384

abbrev pub acceptance_pdu : List ℕ → List ℕ
acceptance_pdu calling = associate_pdu 2 167 1 calling (result 1 25 0 implicit ++ server_information)

-- modalities, one of which no institution has
abbrev pub modality_title : List ℕ
modality_title = codes "MODALITY        "

abbrev pub ct1 : List ℕ
ct1 = codes "CT1             "

abbrev pub ct2 : List ℕ
ct2 = codes "CT2             "

abbrev pub ct9 : List ℕ
ct9 = codes "CT9             "

-- a request with four contexts: Study Root FIND in Implicit and Explicit, CT storage in Implicit, MR
-- storage in JPEG alone, and a class that is not served
abbrev pub four_contexts : List ℕ
four_contexts = associate_pdu 1 356 1 modality_title
    (example_proposal 1 79 (example_item 0x30 27 (codes "1.2.840.10008.5.1.4.1.2.2.1") ++ implicit ++ explicit)
    ++ example_proposal 3 54 (example_item 0x30 25 (codes "1.2.840.10008.5.1.4.1.1.2") ++ implicit)
    ++ example_proposal 5 59 (example_item 0x30 25 (codes "1.2.840.10008.5.1.4.1.1.4")
    ++ example_item 0x40 22 (codes "1.2.840.10008.1.2.4.50"))
    ++ example_proposal 7 34 (example_item 0x30 5 (codes "1.2.3") ++ implicit) ++ peer_information 16384)

-- Explicit before Implicit; result 4 where no syntax is taken, and 3 where the class is not served
abbrev pub four_results : List ℕ
four_results = associate_pdu 2 256 1 modality_title
    (result 1 27 0 explicit ++ result 3 25 0 implicit ++ result 5 25 4 implicit
    ++ result 7 25 3 implicit ++ server_information)

-- a request for Study Root FIND in Explicit alone, and its acceptance
abbrev pub find_request : List ℕ → List ℕ
find_request calling = associate_pdu 1 176 1 calling
    (example_proposal 1 58 (example_item 0x30 27 (codes "1.2.840.10008.5.1.4.1.2.2.1") ++ explicit)
    ++ peer_information 16384)

abbrev pub find_accepted : List ℕ → List ℕ
find_accepted calling = associate_pdu 2 169 1 calling (result 1 27 0 explicit ++ server_information)

-- A request for Study Root FIND on context 1, in Explicit, and for Verification on context 3, in
-- Implicit, and its acceptance.
abbrev pub find_and_echo_request : List ℕ → List ℕ
find_and_echo_request calling = associate_pdu 1 226 1 calling
    (example_proposal 1 58 (example_item 0x30 27 (codes "1.2.840.10008.5.1.4.1.2.2.1") ++ explicit)
    ++ example_proposal 3 46 (example_item 0x30 17 (codes "1.2.840.10008.1.1") ++ implicit)
    ++ peer_information 16384)

abbrev pub find_and_echo_accepted : List ℕ → List ℕ
find_and_echo_accepted calling = associate_pdu 2 198 1 calling
    (result 1 27 0 explicit ++ result 3 25 0 implicit ++ server_information)

-- a release, and its answer
abbrev pub release : List ℕ
release = 5 ∷ 0 ∷ 0 ∷ 0 ∷ 0 ∷ 4 ∷ 0 ∷ 0 ∷ 0 ∷ 0 ∷ []

abbrev pub release_response : List ℕ
release_response = 6 ∷ 0 ∷ 0 ∷ 0 ∷ 0 ∷ 4 ∷ 0 ∷ 0 ∷ 0 ∷ 0 ∷ []

-- ---- messages

-- an element of group 0000 of a command set: its number in two octets, its length, its value
abbrev pub example_element : ℕ → ℕ → List ℕ → List ℕ
example_element number size value =
    0 ∷ 0 ∷ (number % 256) ∷ (number / 256) ∷ size ∷ 0 ∷ 0 ∷ 0 ∷ [] ++ value

-- an element whose value is a number of two octets
abbrev pub example_short_element : ℕ → ℕ → List ℕ
example_short_element number value = example_element number 2 ((value % 256) ∷ (value / 256) ∷ [])

-- P-DATA of one value of a context: the PDU's and the value's length, and the control header, which
-- is 3 for the last fragment of a command, 2 for that of a data set, and 1 for another of a command
abbrev pub value_on : ℕ → ℕ → ℕ → ℕ → List ℕ → List ℕ
value_on context one_pdu value control fragment =
    4 ∷ 0 ∷ 0 ∷ 0 ∷ 0 ∷ one_pdu ∷ 0 ∷ 0 ∷ 0 ∷ value ∷ context ∷ control ∷ [] ++ fragment

abbrev pub value_pdu : ℕ → ℕ → ℕ → List ℕ → List ℕ
value_pdu = value_on 1

-- a request's command set: its Message ID, the length of what follows, the class, the Command Field,
-- and whether a data set follows, which 0x0101 denies
abbrev pub request_set_with : ℕ → ℕ → List ℕ → ℕ → ℕ → List ℕ
request_set_with id size class code with_data =
    example_element 0x0000 4 (size ∷ 0 ∷ 0 ∷ 0 ∷ []) ++ class
    ++ example_short_element 0x0100 code ++ example_short_element 0x0110 id ++ example_short_element 0x0800 with_data

abbrev pub request_set : ℕ → List ℕ → ℕ → ℕ → List ℕ
request_set = request_set_with 1

-- the same of a response, with its status
abbrev pub response_set_with : ℕ → ℕ → List ℕ → ℕ → ℕ → ℕ → List ℕ
response_set_with id size class code with_data status =
    example_element 0x0000 4 (size ∷ 0 ∷ 0 ∷ 0 ∷ []) ++ class
    ++ example_short_element 0x0100 code ++ example_short_element 0x0120 id ++ example_short_element 0x0800 with_data
    ++ example_short_element 0x0900 status

abbrev pub response_set : ℕ → List ℕ → ℕ → ℕ → ℕ → List ℕ
response_set = response_set_with 1

-- classes, padded to an even length
abbrev pub verification : List ℕ
verification = example_element 0x0002 18 (codes "1.2.840.10008.1.1" ++ 0 ∷ [])

abbrev pub study_root : List ℕ
study_root = example_element 0x0002 28 (codes "1.2.840.10008.5.1.4.1.2.2.1" ++ 0 ∷ [])

abbrev pub ct_storage : List ℕ
ct_storage = example_element 0x0002 26 (codes "1.2.840.10008.5.1.4.1.1.2" ++ 0 ∷ [])

-- a C-ECHO, its response, and a response on Verification with a Command Field and a status
abbrev pub echo : List ℕ
echo = value_pdu 74 70 3 (request_set 56 verification 0x0030 0x0101)

abbrev pub example_response : ℕ → ℕ → List ℕ
example_response code status = value_pdu 84 80 3 (response_set 66 verification code 0x0101 status)

abbrev pub echo_response : List ℕ
echo_response = example_response 0x8030 0x0000

-- a C-ECHO on a context, with a Message ID, and its response
abbrev pub echo_on : ℕ → ℕ → List ℕ
echo_on context id =
    value_on context 74 70 3 (request_set_with id 56 verification 0x0030 0x0101)

abbrev pub echoed_on : ℕ → ℕ → List ℕ
echoed_on context id =
    value_on context 84 80 3 (response_set_with id 66 verification 0x8030 0x0101 0x0000)

-- a Study Root C-FIND, whose data set follows, and its final response
abbrev pub find_command : List ℕ
find_command = value_pdu 84 80 3 (request_set 66 study_root 0x0020 0x0000)

abbrev pub find_status : ℕ → List ℕ
find_status status = value_pdu 94 90 3 (response_set 76 study_root 0x8020 0x0101 status)

-- the level that is asked at
abbrev pub level : List ℕ → List ℕ
level value = 0x08 ∷ 0 ∷ 0x52 ∷ 0 ∷ 0x43 ∷ 0x53 ∷ 6 ∷ 0 ∷ [] ++ value

-- a query at a level, which asks for nothing else
abbrev pub find_level : List ℕ → List ℕ
find_level value = find_command ++ value_pdu 20 16 2 (level value)

abbrev pub find_studies : List ℕ
find_studies = find_level (codes "STUDY ")

-- Study Instance UID, in Explicit
abbrev pub study_element : ℕ → List ℕ → List ℕ
study_element size value = 0x20 ∷ 0 ∷ 0x0d ∷ 0 ∷ 0x55 ∷ 0x49 ∷ size ∷ 0 ∷ [] ++ value

-- a query for the UIDs of all studies
abbrev pub find_uids : List ℕ
find_uids = find_command ++ value_pdu 28 24 2 (level (codes "STUDY ") ++ study_element 0 [])

-- a pending response to it, with level, title, availability and the UID
abbrev pub found_study : List ℕ
found_study = value_pdu 94 90 3 (response_set 76 study_root 0x8020 0x0001 0xff00)
    ++ value_pdu 68 64 2 (level (codes "STUDY ")
    ++ 0x08 ∷ 0 ∷ 0x54 ∷ 0 ∷ 0x41 ∷ 0x45 ∷ 8 ∷ 0 ∷ [] ++ codes "ARCHIVE "
    ++ 0x08 ∷ 0 ∷ 0x56 ∷ 0 ∷ 0x43 ∷ 0x53 ∷ 12 ∷ 0 ∷ [] ++ codes "UNAVAILABLE "
    ++ study_element 4 (codes "1.21"))

-- a C-STORE of a CT image without a data set, on a context, and its response with a status
abbrev pub image : List ℕ
image = example_element 0x1000 6 (codes "1.2.3" ++ 0 ∷ [])

abbrev pub store_on : ℕ → List ℕ
store_on context =
    value_on context 96 92 3 (request_set 78 ct_storage 0x0001 0x0101 ++ image)

abbrev pub store_status : ℕ → ℕ → List ℕ
store_status context status =
    value_on context 106 102 3 (response_set 88 ct_storage 0x8001 0x0101 status ++ image)

-- ---- institutions, rows, histories

-- two institutions with one route each, the first of which may have some associations open at a time
abbrev pub institution : List ℕ → List ℕ → ℕ → Institution
institution name calling associations = record {
  name = name;
  routes = record { called = codes "ARCHIVE"; calling = calling } ∷ [];
  studies = 100;
  images = 1000;
  entries = 100;
  steps = 100;
  associations = associations;
}

abbrev pub north : List ℕ
north = codes "NORTH"

abbrev pub south : List ℕ
south = codes "SOUTH"

abbrev pub two : ℕ → List Institution
two associations =
    institution north (codes "CT1") associations ∷ institution south (codes "CT2") 4 ∷ []

-- a study that the first of them keeps
abbrev pub kept_study : Row
kept_study = record {
  kind = Study;
  inst = north;
  key = codes "1.21";
  above = [];
  octets = study_element 4 (codes "1.21");
  started = false;
}

-- one connection, which is opened and then sends the pieces
abbrev pub sends : List (List ℕ) → List Event
sends [] = []
sends (piece ∷ pieces) = Piece 1 piece ∷ sends pieces

abbrev pub history : List (List ℕ) → List Event
history pieces = Open 1 ∷ sends pieces

-- octets, after which the connection goes on
abbrev pub reply_with : List ℕ → Reply
reply_with octets = Octets 1 octets false

-- Studies that the first of them keeps, so many of them from a number of three digits on, and the
-- pending responses to a query for their UIDs.
abbrev pub numbered_uid : ℕ → List ℕ
numbered_uid n =
    codes "1." ++ (48 + n / 100) ∷ (48 + (n / 10) % 10) ∷ (48 + n % 10) ∷ []

abbrev pub numbered_study : ℕ → Row
numbered_study n = record {
  kind = Study;
  inst = north;
  key = numbered_uid n;
  above = [];
  octets = study_element 6 (numbered_uid n ++ 0 ∷ []);
  started = false;
}

abbrev pub studies_from : ℕ → ℕ → List Row
studies_from n zero = []
studies_from n (suc count) = numbered_study n ∷ studies_from (suc n) count

abbrev pub found_from : ℕ → ℕ → List ℕ
found_from n zero = []
found_from n (suc count) =
    value_pdu 94 90 3 (response_set 76 study_root 0x8020 0x0001 0xff00)
    ++ value_pdu 70 66 2 (level (codes "STUDY ")
    ++ 0x08 ∷ 0 ∷ 0x54 ∷ 0 ∷ 0x41 ∷ 0x45 ∷ 8 ∷ 0 ∷ [] ++ codes "ARCHIVE "
    ++ 0x08 ∷ 0 ∷ 0x56 ∷ 0 ∷ 0x43 ∷ 0x53 ∷ 12 ∷ 0 ∷ [] ++ codes "UNAVAILABLE "
    ++ study_element 6 (numbered_uid n ++ 0 ∷ [])) ++ found_from (suc n) count

-- a C-CANCEL of the message with an id
abbrev pub cancel_request : ℕ → List ℕ
cancel_request id = value_pdu 48 44 3
    (example_element 0x0000 4 (30 ∷ 0 ∷ 0 ∷ 0 ∷ []) ++ example_short_element 0x0100 0x0fff
    ++ example_short_element 0x0120 id ++ example_short_element 0x0800 0x0101)

-- a search for the UIDs of the studies, and the events after it
abbrev pub search_then : List Event → List Event
search_then events = Open 1 ∷ Piece 1 (find_request ct1) ∷ Piece 1 find_uids ∷ events

-- the same on an association that has Verification too
abbrev pub find_and_echo_then : List Event → List Event
find_and_echo_then events =
    Open 1 ∷ Piece 1 (find_and_echo_request ct1) ∷ Piece 1 find_uids ∷ events
