-- The one spelling of a PDU that is written (PS3.8 section 9.3): reserved octets are zero, items
-- stand by rising type.
use Rattle.std.specs.Prelude.{ℕ, ◌+◌, Bool, true, not, ◌&&◌, nat_le, if◌then◌else◌, List, [], ◌∷◌, ◌++◌, length, map, codes, Option, Some, None}
use Rattle.std.specs.List.{flat_map, list_all}
use Rattle.std.specs.Int.{w16, w32, to_be_bytes}
use Rattle.dq_pdu.specs.declared.pdu.Pdu.{Pdu}
use Rattle.dq_pdu.specs.declared.pdu.Pdu.TheVariants.{Request as request_pdu, Accept as accept_pdu, Reject, PData, ReleaseRq, ReleaseRp, Abort}
use Rattle.dq_pdu.specs.declared.pdu.Request.{Request}
use Rattle.dq_pdu.specs.declared.pdu.Accept.{Accept}
use Rattle.dq_pdu.specs.declared.pdu.ProposedContext.{ProposedContext}
use Rattle.dq_pdu.specs.declared.pdu.AnsweredContext.{AnsweredContext}
use Rattle.dq_pdu.specs.declared.pdu.Pdv.{Pdv}
use Rattle.dq_list.specs.Lengths.{is_empty}
use Rattle.dq_pdu.specs.Numbers.{a_associate_rq, a_associate_ac, a_associate_rj, p_data_tf, a_release_rq, a_release_rp, a_abort, application_context_item, proposed_context_item, answered_context_item, abstract_syntax_item, transfer_syntax_item, user_information_item, maximum_length_item, implementation_class_uid_item, implementation_version_name_item, longest_body, pdv_fields}
use Rattle.dq_pdu.specs.Octets.{is_uid_padding, are_distinct}
use Rattle.dq_pdu.specs.Spelling.{SpellsPdu}
use Rattle.dq_pdu.specs.PduReader.{is_odd}

-- an item or sub-item (PS3.8 section 9.3.2)
abbrev pub item : ℕ → List ℕ → List ℕ
item kind body = kind ∷ 0 ∷ (to_be_bytes w16 (length body) ++ body)

abbrev pub control_header : Bool → Bool → ℕ
control_header command last = (if command then 1 else 0) + (if last then 2 else 0)

abbrev pub pdv : Pdv → List ℕ
pdv v =
    to_be_bytes w32 (length v.octets + pdv_fields)
    ++ v.context ∷ control_header v.command v.last ∷ v.octets

abbrev pub proposed_body : ProposedContext → List ℕ
proposed_body c =
    let abstract = item abstract_syntax_item c.abstract_syntax in
    c.id ∷ 0 ∷ 0 ∷ 0 ∷ (abstract ++ flat_map (item transfer_syntax_item) c.transfer_syntaxes)

abbrev pub proposed_context_octets : ProposedContext → List ℕ
proposed_context_octets c = item proposed_context_item (proposed_body c)

abbrev pub answered_body : AnsweredContext → List ℕ
answered_body c = c.id ∷ 0 ∷ c.result ∷ 0 ∷ item transfer_syntax_item c.transfer_syntax

abbrev pub answered_context_octets : AnsweredContext → List ℕ
answered_context_octets c = item answered_context_item (answered_body c)

abbrev pub application_context : Option (List ℕ) → List ℕ
application_context None = []
application_context (Some name) = item application_context_item name

abbrev pub maximum_length : Option ℕ → List ℕ
maximum_length None = []
maximum_length (Some n) = item maximum_length_item (to_be_bytes w32 n)

-- a request without a maximum length has no user information
abbrev pub request_information : Option ℕ → List ℕ
request_information None = []
request_information (Some n) = item user_information_item (maximum_length (Some n))

-- this implementation: its class and its version's name (PS3.7 annex D.3.3.2)
abbrev pub implementation : List ℕ
implementation =
    item implementation_class_uid_item (codes "2.25.2718281828")
    ++ item implementation_version_name_item (codes "DQARCHIVE1")

-- an acceptance names this implementation too
abbrev pub accept_information : Option ℕ → List ℕ
accept_information maximum = item user_information_item (maximum_length maximum ++ implementation)

abbrev pub fixed_fields : ℕ → List ℕ → List ℕ → List ℕ → List ℕ
fixed_fields version called calling reserved =
    to_be_bytes w16 version ++ (0 ∷ 0 ∷ called) ++ calling ++ reserved

abbrev pub associate_octets : ℕ → List ℕ → List ℕ → List ℕ → List ℕ → List ℕ
associate_octets version called calling reserved items =
    fixed_fields version called calling reserved ++ items

abbrev pub request_octets : Request → List ℕ
request_octets r = associate_octets r.version r.called r.calling r.reserved
    (application_context r.application_context ++ flat_map proposed_context_octets r.contexts
    ++ request_information r.maximum_length)

abbrev pub accept : Accept → List ℕ
accept a = associate_octets a.version a.called a.calling a.reserved
    (application_context a.application_context ++ flat_map answered_context_octets a.contexts
    ++ accept_information a.maximum_length)

abbrev pub kind : Pdu → ℕ
kind (request_pdu r) = a_associate_rq
kind (accept_pdu a) = a_associate_ac
kind (Reject result source reason) = a_associate_rj
kind (PData values) = p_data_tf
kind ReleaseRq = a_release_rq
kind ReleaseRp = a_release_rp
kind (Abort source reason) = a_abort

abbrev pub body : Pdu → List ℕ
body (request_pdu r) = request_octets r
body (accept_pdu a) = accept a
body (Reject result source reason) = 0 ∷ result ∷ source ∷ reason ∷ []
body (PData values) = flat_map pdv values
body ReleaseRq = 0 ∷ 0 ∷ 0 ∷ 0 ∷ []
body ReleaseRp = 0 ∷ 0 ∷ 0 ∷ 0 ∷ []
body (Abort source reason) = 0 ∷ 0 ∷ source ∷ reason ∷ []

-- the octets that are written for a PDU
abbrev pub pdu_octets : Pdu → List ℕ
pdu_octets pdu = kind pdu ∷ 0 ∷ (to_be_bytes w32 (length (body pdu)) ++ body pdu)

-- a P-DATA PDU of one PDV
abbrev pub p_data : ℕ → Bool → Bool → List ℕ → Pdu
p_data context command last octets =
    PData (record { context = context; command = command; last = last; octets = octets } ∷ [])

-- a PDU that has a spelling: the octets that are written for it spell it
abbrev pub IsWritable : Pdu → Type 0
IsWritable pdu = SpellsPdu pdu (pdu_octets pdu)

abbrev pub AreWritable : List Pdu → Type 0
AreWritable [] = Unit {0}
AreWritable (pdu ∷ pdus) = IsWritable pdu × AreWritable pdus

-- The same as a test: identifiers end without padding, contexts have odd ids of their own and what
-- they need, and the body is not too long.
abbrev pub is_bare : List ℕ → Bool
is_bare [] = true
is_bare (octet ∷ []) = not (is_uid_padding octet)
is_bare (octet ∷ next ∷ octets) = is_bare (next ∷ octets)

abbrev pub is_uid_name : Option (List ℕ) → Bool
is_uid_name None = true
is_uid_name (Some name) = is_bare name

abbrev pub is_proposable : ProposedContext → Bool
is_proposable c =
    is_odd c.id && is_bare c.abstract_syntax
    && not (is_empty c.transfer_syntaxes) && list_all is_bare c.transfer_syntaxes

abbrev pub is_answerable : AnsweredContext → Bool
is_answerable c = is_odd c.id && is_bare c.transfer_syntax

abbrev pub has_parts : Pdu → Bool
has_parts (request_pdu r) =
    is_uid_name r.application_context && list_all is_proposable r.contexts
    && are_distinct (map (λ (c : ProposedContext). c.id) r.contexts)
has_parts (accept_pdu a) =
    is_uid_name a.application_context && list_all is_answerable a.contexts
    && are_distinct (map (λ (c : AnsweredContext). c.id) a.contexts)
has_parts (PData values) = not (is_empty values)
has_parts (Reject result source reason) = true
has_parts ReleaseRq = true
has_parts ReleaseRp = true
has_parts (Abort source reason) = true

abbrev pub is_writable : Pdu → Bool
is_writable pdu = has_parts pdu && nat_le (length (body pdu)) longest_body
