-- Which octets spell which protocol data PDU (PS3.8 section 9.3). Reserved octets and the items
-- that are skipped are free, so a PDU has many spellings; octets spell at most one.
use Rattle.std.specs.Prelude.{◌≡◌, ◌≢◌, ℕ, ◌+◌, ◌/◌, ◌%◌, ◌≤◌, IsTrue, ◌==◌, List, [], ◌∷◌, ◌++◌, length, map, Option, Some, None, option_map}
use Rattle.std.specs.Int.{w16, w32}
use Rattle.dq_pdu.specs.declared.pdu_reader.Item.{Item}
use Rattle.dq_pdu.specs.declared.bodies.Associate.{Associate}
use Rattle.dq_pdu.specs.declared.pdu.Pdu.{Pdu}
use Rattle.dq_pdu.specs.declared.pdu.Pdu.TheVariants.{Request as request_pdu, Accept as accept_pdu, Reject, PData, ReleaseRq, ReleaseRp, Abort}
use Rattle.dq_pdu.specs.declared.pdu.Request.{Request}
use Rattle.dq_pdu.specs.declared.pdu.Accept.{Accept}
use Rattle.dq_pdu.specs.declared.pdu.ProposedContext.{ProposedContext}
use Rattle.dq_pdu.specs.declared.pdu.AnsweredContext.{AnsweredContext}
use Rattle.dq_pdu.specs.declared.pdu.Pdv.{Pdv}
use Rattle.dq_pdu.specs.Numbers.{a_associate_rq, a_associate_ac, a_associate_rj, p_data_tf, a_release_rq, a_release_rp, a_abort, application_context_item, proposed_context_item, answered_context_item, abstract_syntax_item, transfer_syntax_item, user_information_item, maximum_length_item, longest_body, title_length, reserved_length, short_body, pdv_fields}
use Rattle.dq_pdu.specs.Octets.{Says, Fills, Pairwise, bodies, at_most_one, exactly_one, without_uid_padding, are_distinct}

-- An item or sub-item: its type, a reserved octet, the length of its body in two octets, its body
-- (PS3.8 section 9.3.2).
pub record IsItem (item : Item) (octets : List ℕ) : Type 0 where
  pub reserved : ℕ
  pub size : List ℕ
  pub spelled : octets ≡ item.kind ∷ reserved ∷ (size ++ item.octets)
  pub sized : Says w16 size (length item.octets)

-- A presentation data value: the length of the rest in four octets, the context's id, the message
-- control header (bit 0 command, bit 1 last, the others free) and the fragment (PS3.8 section
-- 9.3.5.1, annex E.2).
pub record IsPdv (pdv : Pdv) (octets : List ℕ) : Type 0 where
  pub control : ℕ
  pub size : List ℕ
  pub spelled : octets ≡ size ++ pdv.context ∷ control ∷ pdv.octets
  pub sized : Says w32 size (length pdv.octets + pdv_fields)
  pub command : pdv.command ≡ (control % 2 == 1)
  pub last : pdv.last ≡ ((control / 2) % 2 == 1)

-- A proposed presentation context: id, three reserved octets, one abstract syntax (30H) and one or
-- more transfer syntaxes (40H). The id is odd (PS3.8 section 9.3.2.2).
pub record IsProposed (context : ProposedContext) (body : List ℕ) : Type 0 where
  pub reserved : List ℕ
  pub rest : List ℕ
  pub items : List Item
  pub spelled : body ≡ context.id ∷ reserved ++ rest
  pub three : length reserved ≡ 3
  pub odd : context.id % 2 ≡ 1
  pub fills : Fills IsItem items rest
  pub abstract :
      option_map without_uid_padding (exactly_one (bodies abstract_syntax_item items))
      ≡ Some context.abstract_syntax
  pub transfer : context.transfer_syntaxes ≡ map without_uid_padding (bodies transfer_syntax_item items)
  pub some : context.transfer_syntaxes ≢ []

-- An answered presentation context: id, a reserved octet, result, a reserved octet and one transfer
-- syntax (40H) (PS3.8 section 9.3.3.2).
pub record IsAnsweredContext (context : AnsweredContext) (body : List ℕ) : Type 0 where
  pub before : ℕ
  pub behind : ℕ
  pub rest : List ℕ
  pub items : List Item
  pub spelled : body ≡ context.id ∷ before ∷ context.result ∷ behind ∷ rest
  pub odd : context.id % 2 ≡ 1
  pub fills : Fills IsItem items rest
  pub transfer :
      option_map without_uid_padding (exactly_one (bodies transfer_syntax_item items))
      ≡ Some context.transfer_syntax

-- The fixed fields of a request or an acceptance, and its items (PS3.8 sections 9.3.2 and 9.3.3).
pub record AreFields
    (version : ℕ) (called calling reserved : List ℕ) (items : List Item) (body : List ℕ)
    : Type 0 where
  pub number : List ℕ
  pub gap : List ℕ
  pub rest : List ℕ
  pub spelled : body ≡ number ++ gap ++ called ++ calling ++ reserved ++ rest
  pub version_is : Says w16 number version
  pub gap_two : length gap ≡ 2
  pub called_sixteen : length called ≡ title_length
  pub calling_sixteen : length calling ≡ title_length
  pub reserved_thirty_two : length reserved ≡ reserved_length
  pub fills : Fills IsItem items rest

-- the maximum length item, if there is one, has the number in four octets (PS3.8 annex D.1)
abbrev pub IsMaximumLength : Option ℕ → List (List ℕ) → Type 0
IsMaximumLength maximum [] = maximum ≡ None
IsMaximumLength maximum (body ∷ []) = (n : ℕ) × (maximum ≡ Some n) × Says w32 body n
IsMaximumLength maximum (a ∷ b ∷ bs) = ⊥

-- User information: at most one item (50H), filled with sub-items, of which at most one (51H) is
-- the maximum length.
abbrev pub IsUserInformation : Option ℕ → List (List ℕ) → Type 0
IsUserInformation maximum [] = maximum ≡ None
IsUserInformation maximum (body ∷ []) =
    (items : List Item) × Fills IsItem items body
    × IsMaximumLength maximum (bodies maximum_length_item items)
IsUserInformation maximum (a ∷ b ∷ bs) = ⊥

-- A request or an acceptance: at most one application context (10H), presentation contexts of one
-- type with ids of their own and at most one user information item (50H); all other items are free
-- (PS3.8 sections 9.3.2 and 9.3.3).
pub record IsAssociate {C : Type 0}
    (Context : C → List ℕ → Type 0) (kind : ℕ) (id_of : C → ℕ)
    (fields : Associate) (contexts : List C) (body : List ℕ)
    : Type 0 where
  pub items : List Item
  pub fixed : AreFields fields.version fields.called fields.calling fields.reserved items body
  pub application :
      option_map (option_map without_uid_padding) (at_most_one (bodies application_context_item items))
      ≡ Some fields.application_context
  pub each : Pairwise Context contexts (bodies kind items)
  pub distinct : IsTrue (are_distinct (map id_of contexts))
  pub user : IsUserInformation fields.maximum_length (bodies user_information_item items)

abbrev pub request_fields : Request → Associate
request_fields r = record {
  version = r.version;
  called = r.called;
  calling = r.calling;
  reserved = r.reserved;
  application_context = r.application_context;
  maximum_length = r.maximum_length;
}

-- a request has proposed contexts (20H)
abbrev pub IsRequest : Request → List ℕ → Type 0
IsRequest r body =
    IsAssociate IsProposed proposed_context_item (λ (c : ProposedContext). c.id)
    (request_fields r) r.contexts body

abbrev pub accept_fields : Accept → Associate
accept_fields a = record {
  version = a.version;
  called = a.called;
  calling = a.calling;
  reserved = a.reserved;
  application_context = a.application_context;
  maximum_length = a.maximum_length;
}

-- an acceptance has answered contexts (21H) in their place
abbrev pub IsAccept : Accept → List ℕ → Type 0
IsAccept a body =
    IsAssociate IsAnsweredContext answered_context_item (λ (c : AnsweredContext). c.id)
    (accept_fields a) a.contexts body

-- the type of a PDU, and the body that it may have (PS3.8 sections 9.3.2 to 9.3.8)
abbrev pub IsBody : Pdu → ℕ → List ℕ → Type 0
IsBody (request_pdu request) kind body = (kind ≡ a_associate_rq) × IsRequest request body
IsBody (accept_pdu accept) kind body = (kind ≡ a_associate_ac) × IsAccept accept body
IsBody (Reject result source reason) kind body =
    (kind ≡ a_associate_rj) × (free : ℕ) × (body ≡ free ∷ result ∷ source ∷ reason ∷ [])
IsBody (PData values) kind body = (kind ≡ p_data_tf) × (values ≢ []) × Fills IsPdv values body
IsBody ReleaseRq kind body = (kind ≡ a_release_rq) × (length body ≡ short_body)
IsBody ReleaseRp kind body = (kind ≡ a_release_rp) × (length body ≡ short_body)
IsBody (Abort source reason) kind body =
    (kind ≡ a_abort) × (first : ℕ) × (second : ℕ)
    × (body ≡ first ∷ second ∷ source ∷ reason ∷ [])

-- A PDU's octets: its type, a reserved octet, the length of the rest in four octets, and its body
-- of at most 65,536.
pub record SpellsPdu (pdu : Pdu) (octets : List ℕ) : Type 0 where
  pub kind : ℕ
  pub reserved : ℕ
  pub size : List ℕ
  pub body : List ℕ
  pub whole : octets ≡ kind ∷ reserved ∷ (size ++ body)
  pub sized : Says w32 size (length body)
  pub short : length body ≤ longest_body
  pub says : IsBody pdu kind body
