-- The answer to an association request (PS3.8 sections 7.1.1, 9.3.2 to 9.3.4; PS3.7 annex D.3), and
-- what an association agrees on.
use Rattle.std.specs.Prelude.{ℕ, ◌%◌, Bool, false, not, ◌==◌, if◌then◌else◌, List, codes, map, find, Option, Some, None, is_some, unwrap_or, Result, Ok, Err}
use Rattle.std.specs.List.{list_any, filter_map}
use Rattle.std.specs.Result.{result_ok}
use Rattle.std.specs.Str.{bytes_eq}
use Rattle.dq_dataset.specs.declared.header.Syntax.{Syntax}
use Rattle.dq_dataset.specs.declared.header.Syntax.TheVariants.{Implicit, Explicit}
use Rattle.dq_pdu.specs.declared.pdu.Pdu.{Pdu}
use Rattle.dq_pdu.specs.declared.pdu.Pdu.TheVariants.{Accept as accept_pdu, Reject}
use Rattle.dq_pdu.specs.declared.pdu.Request.{Request}
use Rattle.dq_pdu.specs.declared.pdu.ProposedContext.{ProposedContext}
use Rattle.dq_pdu.specs.declared.pdu.AnsweredContext.{AnsweredContext}
use Rattle.dq_pdu.specs.Numbers.{longest_body}
use Rattle.dq_assoc.specs.declared.classes.SopClass.{SopClass}
use Rattle.dq_assoc.specs.declared.agreement.AcceptedContext.{AcceptedContext}
use Rattle.dq_assoc.specs.declared.agreement.Agreement.{Agreement}
use Rattle.dq_assoc.specs.declared.negotiation.ContextRefusal.{ContextRefusal}
use Rattle.dq_assoc.specs.declared.negotiation.ContextRefusal.TheVariants.{AbstractSyntaxNotSupported, TransferSyntaxesNotSupported}
use Rattle.dq_assoc.specs.declared.negotiation.Rejection.{Rejection}
use Rattle.dq_assoc.specs.declared.negotiation.Rejection.TheVariants.{ProtocolVersion, ApplicationContext, MaximumLength, Titles, Associations}
pub use Rattle.dq_assoc.specs.Reasons.{protocol_version, acceptance, permanent, transient, service_user, association_provider, presentation_provider, no_reason, application_context_not_supported, protocol_version_not_supported, local_limit_exceeded}
use Rattle.dq_assoc.specs.Reasons.{abstract_syntax_not_supported, transfer_syntaxes_not_supported}
use Rattle.dq_assoc.specs.declared.association.Verdict.{Verdict}
use Rattle.dq_assoc.specs.declared.association.Verdict.TheVariants.{Accept, Nowhere, Busy}
use Rattle.dq_assoc.specs.Classes.{class_of}
use Rattle.dq_assoc.specs.PeerLimits.{has_room_for_data}

-- The DICOM application context (PS3.7 annex A.2.1).
abbrev pub dicom_context : List ℕ
dicom_context = codes "1.2.840.10008.3.1.1.1"

-- Implicit and Explicit VR Little Endian (PS3.5 annex A.1 and A.2).
abbrev pub syntax_uid : Syntax → List ℕ
syntax_uid Implicit = codes "1.2.840.10008.1.2"
syntax_uid Explicit = codes "1.2.840.10008.1.2.1"

abbrev pub offers : List (List ℕ) → List ℕ → Bool
offers syntaxes syntax = list_any (λ (offered : List ℕ). bytes_eq offered syntax) syntaxes

-- Explicit where it is offered, else Implicit where that is offered
abbrev pub preferred_syntax : List (List ℕ) → Option Syntax
preferred_syntax offered =
    if offers offered (syntax_uid Explicit) then Some Explicit
    else (if offers offered (syntax_uid Implicit) then Some Implicit else None)

abbrev pub accepted_context : ℕ → SopClass → Syntax → AcceptedContext
accepted_context id class syntax = record { id = id; class = class; syntax = syntax }

abbrev pub context_result_of : ℕ → Option SopClass → Option Syntax
    → Result AcceptedContext ContextRefusal
context_result_of id None syntax = Err AbstractSyntaxNotSupported
context_result_of id (Some class) None = Err TransferSyntaxesNotSupported
context_result_of id (Some class) (Some syntax) = Ok (accepted_context id class syntax)

-- what a proposed context comes to: its class is looked at before its transfer syntaxes
abbrev pub context_result : ProposedContext → Result AcceptedContext ContextRefusal
context_result c =
    context_result_of c.id (class_of c.abstract_syntax) (preferred_syntax c.transfer_syntaxes)

-- the context that is agreed on, if it is accepted
abbrev pub agreed_context : ProposedContext → Option AcceptedContext
agreed_context c = result_ok (context_result c)

abbrev pub is_accepted : ProposedContext → Bool
is_accepted c = is_some (agreed_context c)

-- the result of a context that is refused (PS3.8 table 9-18)
abbrev pub result_of_refusal : ContextRefusal → ℕ
result_of_refusal AbstractSyntaxNotSupported = abstract_syntax_not_supported
result_of_refusal TransferSyntaxesNotSupported = transfer_syntaxes_not_supported

abbrev pub answer_with : ℕ → ℕ → Syntax → AnsweredContext
answer_with id reason syntax =
    record { id = id; result = reason; transfer_syntax = syntax_uid syntax }

-- the answer names the syntax that is agreed on; one that refuses names Implicit
abbrev pub context_answer : ℕ → Result AcceptedContext ContextRefusal → AnsweredContext
context_answer id (Ok agreed) = answer_with id acceptance agreed.syntax
context_answer id (Err refusal) = answer_with id (result_of_refusal refusal) Implicit

abbrev pub answered_context : ProposedContext → AnsweredContext
answered_context c = context_answer c.id (context_result c)

-- the longest PDU that a peer takes; 0, and none, is no limit (PS3.8 annex D.1)
abbrev pub peer_limit : Request → ℕ
peer_limit request = unwrap_or request.maximum_length 0

-- The agreement on a request once it is accepted: the contexts that are accepted, in order, the called title as it was
-- received, and the peer's limit.
abbrev pub agreement_of : Request → Agreement
agreement_of request = record {
  contexts = filter_map agreed_context request.contexts;
  called = request.called;
  limit = peer_limit request;
}

-- the ids of the contexts
abbrev pub context_ids : Agreement → List ℕ
context_ids agreement = map (λ (c : AcceptedContext). c.id) agreement.contexts

-- the context with the id
abbrev pub context_of : Agreement → ℕ → Option AcceptedContext
context_of agreement id = find (λ (c : AcceptedContext). c.id == id) agreement.contexts

-- version 1, both titles and the reserved octets as received, and each context answered in order;
-- the longest PDU that is received
abbrev pub acceptance_of : Request → Pdu
acceptance_of request = accept_pdu (record {
  version = protocol_version;
  called = request.called;
  calling = request.calling;
  reserved = request.reserved;
  application_context = Some dicom_context;
  contexts = map answered_context request.contexts;
  maximum_length = Some longest_body;
})

-- whether the application context is that of DICOM
abbrev pub is_dicom : Option (List ℕ) → Bool
is_dicom None = false
is_dicom (Some name) = bytes_eq name dicom_context

-- The result, the source and the reason of a rejection (PS3.8 section 9.3.4). Which title is unknown is not told, and
-- the standard has no reason for a maximum length without room.
abbrev pub rejection_numbers : Rejection → ℕ × ℕ × ℕ
rejection_numbers ProtocolVersion = (permanent, association_provider, protocol_version_not_supported)
rejection_numbers ApplicationContext = (permanent, service_user, application_context_not_supported)
rejection_numbers MaximumLength = (permanent, service_user, no_reason)
rejection_numbers Titles = (permanent, service_user, no_reason)
rejection_numbers Associations = (transient, presentation_provider, local_limit_exceeded)

abbrev pub rejection_pdu : Rejection → Pdu
rejection_pdu why = let numbers = rejection_numbers why in Reject numbers.0 numbers.1 numbers.2

abbrev pub verdict_rejection : Verdict → Option Rejection
verdict_rejection Accept = None
verdict_rejection Nowhere = Some Titles
verdict_rejection Busy = Some Associations

-- Why a request is rejected, by reasons in this order.
abbrev pub rejection : Request → Verdict → Option Rejection
rejection request verdict =
    if not (request.version % 2 == 1) then Some ProtocolVersion
    else (if not (is_dicom request.application_context) then Some ApplicationContext
    else (if not (has_room_for_data request.maximum_length) then Some MaximumLength
    else verdict_rejection verdict))
