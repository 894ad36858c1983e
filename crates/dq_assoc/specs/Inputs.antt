-- The inputs of an association, from the PDUs of its stream: first a request, the peer's abort or a
-- stray PDU; after a request the messages, and the first input that closes (PS3.8 section 9.2).
use Rattle.std.specs.Prelude.{◌≡◌, ℕ, List, [], ◌∷◌, ◌++◌, map, Option, Some, None}
use Rattle.dq_pdu.specs.declared.pdu.Pdu.{Pdu}
use Rattle.dq_pdu.specs.declared.pdu.Pdv.{Pdv}
use Rattle.dq_assoc.specs.Roles.{Role}
use Rattle.dq_assoc.specs.Roles.{Asks, Carries, Ends}
use Rattle.dq_assoc.specs.Roles.{ReleaseAsked, AbortSent, OutOfPlace}
use Rattle.dq_pdu.specs.declared.fault.PduFault.{PduFault}
use Rattle.dq_pdu.specs.declared.fault.PduFault.TheVariants.{Unrecognized, TooLong, Malformed}
use Rattle.dq_assoc.specs.Roles.{role_of}
use Rattle.dq_pdu.specs.Stream.{pdus_in}
use Rattle.dq_dimse.specs.declared.fault.DimseFault.{DimseFault}
use Rattle.dq_dimse.specs.Assembling.{Messages, messages}
use Rattle.dq_assoc.specs.Negotiation.{agreement_of, context_ids}
use Rattle.dq_assoc.specs.Table.{Input, Requested, Sent, Released, PeerAborted, Stray, Bad, unrecognized_pdu, unexpected_pdu, invalid_parameter}

-- the PDVs of the P-DATA PDUs at the front
abbrev pub leading_pdvs : List Role → List Pdv
leading_pdvs [] = []
leading_pdvs (Carries pdvs ∷ roles) = pdvs ++ leading_pdvs roles
leading_pdvs (Asks request ∷ roles) = []
leading_pdvs (Ends ending ∷ roles) = []

-- the PDUs after them
abbrev pub after_leading_pdvs : List Role → List Role
after_leading_pdvs [] = []
after_leading_pdvs (Carries pdvs ∷ roles) = after_leading_pdvs roles
after_leading_pdvs (Asks request ∷ roles) = Asks request ∷ roles
after_leading_pdvs (Ends ending ∷ roles) = Ends ending ∷ roles

-- the reason of the abort that answers a fault of the stream
abbrev pub reason_of : PduFault → ℕ
reason_of Unrecognized = unrecognized_pdu
reason_of TooLong = invalid_parameter
reason_of Malformed = invalid_parameter

-- what a PDU that carries no PDVs closes with after a request
abbrev pub closing_input : Role → Input
closing_input (Ends ReleaseAsked) = Released
closing_input (Ends (AbortSent source reason)) = PeerAborted source reason
closing_input (Ends OutOfPlace) = Bad unexpected_pdu
closing_input (Asks request) = Bad unexpected_pdu
closing_input (Carries pdvs) = Bad unexpected_pdu

-- what the PDU or the fault that ends the PDVs closes with
abbrev pub closing_inputs : List Role → Option PduFault → List Input
closing_inputs [] None = []
closing_inputs [] (Some fault) = Bad (reason_of fault) ∷ []
closing_inputs (role ∷ roles) fault = closing_input role ∷ []

-- PDVs that are no messages close before what comes after them
abbrev pub inputs_past : Option DimseFault → List Input → List Input
inputs_past None later = later
inputs_past (Some fault) later = Bad invalid_parameter ∷ []

-- the messages of PDVs, and what closes after them
abbrev pub inputs_of_messages : Messages → List Input → List Input
inputs_of_messages read later = map Sent read.list ++ inputs_past read.fault later

-- the inputs after a request, whose accepted contexts have the ids
abbrev pub inputs_after : List ℕ → List Role → Option PduFault → List Input
inputs_after ids roles fault =
    inputs_of_messages (messages ids (leading_pdvs roles)) (closing_inputs (after_leading_pdvs roles) fault)

-- what a PDU that is no request is in a request's place
abbrev pub misplaced_input : Role → Input
misplaced_input (Ends (AbortSent source reason)) = PeerAborted source reason
misplaced_input (Ends ReleaseAsked) = Stray
misplaced_input (Ends OutOfPlace) = Stray
misplaced_input (Carries pdvs) = Stray
misplaced_input (Asks request) = Stray

abbrev pub inputs_of_roles : List Role → Option PduFault → List Input
inputs_of_roles [] None = []
inputs_of_roles [] (Some fault) = Stray ∷ []
inputs_of_roles (Asks request ∷ roles) fault =
    Requested request ∷ inputs_after (context_ids (agreement_of request)) roles fault
inputs_of_roles (Carries pdvs ∷ roles) fault = misplaced_input (Carries pdvs) ∷ []
inputs_of_roles (Ends ending ∷ roles) fault = misplaced_input (Ends ending) ∷ []

-- the inputs of PDUs, and of a fault after them
abbrev pub inputs_of : List Pdu → Option PduFault → List Input
inputs_of pdus fault = inputs_of_roles (map role_of pdus) fault

-- the inputs of a stream of octets
abbrev pub inputs : List ℕ → List Input
inputs stream = inputs_of (pdus_in stream).list (pdus_in stream).fault

-- after a request: messages, and then at most one input, which closes
abbrev pub AreAfterRequest : List Input → Type 0
AreAfterRequest [] = Unit {0}
AreAfterRequest (Sent message ∷ inputs) = AreAfterRequest inputs
AreAfterRequest (Released ∷ inputs) = inputs ≡ []
AreAfterRequest (PeerAborted source reason ∷ inputs) = inputs ≡ []
AreAfterRequest (Bad reason ∷ inputs) = inputs ≡ []
AreAfterRequest (Requested request ∷ inputs) = ⊥
AreAfterRequest (Stray ∷ inputs) = ⊥

-- a request and what comes after it, or one input that closes in its place
abbrev pub AreInputs : List Input → Type 0
AreInputs [] = Unit {0}
AreInputs (Requested request ∷ inputs) = AreAfterRequest inputs
AreInputs (PeerAborted source reason ∷ inputs) = inputs ≡ []
AreInputs (Stray ∷ inputs) = inputs ≡ []
AreInputs (Sent message ∷ inputs) = ⊥
AreInputs (Released ∷ inputs) = ⊥
AreInputs (Bad reason ∷ inputs) = ⊥
