-- Only the last input closes.
use Rattle.std.proofs.Common.{List, [], ◌∷◌, ◌++◌, map, Option, Some, None, refl}
use Rattle.dq_assoc.specs.Roles.{Role}
use Rattle.dq_assoc.specs.Roles.{Asks, Carries, Ends}
use Rattle.dq_assoc.specs.Roles.{ReleaseAsked, AbortSent, OutOfPlace}
use Rattle.dq_pdu.specs.declared.fault.PduFault.{PduFault}
use Rattle.dq_dimse.specs.Received.{Message}
use Rattle.dq_dimse.specs.declared.fault.DimseFault.{DimseFault}
use Rattle.dq_dimse.specs.Assembling.{Messages, messages}
use Rattle.dq_assoc.specs.Negotiation.{agreement_of, context_ids}
use Rattle.dq_assoc.specs.Table.{Input, Sent}
use Rattle.dq_assoc.specs.Inputs.{leading_pdvs, after_leading_pdvs, closing_inputs, inputs_past, inputs_of_messages, inputs_of_roles, AreAfterRequest, AreInputs}

closing-ends : (roles : List Role) (fault : Option PduFault) → AreAfterRequest (closing_inputs roles fault)
closing-ends [] None = tt
closing-ends [] (Some fault) = refl
closing-ends (Asks request ∷ roles) fault = refl
closing-ends (Carries pdvs ∷ roles) fault = refl
closing-ends (Ends ReleaseAsked ∷ roles) fault = refl
closing-ends (Ends (AbortSent source reason) ∷ roles) fault = refl
closing-ends (Ends OutOfPlace ∷ roles) fault = refl

past-ends : (f : Option DimseFault) (later : List Input) → AreAfterRequest later → AreAfterRequest (inputs_past f later)
past-ends None later ends = ends
past-ends (Some fault) later ends = refl

sent-ends : (list : List Message) (later : List Input) → AreAfterRequest later → AreAfterRequest (map Sent list ++ later)
sent-ends [] later ends = ends
sent-ends (message ∷ list) later ends = sent-ends list later ends

read-ends : (read : Messages) (later : List Input) → AreAfterRequest later → AreAfterRequest (inputs_of_messages read later)
read-ends read later ends = sent-ends read.list (inputs_past read.fault later) (past-ends read.fault later ends)

pub inputs-end : (roles : List Role) (fault : Option PduFault) → AreInputs (inputs_of_roles roles fault)
inputs-end [] None = tt
inputs-end [] (Some fault) = refl
inputs-end (Asks request ∷ roles) fault =
    read-ends (messages (context_ids (agreement_of request)) (leading_pdvs roles)) _ (closing-ends (after_leading_pdvs roles) fault)
inputs-end (Carries pdvs ∷ roles) fault = refl
inputs-end (Ends ReleaseAsked ∷ roles) fault = refl
inputs-end (Ends (AbortSent source reason) ∷ roles) fault = refl
inputs-end (Ends OutOfPlace ∷ roles) fault = refl
