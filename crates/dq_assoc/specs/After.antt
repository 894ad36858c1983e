-- An association that was given the PDUs of a stream so far: the inputs that further PDUs add, and
-- where they leave it. Upper crates speak of `AssociationAfter`, `state_of`, `agreement_in` and
-- `inputs_from`; what an association is made of is there for the prover, and may change. What the
-- code holds of one is said in Holding.
use Rattle.std.specs.Prelude.{◌≡◌, Bool, true, false, List, [], ◌∷◌, map, Option, Some, None, is_none}
use Rattle.dq_pdu.specs.declared.pdu.Pdu.{Pdu}
use Rattle.dq_assoc.specs.Roles.{Role}
use Rattle.dq_assoc.specs.Roles.{Asks, Carries, Ends}
use Rattle.dq_pdu.specs.declared.pdu.Request.{Request}
use Rattle.dq_pdu.specs.declared.fault.PduFault.{PduFault}
use Rattle.dq_assoc.specs.Roles.{role_of}
use Rattle.dq_dimse.specs.declared.fault.DimseFault.{DimseFault}
use Rattle.dq_dimse.specs.Assembling.{Assembly, new_assembly, spent_by, messages_from, assembly_from}
use Rattle.dq_assoc.specs.declared.agreement.Agreement.{Agreement}
use Rattle.dq_assoc.specs.Associations.{HeldState}
use Rattle.dq_assoc.specs.Associations as held
use Rattle.dq_assoc.specs.declared.association.State.{State}
use Rattle.dq_assoc.specs.declared.association.State.TheVariants.{Waiting, Open, Closed}
use Rattle.dq_assoc.specs.Negotiation.{agreement_of, context_ids}
use Rattle.dq_assoc.specs.Table.{Input}
use Rattle.dq_assoc.specs.Inputs.{leading_pdvs, after_leading_pdvs, closing_inputs, inputs_of_messages, inputs_of_roles}

-- the state of the table that an association is in
abbrev pub state_of : HeldState → State
state_of held.Waiting = Waiting
state_of (held.Open agreement assembly) = Open
state_of (held.Closed agreement) = Closed

abbrev pub is_closed : State → Bool
is_closed Waiting = false
is_closed Open = false
is_closed Closed = true

-- what an association agreed on, also after it is closed
abbrev pub agreement_in : HeldState → Option Agreement
agreement_in held.Waiting = None
agreement_in (held.Open agreement assembly) = Some agreement
agreement_in (held.Closed agreement) = agreement

-- an association is open only while its PDVs are messages and part of one
abbrev pub is_sound_association : HeldState → Bool
is_sound_association held.Waiting = true
is_sound_association (held.Open agreement assembly) = is_none (spent_by assembly)
is_sound_association (held.Closed agreement) = true

-- what an association takes: nothing once it is closed, and a request by accept alone
abbrev pub TakesRole : State → Role → Type 0
TakesRole Closed role = ⊥
TakesRole Waiting (Asks request) = ⊥
TakesRole Waiting (Carries pdvs) = Unit {0}
TakesRole Waiting (Ends ending) = Unit {0}
TakesRole Open role = Unit {0}

abbrev pub TakesPdu : State → Pdu → Type 0
TakesPdu state pdu = TakesRole state (role_of pdu)

-- PDVs that are no messages close
abbrev pub open_if : Option DimseFault → Agreement → Assembly → HeldState
open_if None agreement assembly = held.Open agreement assembly
open_if (Some fault) agreement assembly = held.Closed (Some agreement)

-- open with what was assembled of the PDVs, unless PDUs stand after these
abbrev pub open_with : Agreement → Assembly → List Role → HeldState
open_with agreement assembly [] = open_if (spent_by assembly) agreement assembly
open_with agreement assembly (role ∷ roles) = held.Closed (Some agreement)

-- the assembler of an association whose request was just accepted
abbrev pub assembly_for : Request → Assembly
assembly_for request = new_assembly (context_ids (agreement_of request))

-- the association after the line of a request
abbrev pub association_at : State → Request → HeldState
association_at Open request = held.Open (agreement_of request) (assembly_for request)
association_at Waiting request = held.Waiting
association_at Closed request = held.Closed None

-- where PDUs leave an open association
abbrev pub open_from : Agreement → Assembly → List Role → HeldState
open_from agreement assembly roles =
    open_with agreement (assembly_from assembly (leading_pdvs roles)) (after_leading_pdvs roles)

abbrev pub association_by : HeldState → List Role → HeldState
association_by (held.Open agreement assembly) roles = open_from agreement assembly roles
association_by (held.Closed agreement) roles = held.Closed agreement
association_by held.Waiting [] = held.Waiting
association_by held.Waiting (Asks request ∷ roles) =
    open_from (agreement_of request) (assembly_for request) roles
association_by held.Waiting (Carries pdvs ∷ roles) = held.Closed None
association_by held.Waiting (Ends ending ∷ roles) = held.Closed None

abbrev pub association_from : HeldState → List Pdu → HeldState
association_from association pdus = association_by association (map role_of pdus)

-- the association was given the PDUs, and accepted its request
pub record AssociationAfter (pdus : List Pdu) (association : HeldState) : Type 0 where
  pub stands : association ≡ association_from held.Waiting pdus

-- the inputs that PDUs, and a fault after them, add
abbrev pub inputs_by : HeldState → List Role → Option PduFault → List Input
inputs_by held.Waiting roles fault = inputs_of_roles roles fault
inputs_by (held.Open agreement assembly) roles fault =
    let read = messages_from assembly (leading_pdvs roles) in
    inputs_of_messages read (closing_inputs (after_leading_pdvs roles) fault)
inputs_by (held.Closed agreement) roles fault = []

abbrev pub inputs_from : HeldState → List Pdu → Option PduFault → List Input
inputs_from association pdus fault = inputs_by association (map role_of pdus) fault
