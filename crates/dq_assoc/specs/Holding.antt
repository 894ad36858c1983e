-- The state that the code holds of an association, and what that stands for.
use Rattle.std.specs.Prelude.{◌≡◌, Bool, true, List, [], map, Option, Some, None, is_none}
use Rattle.dq_pdu.specs.declared.pdu.Pdu.{Pdu}
use Rattle.dq_dimse.specs.declared.assembler.Accepted.{Accepted}
use Rattle.dq_dimse.specs.Assembling.{Assembly}
use Rattle.dq_dimse.specs.Holding.{Assembles, AllRefine, spent_with}
use Rattle.dq_assoc.specs.declared.agreement.AcceptedContext.{AcceptedContext}
use Rattle.dq_assoc.specs.declared.agreement.Agreement.{Agreement}
use Rattle.dq_assoc.specs.declared.association.Held.{Held as HeldAssociation}
use Rattle.dq_assoc.specs.declared.association.Held.TheVariants as code
use Rattle.dq_assoc.specs.declared.association.State.{State}
use Rattle.dq_assoc.specs.declared.association.State.TheVariants as state
use Rattle.dq_assoc.specs.declared.association.Step.{Step as HeldStep}
use Rattle.dq_assoc.specs.After.{association_from}
use Rattle.dq_assoc.specs.Associations.{HeldState, Waiting, Open, Closed}
use Rattle.dq_assoc.specs.Steps.{AssociationStep}

-- the contexts that an assembler is made for: those agreed on, with their transfer syntaxes
abbrev pub assembler_context : AcceptedContext → Accepted
assembler_context c = record { id = c.id; syntax = c.syntax }

abbrev pub accepted_by : Agreement → List Accepted
accepted_by agreement = map assembler_context agreement.contexts

abbrev pub accepted_in : Option Agreement → List Accepted
accepted_in None = []
accepted_in (Some agreement) = accepted_by agreement

-- the state of the table that an association is in
abbrev pub held_state : HeldAssociation → State
held_state code.Waiting = state.Waiting
held_state (code.Open agreement holding) = state.Open
held_state (code.Closed agreement) = state.Closed

-- what it agreed on, also after it is closed
abbrev pub held_agreement : HeldAssociation → Option Agreement
held_agreement code.Waiting = None
held_agreement (code.Open agreement holding) = Some agreement
held_agreement (code.Closed agreement) = agreement

-- it is open only while its PDVs are messages and part of one
abbrev pub is_unspent : HeldAssociation → Bool
is_unspent code.Waiting = true
is_unspent (code.Open agreement holding) = is_none (spent_with holding)
is_unspent (code.Closed agreement) = true

-- The held state stands for an association of the definitions.
abbrev pub Stands : HeldAssociation → HeldState → Type 0
Stands code.Waiting association = association ≡ Waiting
Stands (code.Open agreement holding) association =
    (assembly : Assembly) × (association ≡ Open agreement assembly) × Assembles holding assembly
    × (holding.accepted ≡ accepted_by agreement)
Stands (code.Closed agreement) association = association ≡ Closed agreement

-- the association was given the PDUs, and accepted its request
pub record WasGivenPdus (pdus : List Pdu) (held : HeldAssociation) : Type 0 where
  pub stands : Stands held (association_from Waiting pdus)

-- A step leads to what one of the definitions does, with messages on the accepted contexts.
pub record IsStep (accepted : List Accepted) (held : HeldStep) (step : AssociationStep) : Type 0 where
  pub messages : AllRefine accepted held.messages step.messages
  pub octets : held.octets ≡ step.octets
  pub close : held.close ≡ step.close
  pub end : held.end ≡ step.end
