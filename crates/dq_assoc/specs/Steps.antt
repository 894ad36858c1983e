-- The outcome of inputs: messages to be answered by their service, octets, whether the connection is closed, and how the
-- association ends.
use Rattle.std.specs.Prelude.{ℕ, Bool, true, if◌then◌else◌, List, [], ◌∷◌, ◌++◌, Option, Some, None, is_some, option_map}
use Rattle.dq_pdu.specs.declared.pdu.Pdu.{Pdu}
use Rattle.dq_pdu.specs.declared.fault.PduFault.{PduFault}
use Rattle.dq_dimse.specs.Received.{Message}
use Rattle.dq_dimse.specs.declared.fault.DimseFault.{DimseFault}
use Rattle.dq_dimse.specs.Assembling.{Messages}
use Rattle.dq_assoc.specs.Associations.{HeldState}
use Rattle.dq_assoc.specs.declared.association.State.{State}
use Rattle.dq_assoc.specs.declared.association.State.TheVariants.{Waiting, Open, Closed}
use Rattle.dq_assoc.specs.declared.association.Verdict.TheVariants.{Accept}
use Rattle.dq_assoc.specs.Table.{Input, Sent, Stray, Bad, Line, line, invalid_parameter, answer_octets}
use Rattle.dq_assoc.specs.declared.association_end.AssociationEnd.{AssociationEnd}
use Rattle.dq_assoc.specs.AssociationEnds.{user_abort, provider_abort, last_pdu}
use Rattle.dq_assoc.specs.Inputs.{reason_of}
use Rattle.dq_assoc.specs.After.{state_of, is_closed, association_from, inputs_from}

-- messages to be answered first, then octets, whether the connection is closed, and how the association ends, if it does
pub record AssociationStep : Type 0 where
  pub messages : List Message
  pub octets : List ℕ
  pub close : Bool
  pub end : Option AssociationEnd

-- what a line of the table leads to
abbrev pub step_of : Line → AssociationStep
step_of l = record {
  messages = [];
  octets = answer_octets l.answer;
  close = is_closed l.next;
  end = l.end;
}

-- nothing is answered
abbrev pub no_step : State → AssociationStep
no_step state = record { messages = []; octets = []; close = is_closed state; end = None }

-- the association ends, if it had not ended before
abbrev pub closing : Option AssociationEnd → AssociationStep
closing end =
    record { messages = []; octets = answer_octets (last_pdu end); close = true; end = end }

abbrev pub with_message : Message → AssociationStep → AssociationStep
with_message message later = record later { messages = message ∷ later.messages }

-- a step after messages
abbrev pub after_messages : List Message → AssociationStep → AssociationStep
after_messages list step = record step { messages = list ++ step.messages }

-- the messages among inputs after a request, and the answer to the input that closes
abbrev pub open_outcome : List Input → AssociationStep
open_outcome [] = no_step Open
open_outcome (Sent message ∷ inputs) = with_message message (open_outcome inputs)
open_outcome (input ∷ inputs) = step_of (line Open Accept input)

-- what inputs lead to that are no request
abbrev pub step_of_inputs : State → List Input → AssociationStep
step_of_inputs Open inputs = open_outcome inputs
step_of_inputs Waiting [] = no_step Waiting
step_of_inputs Waiting (input ∷ inputs) = step_of (line Waiting Accept input)
step_of_inputs Closed inputs = no_step Closed

abbrev pub invalid_abort : DimseFault → AssociationEnd
invalid_abort fault = provider_abort invalid_parameter

-- what PDVs lead to: their messages, and an abort where they are no messages
abbrev pub pdvs_step : Messages → AssociationStep
pdvs_step read =
    let end = option_map invalid_abort read.fault in record {
      messages = read.list;
      octets = answer_octets (last_pdu end);
      close = is_some read.fault;
      end = end;
    }

-- what a fault of the stream is to an association in a state
abbrev pub fault_inputs : State → PduFault → List Input
fault_inputs Waiting fault = Stray ∷ []
fault_inputs Open fault = Bad (reason_of fault) ∷ []
fault_inputs Closed fault = []

-- the end that it brings
abbrev pub fault_end : State → PduFault → Option AssociationEnd
fault_end Waiting fault = Some user_abort
fault_end Open fault = Some (provider_abort (reason_of fault))
fault_end Closed fault = None

-- two steps as one: nothing comes after one that closes
abbrev pub then_step : AssociationStep → AssociationStep → AssociationStep
then_step first later = if first.close then first else record {
  messages = first.messages ++ later.messages;
  octets = first.octets ++ later.octets;
  close = later.close;
  end = later.end;
}

-- what PDUs lead to that are taken one by one
abbrev pub joined_step : HeldState → List Pdu → AssociationStep
joined_step association [] = no_step (state_of association)
joined_step association (pdu ∷ pdus) =
    then_step (step_of_inputs (state_of association) (inputs_from association (pdu ∷ []) None))
    (joined_step (association_from association (pdu ∷ [])) pdus)
