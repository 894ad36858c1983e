-- The answer to a message and what it changes, and what the console's orders change. A service sees the limits and the
-- records of one institution, what was agreed, and the message: no name, no route, no other's record.
use Rattle.std.specs.Prelude.{ℕ, Bool, true, false, ◌==◌, ◌||◌, if◌then◌else◌, bit_or, List, [], map, Option, Some, None, is_some}
use Rattle.dq_dataset.specs.declared.header.Syntax.{Syntax}
use Rattle.dq_dataset.specs.Tree.{ElementList}
use Rattle.dq_dataset.specs.Canonical.{canonical}
use Rattle.dq_dimse.specs.declared.command.Command.{Command}
use Rattle.dq_dimse.specs.Received.{Message}
use Rattle.dq_dimse.specs.Receiving.{identifier_in}
use Rattle.dq_dimse.specs.CommandFields.{c_cancel, c_echo, c_find, c_store, n_create, n_set, response_bit}
use Rattle.dq_dimse.specs.Statuses.{success, cancel, pending_with_optional_keys, pending_without_optional_keys, sop_class_not_supported, unrecognized_operation}
use Rattle.std.specs.Option.{option_map_or}
use Rattle.std.specs.Result.{result_ok}
use Rattle.std.specs.Str.{bytes_eq}
use Rattle.dq_assoc.specs.declared.agreement.AcceptedContext.{AcceptedContext}
use Rattle.dq_assoc.specs.declared.agreement.Agreement.{Agreement}
use Rattle.dq_assoc.specs.declared.classes.SopClass.{SopClass}
use Rattle.dq_assoc.specs.declared.classes.Service.{Service}
use Rattle.dq_assoc.specs.declared.classes.Service.TheVariants as service
use Rattle.dq_core.specs.declared.event.Reply.{Reply}
use Rattle.dq_core.specs.declared.event.Reply.TheVariants.{Done, Refused}
use Rattle.dq_config.specs.Limits.{Limits}
use Rattle.dq_assoc.specs.Classes.{uid_of, service_of}
use Rattle.dq_assoc.specs.Negotiation.{context_of}
use Rattle.dq_match.specs.declared.responses.Found.{Found}
use Rattle.dq_store.specs.CStore.{store_outcome}
use Rattle.dq_find.specs.Queries.{query_outcome}
use Rattle.dq_worklist.specs.Queries.{worklist_outcome}
use Rattle.dq_worklist.specs.Orders.{schedule_outcome, withdrawn}
use Rattle.dq_mpps.specs.NCreate.{create_outcome}
use Rattle.dq_mpps.specs.NSet.{set_outcome}
use Rattle.dq_tables.specs.Rows.{Record, Edit}
use Rattle.dq_core.specs.declared.dimse_operation.DimseOperation.{DimseOperation}
use Rattle.dq_core.specs.declared.dimse_operation.DimseOperation.TheVariants.{Echo, Store, FindStudies, FindEntries, CreateStep, SetStep}

-- a response: its command, and its data set if it has one
abbrev pub Response : Type 0
Response = Command × Option (List ℕ)

-- The responses to a message: the pending ones, in order, the final one, and the one that is final
-- where a C-CANCEL ends the operation before.
pub record Responses : Type 0 where
  pub pending : List Response
  pub final : Response
  pub cancelled : Response

-- the responses to a message, if it has any, and the edits of the records, which are made together
pub record Served : Type 0 where
  pub responses : Option Responses
  pub edits : List Edit

-- An order of the console: to schedule an entry's data set, or to withdraw the entry with an id.
pub data ConsoleOrder : Type 0 where
  Scheduling : List ℕ → ConsoleOrder
  Withdrawal : List ℕ → ConsoleOrder

-- the number of the refusal, where an order is refused, and the edits of the records
pub record Ordered : Type 0 where
  pub refusal : Option ℕ
  pub edits : List Edit

-- a message that has no response, and changes nothing
abbrev pub no_response : Served
no_response = record { responses = None; edits = [] }

-- The operations whose responses name an instance (PS3.7 sections 9.3.1.2, 10.3.3.2 and 10.3.5.2).
abbrev pub is_of_instance : ℕ → Bool
is_of_instance code = code == c_store || (code == n_create || code == n_set)

-- The instance that a response names: that of the command. Where the operation is not recognized,
-- none is named.
abbrev pub named_instance : Command → ℕ → List ℕ
named_instance command status =
    if status == unrecognized_operation then []
    else (if is_of_instance command.code then command.sop_instance else [])

-- the command of a response of a context's class (PS3.7 section 9.3)
abbrev pub response_command : SopClass → Command → ℕ → Bool → Command
response_command class command status with_data = record {
  code = bit_or command.code response_bit;
  id = command.id;
  sop_class = uid_of class;
  sop_instance = named_instance command status;
  with_data = with_data;
  status = status;
}

-- a response with a status, and with a data set where there is one
abbrev pub response : SopClass → Command → ℕ → Option (List ℕ) → Response
response class command status data_set =
    (response_command class command status (is_some data_set), data_set)

-- the status of the responses before the last (PS3.4 section C.4.1.1.4)
abbrev pub pending_status : Bool → ℕ
pending_status optional =
    if optional then pending_without_optional_keys else pending_with_optional_keys

-- the response with an answer, in the context's transfer syntax
abbrev pub pending_response : AcceptedContext → Command → Bool → ElementList → Response
pending_response context command optional answer =
    response context.class command (pending_status optional)
    (Some (canonical context.syntax answer))

-- a response for each answer, in order
abbrev pub pending_responses : AcceptedContext → Command → Found → List Response
pending_responses context command found =
    map (pending_response context command found.optional) found.answers

-- The responses with the answers, and the one with the status, which has no data set. After a
-- C-CANCEL that is FE00 (PS3.4 section C.4.1.1.4).
abbrev pub responses : AcceptedContext → Command → Found → Responses
responses context command found = record {
  pending = pending_responses context command found;
  final = response context.class command found.status None;
  cancelled = response context.class command cancel None;
}

-- The operation of a service that a Command Field names, if the service has it (PS3.4 annexes A, B, C,
-- K and F).
abbrev pub operation_named : Service → ℕ → Option DimseOperation
operation_named service.Verification code = if code == c_echo then Some Echo else None
operation_named service.Storage code = if code == c_store then Some Store else None
operation_named service.StudyRootFind code = if code == c_find then Some FindStudies else None
operation_named service.WorklistFind code = if code == c_find then Some FindEntries else None
operation_named service.PerformedProcedureStep code =
    if code == n_create then Some CreateStep
    else (if code == n_set then Some SetStep else None)

-- the Command Field that asks for an operation (PS3.7 annex E)
abbrev pub command_field_of : DimseOperation → ℕ
command_field_of Echo = c_echo
command_field_of Store = c_store
command_field_of FindStudies = c_find
command_field_of FindEntries = c_find
command_field_of CreateStep = n_create
command_field_of SetStep = n_set

-- a status without answers
abbrev pub status_alone : ℕ → Found
status_alone status = record { status = status; optional = false; answers = [] }

-- a status without answers, and the edits that go with it
abbrev pub alone : ℕ × List Edit → Found × List Edit
alone outcome = (status_alone outcome.0, outcome.1)

-- what an operation answers, and the edits that go with it; the title is the one that the peer called
abbrev pub operation_outcome : DimseOperation → List ℕ → Syntax → Limits → Message → List Record
    → Found × List Edit
operation_outcome Echo called syntax limits message records = alone (success, [])
operation_outcome Store called syntax limits message records =
    alone (store_outcome limits records message syntax)
operation_outcome FindStudies called syntax limits message records =
    (query_outcome records called message syntax, [])
operation_outcome FindEntries called syntax limits message records =
    (worklist_outcome records message syntax, [])
operation_outcome CreateStep called syntax limits message records =
    alone (create_outcome limits records message syntax)
operation_outcome SetStep called syntax limits message records =
    alone (set_outcome records message syntax)

-- The operation is tested first, and then whether the class is that of the context (PS3.7 annex C).
abbrev pub outcome_of : Option DimseOperation → Bool → List ℕ → Syntax → Limits → Message
    → List Record → Found × List Edit
outcome_of None is_its_class called syntax limits message records =
    alone (unrecognized_operation, [])
outcome_of (Some operation) false called syntax limits message records =
    alone (sop_class_not_supported, [])
outcome_of (Some operation) true called syntax limits message records =
    operation_outcome operation called syntax limits message records

-- the identifier that an operation reads: that of a C-FIND, where it can be read (PS3.7 section 9.1.2.1)
abbrev pub identifier_of : DimseOperation → Syntax → Message → Option ElementList
identifier_of FindStudies syntax message = result_ok (identifier_in message syntax)
identifier_of FindEntries syntax message = result_ok (identifier_in message syntax)
identifier_of operation syntax message = None

-- and of a message that may be refused before
abbrev pub identifier_unless_refused : Option DimseOperation → Bool → Syntax → Message → Option ElementList
identifier_unless_refused (Some operation) true syntax message = identifier_of operation syntax message
identifier_unless_refused operation is_its_class syntax message = None

-- the outcome of a message on a context that was accepted
abbrev pub message_outcome : Agreement → AcceptedContext → Limits → Message → List Record
    → Found × List Edit
message_outcome agreement context limits message =
    outcome_of (operation_named (service_of context.class) message.command.code)
    (bytes_eq message.command.sop_class (uid_of context.class))
    agreement.called context.syntax limits message

-- the identifier of a message on such a context
abbrev pub identifier_on : AcceptedContext → Message → Option ElementList
identifier_on context message =
    identifier_unless_refused (operation_named (service_of context.class) message.command.code)
    (bytes_eq message.command.sop_class (uid_of context.class)) context.syntax message

-- the responses of an outcome, and its edits
abbrev pub served_by : AcceptedContext → Command → Found × List Edit → Served
served_by context command outcome =
    record { responses = Some (responses context command outcome.0); edits = outcome.1 }

-- The responses to a message on an association, and its edits. A C-CANCEL has no response, and a message on a context
-- that was not accepted has none.
unfoldable pub service_of_message : Limits → List Record → Agreement → Message → Served
service_of_message limits records agreement message =
    if message.command.code == c_cancel then no_response
    else option_map_or (λ (context : AcceptedContext). served_by context message.command
    (message_outcome agreement context limits message records))
    (context_of agreement message.context) no_response

abbrev pub ordered_by : Option ℕ × List Edit → Ordered
ordered_by outcome = record { refusal = outcome.0; edits = outcome.1 }

-- what an order of the console changes
unfoldable pub console_outcome : Limits → List Record → ConsoleOrder → Ordered
console_outcome limits records (Scheduling octets) = ordered_by (schedule_outcome limits records octets)
console_outcome limits records (Withdrawal id) = ordered_by (withdrawn records id)

-- what the console is answered with
abbrev pub order_reply : Option ℕ → Reply
order_reply None = Done
order_reply (Some number) = Refused number
