-- The effects of the server's parts on tables, and what they leave at a fault. This is for the prover.
use Rattle.std.specs.Prelude.{◌≡◌, ℕ, ◌⊎◌, if◌then◌else◌, List, [], ◌∷◌, ◌++◌, Result, IfOk, OnOk, OnErr, Option, None, Some}
use Rattle.dq_dimse.specs.Received.{Message}
use Rattle.dq_assoc.specs.declared.agreement.Agreement.{Agreement}
use Rattle.dq_assoc.specs.declared.association.Verdict.{Verdict}
use Rattle.dq_assoc.specs.declared.association.State.{State}
use Rattle.dq_assoc.specs.declared.association.State.TheVariants.{Waiting}
use Rattle.dq_assoc.specs.Table.{Input, Requested, Line, line, answer_octets}
use Rattle.dq_assoc.specs.After.{is_closed}
use Rattle.dq_assoc.specs.Steps.{AssociationStep, step_of, open_outcome, step_of_inputs}
use Rattle.dq_config.specs.declared.config.Institution.{Institution}
use Rattle.dq_config.specs.Limits.{Limits}
use Rattle.dq_match.specs.declared.responses.Found.{Found}
use Rattle.dq_tables.specs.declared.fault.TableFault.{TableFault}
use Rattle.dq_tables.specs.declared.fault.TableFault.TheVariants as table
use Rattle.dq_tables.specs.declared.row.Row.{Row}
use Rattle.dq_tables.specs.Rows.{Record, Edit, of, by, after, after_all}
use Rattle.dq_tables.specs.TableStates.{State as Kept}
use Rattle.dq_core.specs.declared.event.Reply.{Reply}
use Rattle.dq_core.specs.declared.fault.Fault.{Fault}
use Rattle.dq_core.specs.declared.fault.Fault.TheVariants.{NoMemory, Store}
use Rattle.dq_core.specs.declared.answers.OperationOutcome.{OperationOutcome}
use Rattle.dq_core.specs.Queries.{outcome_found}
use Rattle.dq_core.specs.Services.{ConsoleOrder}
use Rattle.dq_core.specs.Pages.{OpenQuery, reaction}
use Rattle.dq_core.specs.Answers.{Progress, Answer, agreement_by, no_answer, message_answer, then_answer}
use Rattle.dq_core.specs.Shared.{operations_by, first_world, order_turn}
use Rattle.dq_core.specs.Stepping.{HealthAfter, MayLeaveAfter, IsPartOf}

-- An answer was given for an institution, or for none: its octets were added, its operations were made, and the
-- C-FIND that it leaves open is open.
pub record AnswerApplied (institution : Option Institution) (answer : Answer) (before after : List Row)
    (out added : List ℕ) (left : Option OpenQuery) : Type 0 where
  pub octets : added ≡ out ++ answer.octets
  pub rows : after ≡ after_all (operations_by institution answer.changes) before
  pub query : left ≡ answer.next.query

-- the operations of such an answer were made in part
abbrev pub AnswerPartlyApplied : Option Institution → Answer → List Row → List Row
    → (List Row → Type 0) → Type 0
AnswerPartlyApplied institution answer before after IsLeft =
    IsPartOf (operations_by institution answer.changes) before after IsLeft

-- An outcome is given, and its edits are made; or there is a fault, and no edit is made.
pub record Operates (old new : Kept) (institution : List ℕ)
    (does : List Record → Found × List Edit) (result : Result OperationOutcome Fault) : Type 0 where
  pub goes : HealthAfter old new result
  pub answered : new.honest → IfOk result (λ given.
      outcome_found (of institution new.rows) given.outcome ≡ (does (of institution old.rows)).0)
  pub done : new.honest → OnOk result (
      new.rows ≡ after (by institution (does (of institution old.rows)).1) old.rows)
  pub same : new.honest → OnErr result (new.rows ≡ old.rows)
  pub crash : new.honest → OnErr result ((r : List Row) → MayLeaveAfter old new r → (r ≡ old.rows)
      ⊎ (r ≡ after (by institution (does (of institution old.rows)).1) old.rows))

-- An order of an institution, or of none, is answered as by the plain server and its operations are
-- made, or there is a fault, and no operation is made.
pub record Orders (old new : Kept) (institution : Option Institution) (order : ConsoleOrder)
    (result : Result Reply Fault) : Type 0 where
  pub goes : HealthAfter old new result
  pub replied : new.honest
      → IfOk result (λ reply. reply ≡ (order_turn (first_world old.rows) order institution).reply)
  pub done : new.honest → OnOk result (
      new.rows ≡ after_all (order_turn (first_world old.rows) order institution).operations old.rows)
  pub same : new.honest → OnErr result (new.rows ≡ old.rows)
  pub crash : new.honest → OnErr result ((r : List Row) → MayLeaveAfter old new r → (r ≡ old.rows)
      ⊎ (r ≡ after_all (order_turn (first_world old.rows) order institution).operations old.rows))

-- the fault of the server at a fault of the tables
abbrev pub server_fault : TableFault → Fault
server_fault table.NoMemory = NoMemory
server_fault table.Store = Store

-- what is agreed after inputs
abbrev pub agreement_after : Option Agreement → List Input → Option Agreement
agreement_after (Some agreement) inputs = Some agreement
agreement_after None [] = None
agreement_after None (input ∷ inputs) = agreement_by input

-- where an association that is open goes on from
abbrev pub agreed_on : Agreement → List Record → Option OpenQuery → Progress
agreed_on agreement records query =
    record { agreement = Some agreement; records = records; query = query }

-- the answer to a message, from the records, while a C-FIND is open or none
abbrev pub served_answer : Limits → Agreement → List Record → Option OpenQuery → Message → Answer
served_answer limits agreement records query message =
    message_answer (reaction query limits records agreement message)
    (agreed_on agreement records query)

-- the answers to messages in order
abbrev pub messages_answer : Limits → Agreement → List Record → Option OpenQuery → List Message
    → Answer
messages_answer limits agreement records query [] =
    no_answer (agreed_on agreement records query)
messages_answer limits agreement records query (message ∷ messages) =
    let first = served_answer limits agreement records query message in
    then_answer first
    (messages_answer limits agreement first.next.records first.next.query messages)

-- The outcome of a connection's inputs: the acceptance of a request, and the step of what comes after it.
pub record Taken : Type 0 where
  pub opening : List ℕ
  pub step : AssociationStep

abbrev pub taken_at_request : Line → List Input → Taken
taken_at_request l inputs =
    if is_closed l.next then record { opening = []; step = step_of l }
    else record { opening = answer_octets l.answer; step = open_outcome inputs }

abbrev pub taken_inputs : Verdict → State → List Input → Taken
taken_inputs verdict Waiting (Requested request ∷ inputs) =
    taken_at_request (line Waiting verdict (Requested request)) inputs
taken_inputs verdict state inputs = record { opening = []; step = step_of_inputs state inputs }

-- The answer to what was taken: where something is agreed on, messages are served.
abbrev pub agreed_answer : Limits → List Record → Option Agreement → Option OpenQuery
    → List Message → Answer
agreed_answer limits records None query messages =
    no_answer (record { agreement = None; records = records; query = query })
agreed_answer limits records (Some agreement) query messages =
    messages_answer limits agreement records query messages

abbrev pub between : List ℕ → List ℕ → List ℕ → List ℕ
between opening octets closing = opening ++ (octets ++ closing)

abbrev pub taken_answer : Limits → List Record → Option Agreement → Option OpenQuery → Taken
    → Answer
taken_answer limits records agreement query t =
    let served = agreed_answer limits records agreement query t.step.messages in
    record served {
      octets = between t.opening served.octets t.step.octets;
      close = t.step.close;
    }
