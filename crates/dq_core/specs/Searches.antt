-- Properties of the responses to a C-FIND (PS3.4 sections C.4.1 and K.4.1).
use Rattle.std.specs.Prelude.{◌≡◌, ◌≢◌, ℕ, Bool, List, [], map, Some, Ok}
use Rattle.dq_dataset.specs.Tree.{ElementList}
use Rattle.dq_dimse.specs.declared.command.Command.{Command}
use Rattle.dq_dimse.specs.Received.{Message}
use Rattle.dq_dimse.specs.Statuses.{success}
use Rattle.dq_assoc.specs.declared.agreement.AcceptedContext.{AcceptedContext}
use Rattle.dq_assoc.specs.declared.agreement.Agreement.{Agreement}
use Rattle.dq_assoc.specs.declared.classes.Service.{Service}
use Rattle.dq_assoc.specs.declared.classes.Service.TheVariants.{StudyRootFind, WorklistFind}
use Rattle.dq_assoc.specs.Classes.{service_of}
use Rattle.dq_assoc.specs.Negotiation.{context_of}
use Rattle.dq_config.specs.Limits.{Limits}
use Rattle.dq_find.specs.declared.query.Query.{Query}
use Rattle.dq_find.specs.Queries as study
use Rattle.dq_find.specs.Answers as study_answers
use Rattle.dq_worklist.specs.Queries as worklist
use Rattle.dq_worklist.specs.Answers as worklist_answers
use Rattle.dq_tables.specs.Rows.{Record}
use Rattle.dq_core.specs.Services.{Response, Responses, pending_response, service_of_message}

-- these responses are pending ones, each with one of the answers, in their order
abbrev pub ArePending : AcceptedContext → Command → Bool → List ElementList → List Response → Type 0
ArePending context command optional answers responses =
    responses ≡ map (pending_response context command optional) answers

-- Responses to a query of a service are the answers to it: one for each record that matches, in the
-- order of their keys, with what is told of it. Another service has no answers.
abbrev pub AreAnswersOf : Service → AcceptedContext → List ℕ → List Record → Message → List Response
    → Type 0
AreAnswersOf StudyRootFind context called records message responses =
    (query : Query) × (study.message_query message context.syntax ≡ Ok query)
    × (answers : List ElementList) × study_answers.AreQueryAnswers records called query answers
    × ArePending context message.command query.optional answers responses
AreAnswersOf WorklistFind context called records message responses =
    (keys : ElementList) × (optional : Bool) × (worklist.worklist_query message context.syntax
    ≡ Ok (record { keys = keys; optional = optional }))
    × (answers : List ElementList) × worklist_answers.AreEntryAnswers records keys answers
    × ArePending context message.command optional answers responses
AreAnswersOf other context called records message responses = (responses ≡ [])

-- The pending responses to a C-FIND that ends with 0000 are the answers to its query. There are none
-- where it is refused.
pub record AreExact (records : List Record) (agreement : Agreement) (context : AcceptedContext)
    (message : Message) (r : Responses) : Type 0 where
  pub answers : r.final.0.status ≡ success
      → AreAnswersOf (service_of context.class) context agreement.called records message r.pending
  pub refused : r.final.0.status ≢ success → r.pending ≡ []

-- so are those to a message that comes on a context
abbrev pub IsAnsweredExactly : Limits → List Record → Agreement → Message → Type 0
IsAnsweredExactly limits records agreement message = (context : AcceptedContext) (r : Responses)
    → context_of agreement message.context ≡ Some context
    → (service_of_message limits records agreement message).responses ≡ Some r
    → AreExact records agreement context message r
