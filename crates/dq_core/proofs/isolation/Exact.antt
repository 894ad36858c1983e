-- The rows that each message of a connection is served from are sound, so that its queries are answered exactly.
use Rattle.std.proofs.Common.{◌≡◌, ℕ, ◌==◌, Bool, true, false, if◌then◌else◌, List, [], ◌∷◌, map, Option, Some, None, Result, Ok, Err, refl, sym, ap, ◌∙◌, subst, arith}
use Rattle.std.specs.Prelude.{◌≢◌}
use Rattle.std.specs.List.{AllByRecursion}
use Rattle.std.specs.Str.{bytes_eq}
use Rattle.dq_core.proofs.isolation.Vocabulary.{ElementList, Syntax, c_cancel, c_echo, c_find, c_store, n_create, n_set, Message, success, AcceptedContext, Agreement, Verification, Storage, StudyRootFind, WorklistFind, PerformedProcedureStep, service_of, uid_of, context_of, Sent, Institution, Limits, limits_of, Row, IsSound, Event, DimseOperation, Echo, Store, FindStudies, FindEntries, CreateStep, SetStep, HoldSound, BringOctets, ServicesKeep, Arrival, InputAt, arrivals, IsExactAt}
use Rattle.dq_assoc.specs.declared.classes.Service.{Service}
use Rattle.dq_match.specs.declared.responses.Found.{Found}
use Rattle.dq_find.specs.declared.query.Query.{Query}
use Rattle.dq_find.specs.Queries as study
use Rattle.dq_find.specs.Answers as study_answers
use Rattle.dq_worklist.specs.Queries as worklist
use Rattle.dq_worklist.specs.Answers as worklist_answers
use Rattle.dq_tables.specs.Rows.{Record, of}
use Rattle.dq_core.specs.Services.{Response, Responses, responses, pending_response, pending_responses, operation_named, operation_outcome, outcome_of, message_outcome, service_of_message}
use Rattle.dq_core.specs.Searches.{AreAnswersOf, AreExact}
use Rattle.dq_core.proofs.isolation.Keeping.{Edits}
use Rattle.dq_core.proofs.isolation.Arriving.{IsMetAt, each-met}

-- ---- queries over sound rows

abbrev pub StudiesFound : Type 0
StudiesFound = (institution : List ℕ) (rows : List Row) (called : List ℕ) (message : Message) (syntax : Syntax) → IsSound rows
    → (study.query_outcome (of institution rows) called message syntax).status ≡ success
    → (query : Query) × (study.message_query message syntax ≡ Ok query)
    × study_answers.AreQueryAnswers (of institution rows) called query (study.query_outcome (of institution rows) called message syntax).answers

abbrev pub EntriesFound : Type 0
EntriesFound = (institution : List ℕ) (rows : List Row) (message : Message) (syntax : Syntax) → IsSound rows
    → (worklist.worklist_outcome (of institution rows) message syntax).status ≡ success
    → (keys : ElementList) × (optional : Bool) × (worklist.worklist_query message syntax ≡ Ok (record { keys = keys; optional = optional }))
    × worklist_answers.AreEntryAnswers (of institution rows) keys (worklist.worklist_outcome (of institution rows) message syntax).answers

-- whether some keys are optional is the query's
study-optional : (records : List Record) (called : List ℕ) (message : Message) (context : AcceptedContext) (query : Query)
    → study.message_query message context.syntax ≡ Ok query → (study.query_outcome records called message context.syntax).optional ≡ query.optional
unfolding study.query_outcome
study-optional records called message context query e = rw e refl

entries-optional : (records : List Record) (message : Message) (context : AcceptedContext) (keys : ElementList) (optional : Bool)
    → worklist.worklist_query message context.syntax ≡ Ok (record { keys = keys; optional = optional })
    → (worklist.worklist_outcome records message context.syntax).optional ≡ optional
unfolding worklist.worklist_outcome
entries-optional records message context keys optional e = rw e refl

-- what is refused has no answers
study-none_by : (records : List Record) (called : List ℕ) (query : Result Query ℕ) → (study.found_by records called query).status ≢ success
    → (study.found_by records called query).answers ≡ []
study-none_by records called (Err status) h = refl
study-none_by records called (Ok query) h = absurd (h refl)

study-none : (records : List Record) (called : List ℕ) (message : Message) (syntax : Syntax) → (study.query_outcome records called message syntax).status ≢ success
    → (study.query_outcome records called message syntax).answers ≡ []
unfolding study.query_outcome
study-none records called message syntax h = study-none_by records called (study.message_query message syntax) h

entries-none_by : (records : List Record) (query : Result _ ℕ) → (worklist.listed_by records query).status ≢ success
    → (worklist.listed_by records query).answers ≡ []
entries-none_by records (Err status) h = refl
entries-none_by records (Ok query) h = absurd (h refl)

entries-none : (records : List Record) (message : Message) (syntax : Syntax) → (worklist.worklist_outcome records message syntax).status ≢ success
    → (worklist.worklist_outcome records message syntax).answers ≡ []
unfolding worklist.worklist_outcome
entries-none records message syntax h = entries-none_by records (worklist.worklist_query message syntax) h

-- the one operation that a test allows
pub only : (b : Bool) (allowed named : DimseOperation) → (if b then Some allowed else None) ≡ Some named → allowed ≡ named
only true allowed named e = cc
only false allowed named e = cc

module _ (limits : Limits) (records : List Record) (a : Agreement) (message : Message) (context : AcceptedContext) where
  abbrev found_on : Found
  found_on = (message_outcome a context limits message records).0

  -- responses are of what was found
  pub responses-are : (r : Responses) (b : Bool) → (message.command.code == c_cancel) ≡ b → context_of a message.context ≡ Some context
      → (service_of_message limits records a message).responses ≡ Some r → r ≡ responses context message.command found_on
  unfolding service_of_message
  responses-are r true h on e =
      let computed : (service_of_message limits records a message).responses ≡ None = rw h refl in
      let both : None ≡ Some r = sym computed ∙ e in cc
  responses-are r false h on e =
      let computed : (service_of_message limits records a message).responses ≡ Some (responses context message.command found_on) = rw (on, h) refl in
      let both : Some r ≡ Some (responses context message.command found_on) = sym e ∙ computed in cc

  -- what an operation finds
  abbrev found_by : DimseOperation → Found
  found_by operation = (operation_outcome operation a.called context.syntax limits message records).0

  -- a success is that of an operation
  pub succeeded : (named : Option DimseOperation) (is : Bool) → (outcome_of named is a.called context.syntax limits message records).0.status ≡ success
      → (operation : DimseOperation) × (named ≡ Some operation) × ((outcome_of named is a.called context.syntax limits message records).0 ≡ found_by operation)
  succeeded None is ok = absurd (omega (arith, ok))
  succeeded (Some operation) false ok = absurd (omega (arith, ok))
  succeeded (Some operation) true ok = (operation, refl, refl)

  -- and nothing is found, where it is none
  nothing-by : (operation : DimseOperation) → (found_by operation).status ≢ success → (found_by operation).answers ≡ []
  nothing-by FindStudies h = study-none records a.called message context.syntax h
  nothing-by FindEntries h = entries-none records message context.syntax h
  nothing-by other h = refl

  nothing-unless : (named : Option DimseOperation) (is : Bool) → (outcome_of named is a.called context.syntax limits message records).0.status ≢ success
      → (outcome_of named is a.called context.syntax limits message records).0.answers ≡ []
  nothing-unless None is h = refl
  nothing-unless (Some operation) false h = refl
  nothing-unless (Some operation) true h = nothing-by operation h

  refused-none : (r : Responses) → r ≡ responses context message.command found_on → r.final.0.status ≢ success → r.pending ≡ []
  refused-none r is h =
      ap (λ (x : Responses). x.pending) is
      ∙ ap (map (pending_response context message.command found_on.optional))
      (nothing-unless (operation_named (service_of context.class) message.command.code) (bytes_eq message.command.sop_class (uid_of context.class))
      (λ s. h (ap (λ (x : Responses). x.final.0.status) is ∙ s)))

module _ (studies : StudiesFound) (entries : EntriesFound) (institution : List ℕ) (rows : List Row) (sound : IsSound rows) (limits : Limits)
    (a : Agreement) (message : Message) (context : AcceptedContext) where
  abbrev own : List Record
  own = of institution rows

  abbrev Exactly : Service → DimseOperation → Type 0
  Exactly s operation = let found = (operation_outcome operation a.called context.syntax limits message own).0 in found.status ≡ success
      → AreAnswersOf s context a.called own message (pending_responses context message.command found)

  studies-exact : Exactly StudyRootFind FindStudies
  studies-exact ok =
      let answered = study.query_outcome own a.called message context.syntax in
      let told = studies institution rows a.called message context.syntax sound ok in (
        told.0,
        told.1,
        answered.answers,
        told.2,
        ap (λ (optional : Bool). map (pending_response context message.command optional) answered.answers)
            (study-optional own a.called message context told.0 told.1),
      )

  entries-exact : Exactly WorklistFind FindEntries
  entries-exact ok =
      let answered = worklist.worklist_outcome own message context.syntax in
      let told = entries institution rows message context.syntax sound ok in (
        told.0,
        told.1,
        told.2,
        answered.answers,
        told.3,
        ap (λ (optional : Bool). map (pending_response context message.command optional) answered.answers)
            (entries-optional own message context told.0 told.1 told.2),
      )

  steps-exact : (creates sets : Bool) (operation : DimseOperation)
      → (if creates then Some CreateStep else (if sets then Some SetStep else None)) ≡ Some operation → Exactly PerformedProcedureStep operation
  steps-exact true sets operation e ok = subst (Exactly PerformedProcedureStep) (only true CreateStep operation e) (λ _. refl) ok
  steps-exact false sets operation e ok = subst (Exactly PerformedProcedureStep) (only sets SetStep operation e) (λ _. refl) ok

  exact-of : (s : Service) (operation : DimseOperation) → operation_named s message.command.code ≡ Some operation → Exactly s operation
  exact-of Verification operation e = subst (Exactly Verification) (only (message.command.code == c_echo) Echo operation e) (λ _. refl)
  exact-of Storage operation e = subst (Exactly Storage) (only (message.command.code == c_store) Store operation e) (λ _. refl)
  exact-of StudyRootFind operation e = subst (Exactly StudyRootFind) (only (message.command.code == c_find) FindStudies operation e) studies-exact
  exact-of WorklistFind operation e = subst (Exactly WorklistFind) (only (message.command.code == c_find) FindEntries operation e) entries-exact
  exact-of PerformedProcedureStep operation e = steps-exact (message.command.code == n_create) (message.command.code == n_set) operation e

  exact-by : let found = (message_outcome a context limits message own).0 in found.status ≡ success
      → AreAnswersOf (service_of context.class) context a.called own message (pending_responses context message.command found)
  exact-by ok =
      let is = succeeded limits own a message context (operation_named (service_of context.class) message.command.code)
      (bytes_eq message.command.sop_class (uid_of context.class)) ok in
      subst (λ (found : Found). AreAnswersOf (service_of context.class) context a.called own message (pending_responses context message.command found))
      (sym is.2) (exact-of (service_of context.class) is.0 is.1 (sym (ap (λ (found : Found). found.status) is.2) ∙ ok))

  exact-responses : (r : Responses) → context_of a message.context ≡ Some context → (service_of_message limits own a message).responses ≡ Some r
      → AreExact own a context message r
  exact-responses r on e =
      let is = responses-are limits own a message context r (message.command.code == c_cancel) refl on e in record {
        answers = λ ok. subst (λ (xs : List Response). AreAnswersOf (service_of context.class) context a.called own message xs)
            (sym (ap (λ (x : Responses). x.pending) is))
            (exact-by (sym (ap (λ (x : Responses). x.final.0.status) is) ∙ ok));
        refused = λ h. refused-none limits own a message context r is h;
      }

module _ (studies : StudiesFound) (entries : EntriesFound) (i : Institution) where
  exact-at : (x : Arrival) → IsMetAt HoldSound x → IsExactAt i x
  exact-at (InputAt world (Sent message)) s = λ a context r on e.
      exact-responses studies entries i.name world.rows s.0.sound (limits_of i) a message context r on e
  exact-at x s = tt

  each-exact : (xs : List Arrival) → AllByRecursion (IsMetAt HoldSound) xs → AllByRecursion (IsExactAt i) xs
  each-exact [] each = tt
  each-exact (x ∷ xs) each = (exact-at x each.0, each-exact xs each.1)

pub exactly : StudiesFound → EntriesFound → ServicesKeep HoldSound → Edits → (institutions : List Institution) (rows : List Row) (events : List Event)
    (number : ℕ) (i : Institution) → HoldSound rows → BringOctets events → AllByRecursion (IsExactAt i) (arrivals institutions rows number [] events)
exactly studies entries keep lens institutions rows events number i sound brings =
    each-exact studies entries i (arrivals institutions rows number [] events) (each-met HoldSound keep lens institutions rows number sound [] events tt brings)
