-- What the status of a C-STORE says, over rows that the server made.
use Rattle.std.proofs.Common.{◌≡◌, ℕ, ◌==◌, Bool, true, false, List, [], ◌∷◌, Option, Some, None, refl, sym, ap, ◌∙◌, subst, arith}
use Rattle.std.specs.List.{AllByRecursion}
use Rattle.std.specs.Result.{result_unwrap_or}
use Rattle.std.specs.Str.{bytes_eq}
use Rattle.dq_core.proofs.isolation.Vocabulary.{AreOctets, Syntax, no_elements, c_cancel, c_store, Message, success, elements_discarded, AcceptedContext, Agreement, Storage, service_of, uid_of, context_of, Sent, Institution, Limits, limits_of, Row, IsSound, Event, DimseOperation, Store, AreMade, BringOctets, ServicesKeep, Arrival, InputAt, arrivals}
use Rattle.dq_dataset.specs.DataSetReader.{data_set_read}
use Rattle.dq_assoc.specs.declared.classes.Service.{Service}
use Rattle.dq_match.specs.declared.responses.Found.{Found}
use Rattle.dq_tables.specs.Rows.{Record, Edit, of, by, after}
use Rattle.dq_store.specs.Levels.{is_of_its_level, stands_whole}
use Rattle.dq_store.specs.CStore.{instance_in, store_outcome}
use Rattle.dq_core.specs.Services.{Responses, Served, service_of_message, served_by, operation_named, operation_outcome, outcome_of, message_outcome}
use Rattle.dq_core.specs.Stores.{SaysWhatStands, IsToldTruly, IsToldTrulyAt}
use Rattle.dq_core.proofs.isolation.Octets.{to-octets}
use Rattle.dq_core.proofs.isolation.Keeping.{Edits}
use Rattle.dq_core.proofs.isolation.Soundness.{none-sound}
use Rattle.dq_core.proofs.isolation.Arriving.{IsMetAt, each-met}
use Rattle.dq_core.proofs.isolation.Exact.{only, responses-are}

pub none-made : AreMade []
none-made = record { sound = none-sound; levels = tt }

-- ---- what the law of C-STORE says

-- what a status says where it has one of two numbers
abbrev Says : ℕ → Bool → Type 0
Says wanted b = (name : List ℕ) (limits : Limits) (rows : List Row) (message : Message) (syntax : Syntax) → AreOctets message.octets → IsSound rows
    → AllByRecursion (λ (row : Row). is_of_its_level row ≡ true) rows → (store_outcome limits (of name rows) message syntax).0 ≡ wanted
    → stands_whole (of name (after (by name (store_outcome limits (of name rows) message syntax).1) rows))
    (instance_in (result_unwrap_or (data_set_read syntax message.octets) no_elements)) ≡ b

module _ (whole : Says success true) (discarded : Says elements_discarded false) (name : List ℕ) (rows : List Row) (limits : Limits) (a : Agreement)
    (message : Message) (are : AreOctets message.octets) (made : AreMade rows) (context : AcceptedContext) where
  abbrev records : List Record
  records = of name rows

  abbrev Told : Found × List Edit → Type 0
  Told outcome = SaysWhatStands (of name (after (by name outcome.1) rows))
      (instance_in (result_unwrap_or (data_set_read context.syntax message.octets) no_elements)) outcome.0.status

  store-told : Told (operation_outcome Store a.called context.syntax limits message records)
  store-told = record {
    whole = λ s. whole name limits rows message context.syntax are made.sound.sound made.levels s;
    discarded = λ s. discarded name limits rows message context.syntax are made.sound.sound made.levels s;
  }

  outcome-told : (named : Option DimseOperation) (is : Bool) → operation_named (service_of context.class) message.command.code ≡ named
      → service_of context.class ≡ Storage → Told (outcome_of named is a.called context.syntax limits message records)
  outcome-told None is e service = record { whole = λ s. absurd (omega (arith, s)); discarded = λ s. absurd (omega (arith, s)) }
  outcome-told (Some operation) false e service = record { whole = λ s. absurd (omega (arith, s)); discarded = λ s. absurd (omega (arith, s)) }
  outcome-told (Some operation) true e service =
      let stores = ap (λ (s : Service). operation_named s message.command.code) (sym service) ∙ e in
      subst (λ (o : DimseOperation). Told (operation_outcome o a.called context.syntax limits message records))
      (only (message.command.code == c_store) Store operation stores) store-told

  -- what is served where the message is not a C-CANCEL
  served-is : (b : Bool) → (message.command.code == c_cancel) ≡ b → context_of a message.context ≡ Some context → (r : Responses)
      → (service_of_message limits records a message).responses ≡ Some r
      → service_of_message limits records a message ≡ served_by context message.command (message_outcome a context limits message records)
  unfolding service_of_message
  served-is true h on r e =
      let computed : (service_of_message limits records a message).responses ≡ None = rw h refl in
      let both : None ≡ Some r = sym computed ∙ e in cc
  served-is false h on r e = rw (on, h) refl

  message-told : (r : Responses) → context_of a message.context ≡ Some context → service_of context.class ≡ Storage
      → (service_of_message limits records a message).responses ≡ Some r
      → SaysWhatStands (of name (after (by name (service_of_message limits records a message).edits) rows))
      (instance_in (result_unwrap_or (data_set_read context.syntax message.octets) no_elements)) r.final.0.status
  message-told r on service e =
      let is = served-is (message.command.code == c_cancel) refl on r e in
      let answered = responses-are limits records a message context r (message.command.code == c_cancel) refl on e in
      subst (λ (status : ℕ). SaysWhatStands (of name (after (by name (service_of_message limits records a message).edits) rows))
      (instance_in (result_unwrap_or (data_set_read context.syntax message.octets) no_elements)) status) (sym (ap (λ (x : Responses). x.final.0.status) answered))
      (subst (λ (edits : List Edit). SaysWhatStands (of name (after (by name edits) rows))
      (instance_in (result_unwrap_or (data_set_read context.syntax message.octets) no_elements)) (message_outcome a context limits message records).0.status)
      (sym (ap (λ (x : Served). x.edits) is)) (outcome-told (operation_named (service_of context.class) message.command.code) (bytes_eq message.command.sop_class (uid_of context.class)) refl service))

module _ (whole : Says success true) (discarded : Says elements_discarded false) where
  pub truly-told : (name : List ℕ) (rows : List Row) (limits : Limits) (a : Agreement) (message : Message) → AreOctets message.octets → AreMade rows
      → IsToldTruly limits name rows a message
  truly-told name rows limits a message are made = λ context r on service e.
      message-told whole discarded name rows limits a message are made context r on service e

  truly-at : (i : Institution) (x : Arrival) → IsMetAt AreMade x → IsToldTrulyAt i x
  truly-at i (InputAt world (Sent message)) s = λ a. truly-told i.name world.rows (limits_of i) a message (to-octets message.octets s.1) s.0
  truly-at i x s = tt

  each-truly : (i : Institution) (xs : List Arrival) → AllByRecursion (IsMetAt AreMade) xs → AllByRecursion (IsToldTrulyAt i) xs
  each-truly i [] each = tt
  each-truly i (x ∷ xs) each = (truly-at i x each.0, each-truly i xs each.1)

  pub history-told : ServicesKeep AreMade → Edits → (institutions : List Institution) (rows : List Row) (events : List Event) (number : ℕ) (i : Institution)
      → BringOctets events → AreMade rows → AllByRecursion (IsToldTrulyAt i) (arrivals institutions rows number [] events)
  history-told keep lens institutions rows events number i brings made =
      each-truly i (arrivals institutions rows number [] events) (each-met AreMade keep lens institutions rows number made [] events tt brings)
