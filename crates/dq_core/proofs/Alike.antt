-- What inputs are answered with, by the plain server and by the parts of the server: alike.
use Rattle.std.proofs.Common.{◌≡◌, ℕ, Bool, true, false, List, [], ◌∷◌, ◌++◌, Option, Some, None, ◌⊎◌, inl, inr, refl, sym, ap, ◌∙◌, append_assoc}
use Rattle.dq_pdu.specs.declared.pdu.Request.{Request}
use Rattle.dq_dimse.specs.Received.{Message}
use Rattle.dq_assoc.specs.declared.agreement.Agreement.{Agreement}
use Rattle.dq_assoc.specs.declared.association.State.TheVariants.{Waiting}
use Rattle.dq_assoc.specs.Steps.{AssociationStep}
use Rattle.dq_assoc.specs.declared.association.Verdict.{Verdict}
use Rattle.dq_assoc.specs.declared.association.Verdict.TheVariants.{Nowhere}
use Rattle.dq_assoc.specs.Negotiation.{agreement_of}
use Rattle.dq_assoc.specs.Table.{Input, Requested, Sent, Line, line}
use Rattle.dq_assoc.specs.After.{is_closed}
use Rattle.dq_assoc.specs.Steps.{open_outcome}
use Rattle.dq_config.specs.declared.config.Institution.{Institution}
use Rattle.dq_config.specs.Limits.{Limits, limits_of}
use Rattle.dq_tables.specs.declared.row.Row.{Row}
use Rattle.dq_tables.specs.Rows.{Record, Edit, of}
use Rattle.dq_core.specs.Effects.{Taken}
use Rattle.dq_core.specs.Pages.{OpenQuery}
use Rattle.dq_core.specs.Answers.{Progress, Answer, line_answer, then_answer, input_answers, stranger_answer}
use Rattle.dq_core.specs.Owners.{is_sound_request}
use Rattle.dq_core.specs.Shared.{operations_by}
use Rattle.dq_core.specs.Effects.{agreement_after, served_answer, messages_answer, agreed_answer, taken_at_request, taken_inputs}
use Rattle.dq_core.specs.Slots.{connection_answer, AreAlike}
use Rattle.dq_core.proofs.isolation.Requests.{nowhere-closes, unsound-line}

abbrev going_on : Option Agreement → List Record → Option OpenQuery → Progress
going_on agreement records query = record { agreement = agreement; records = records; query = query }

-- an answer is that to messages, and then the octets of the step
record IsOf (x messages : Answer) (step : AssociationStep) : Type 0 where
  octets : x.octets ≡ messages.octets ++ step.octets
  close : x.close ≡ step.close
  query : x.next.query ≡ messages.next.query
  changes : x.changes ≡ messages.changes

-- inputs after the request
open-is_of : (limits : Limits) (verdict : Verdict) (a : Agreement) (records : List Record) (query : Option OpenQuery) (inputs : List Input)
    → IsOf (input_answers limits verdict (going_on (Some a) records query) inputs) (messages_answer limits a records query (open_outcome inputs).messages)
    (open_outcome inputs)
open-is_of limits verdict a records query [] = record { octets = refl; close = refl; query = refl; changes = refl }
open-is_of limits verdict a records query (Sent message ∷ inputs) =
    let first = served_answer limits a records query message in
    let later = open-is_of limits verdict a first.next.records first.next.query inputs in record {
      octets = ap (λ (octets : List ℕ). first.octets ++ octets) later.octets ∙ sym (append_assoc first.octets
          (messages_answer limits a first.next.records first.next.query (open_outcome inputs).messages).octets (open_outcome inputs).octets);
      close = later.close;
      query = later.query;
      changes = ap (λ (changes : List (List Edit)). first.changes ++ changes) later.changes;
    }
open-is_of limits verdict a records query (input ∷ inputs) = record { octets = refl; close = refl; query = refl; changes = refl }

-- that was agreed on, or there is no message to serve
abbrev IsAgreed : List Message → Option Agreement → Agreement → Type 0
IsAgreed messages agreed a = (messages ≡ []) ⊎ (agreed ≡ Some a)

served-alike : (limits : Limits) (records : List Record) (query : Option OpenQuery) (messages : List Message) (agreed : Option Agreement) (a : Agreement)
    → IsAgreed messages agreed a → let x = messages_answer limits a records query messages in
    let y = agreed_answer limits records agreed query messages in
    (x.octets ≡ y.octets) × (x.changes ≡ y.changes) × (x.next.query ≡ y.next.query)
served-alike limits records query [] None a h = (refl, refl, refl)
served-alike limits records query [] (Some agreed) a h = (refl, refl, refl)
served-alike limits records query (message ∷ messages) agreed a (inl none) = cc
served-alike limits records query (message ∷ messages) agreed a (inr e) = rw e (refl, refl, refl)

module _ (i : Institution) (verdict : Verdict) (rows : List Row) (query : Option OpenQuery) where
  abbrev answered : Option Agreement → List Input → Answer
  answered agreement inputs = input_answers (limits_of i) verdict (going_on agreement (of i.name rows) query) inputs

  abbrev IsAnswered : Answer → Option Agreement → Taken → Type 0
  IsAnswered x agreed t = AreAlike (Some i) x (Some i) (connection_answer (Some i) rows agreed query t)

  -- a connection that was opened before
  pub alike-open : (a : Agreement) (inputs : List Input) (agreed : Option Agreement) → IsAgreed (open_outcome inputs).messages agreed a
      → IsAnswered (answered (Some a) inputs) agreed (record { opening = []; step = open_outcome inputs })
  alike-open a inputs agreed h =
      let x = open-is_of (limits_of i) verdict a (of i.name rows) query inputs in
      let y = served-alike (limits_of i) (of i.name rows) query (open_outcome inputs).messages agreed a h in record {
        octets = x.octets ∙ ap (λ (octets : List ℕ). octets ++ (open_outcome inputs).octets) y.0;
        close = x.close;
        query = x.query ∙ y.2;
        operations = ap (operations_by (Some i)) (x.changes ∙ y.1);
      }

  -- a request, and what comes after it
  alike-opened : (l : Line) (request : Request) (inputs : List Input) (agreed : Option Agreement) (b : Bool) → is_closed l.next ≡ b
      → IsAgreed (taken_at_request l inputs).step.messages agreed (agreement_of request)
      → IsAnswered (let progress = going_on (Some (agreement_of request)) (of i.name rows) query in
      then_answer (line_answer l progress) (input_answers (limits_of i) verdict progress inputs)) agreed (taken_at_request l inputs)
  alike-opened l request inputs None true h k = rw h (record { octets = refl; close = refl; query = refl; operations = refl })
  alike-opened l request inputs (Some agreed) true h k = rw h (record { octets = refl; close = refl; query = refl; operations = refl })
  alike-opened l request inputs agreed false h k =
      let at : IsAgreed (open_outcome inputs).messages agreed (agreement_of request) = rw h at k in
      let x = alike-open (agreement_of request) inputs agreed at in
      rw h (record {
        octets = ap (λ (octets : List ℕ). (line_answer l (going_on None [] None)).octets ++ octets) x.octets;
        close = x.close;
        query = x.query;
        operations = x.operations;
      })

  -- a connection without a request yet
  pub alike-waiting : (inputs : List Input) (agreed : Option Agreement)
      → ((taken_inputs verdict Waiting inputs).step.messages ≡ []) ⊎ (agreed ≡ agreement_after None inputs)
      → IsAnswered (answered None inputs) agreed (taken_inputs verdict Waiting inputs)
  alike-waiting (Requested request ∷ inputs) agreed h =
      let l = line Waiting verdict (Requested request) in alike-opened l request inputs agreed (is_closed l.next) refl h
  alike-waiting [] None h = record { octets = refl; close = refl; query = refl; operations = refl }
  alike-waiting [] (Some agreed) h = record { octets = refl; close = refl; query = refl; operations = refl }
  alike-waiting (input ∷ inputs) None h = record { octets = refl; close = refl; query = refl; operations = refl }
  alike-waiting (input ∷ inputs) (Some agreed) h = record { octets = refl; close = refl; query = refl; operations = refl }

-- ---- strangers

-- the rejection of a request on a connection of no owner, whatever institution has its titles
rejected-alike : (institution : Option Institution) (rows : List Row) (l : Line) (inputs : List Input) (progress : Progress) (agreed : Option Agreement)
    → is_closed l.next ≡ true → AreAlike None (line_answer l progress) institution (connection_answer institution rows agreed progress.query (taken_at_request l inputs))
rejected-alike None rows l inputs progress agreed h = rw h (record { octets = refl; close = refl; query = refl; operations = refl })
rejected-alike (Some i) rows l inputs progress None h = rw h (record { octets = refl; close = refl; query = refl; operations = refl })
rejected-alike (Some i) rows l inputs progress (Some agreed) h = rw h (record { octets = refl; close = refl; query = refl; operations = refl })

-- a connection that no institution has
pub alike-stranger : (rows : List Row) (inputs : List Input) (progress : Progress) (agreed : Option Agreement)
    → AreAlike None (stranger_answer progress inputs) None (connection_answer None rows agreed progress.query (taken_inputs Nowhere Waiting inputs))
alike-stranger rows [] progress agreed = record { octets = refl; close = refl; query = refl; operations = refl }
alike-stranger rows (Requested request ∷ inputs) progress agreed =
    rejected-alike None rows (line Waiting Nowhere (Requested request)) inputs progress agreed (nowhere-closes request)
alike-stranger rows (input ∷ inputs) progress agreed = record { octets = refl; close = refl; query = refl; operations = refl }

-- a request that fails the checks is rejected alike whatever the verdict
pub unsound-closes : (request : Request) (verdict : Verdict) (inputs : List Input) → is_sound_request request ≡ false
    → (taken_inputs verdict Waiting (Requested request ∷ inputs)).step.close ≡ true
unsound-closes request verdict inputs e =
    let closes : is_closed (line Waiting verdict (Requested request)).next ≡ true =
    ap (λ (l : Line). is_closed l.next) (unsound-line request verdict e) ∙ nowhere-closes request in
    rw closes refl

pub alike-unsound : (institution : Option Institution) (verdict : Verdict) (rows : List Row) (request : Request)
    (inputs : List Input) (progress : Progress) (agreed : Option Agreement) → is_sound_request request ≡ false
    → AreAlike None (stranger_answer progress (Requested request ∷ inputs))
    institution (connection_answer institution rows agreed progress.query (taken_inputs verdict Waiting (Requested request ∷ inputs)))
alike-unsound institution verdict rows request inputs progress agreed e = rw (unsound-line request verdict e)
    (rejected-alike institution rows (line Waiting Nowhere (Requested request)) inputs progress agreed (nowhere-closes request))
