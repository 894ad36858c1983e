-- What the inputs of one piece are answered on an association is what its conversation says.
use Rattle.std.proofs.Common.{◌≡◌, ℕ, Bool, true, false, if◌then◌else◌, List, [], ◌∷◌, ◌++◌, map, Option, Some, None, refl, sym, ap, ◌∙◌, subst, append_assoc}
use Rattle.std.proofs.lemmas.List.{map-append}
use Rattle.dq_core.proofs.isolation.Vocabulary.{Request, Agreement, Verdict, agreement_of, Input, Requested, Sent, Line, line, answer_octets, is_closed, Institution, limits_of, Progress, Answer, input_answers, line_answer, then_answer, verdict_at, live_of, Output, Octet, Close, World, Arrival, InputAt, NoMessage, sequel, input_arrivals, response_octets_of, exchange, conversation}
use Rattle.dq_assoc.specs.declared.association.State.TheVariants.{Waiting, Open}
use Rattle.dq_assoc.specs.declared.association.Verdict.TheVariants.{Accept}
use Rattle.dq_tables.specs.Rows.{Record, records_after_edits, of, by, after}
use Rattle.dq_core.specs.Services.{service_of_message}
use Rattle.dq_core.specs.Pages.{OpenQuery, reaction}
use Rattle.dq_core.proofs.isolation.Keeping.{Edits}
use Rattle.dq_core.proofs.isolation.Sequels.{unsent, HasMore, nothing-unsent, message-sent, message-more}

-- ---- the inputs of a piece

-- what is done later, unless the connection is closed
abbrev pub unless : Bool → List Output → List Output
unless close later = if close then Close ∷ [] else later

-- what is still done on an association that is open
abbrev pub still : Institution → Agreement → Option OpenQuery → List Arrival → List Output
still i a q later = map Octet (unsent q later) ++ exchange i a later

abbrev pub from_open : Institution → Agreement → Verdict → List Record → Option OpenQuery → List Input → Answer
from_open i a verdict records q xs = input_answers (limits_of i) verdict (record { agreement = Some a; records = records; query = q }) xs

abbrev pub from_wait : Institution → Verdict → List Record → List Input → Answer
from_wait i verdict records xs = input_answers (limits_of i) verdict (record { agreement = None; records = records; query = None }) xs

-- what is open after inputs has pending responses left
pub answers-more : (i : Institution) (a : Agreement) (verdict : Verdict) (records : List Record) (q : Option OpenQuery) (xs : List Input) → HasMore q
    → HasMore (from_open i a verdict records q xs).next.query
answers-more i a verdict records q (Sent m ∷ xs) more =
    let r = reaction q (limits_of i) records a m in
    answers-more i a verdict (records_after_edits r.edits records) r.query xs (message-more (limits_of i) records a m q more)
answers-more i a verdict records q other more = more

-- what inputs bring is answered, and then what comes later
abbrev IsSaid : Institution → Agreement → Verdict → World → List Record → Option OpenQuery → List Input → List Arrival → Type 0
IsSaid i a verdict world records q xs later =
    let x = from_open i a verdict records q xs in
    still i a q (input_arrivals world (map (by i.name) x.changes) xs ++ later) ≡ map Octet x.octets ++ unless x.close (still i a x.next.query later)

pub closed : (i : Institution) (a : Agreement) (q : Option OpenQuery) (told : List Arrival) (outputs : List Output) → HasMore q
    → ((id : ℕ) → sequel id told ≡ (0, NoMessage)) → exchange i a told ≡ outputs → still i a q told ≡ outputs
closed i a q told outputs more f e = ap (λ xs. map Octet xs ++ exchange i a told) (nothing-unsent q told more f) ∙ e

pub open-said : Edits → (i : Institution) (a : Agreement) (verdict : Verdict) (xs : List Input) (world : World) (q : Option OpenQuery) (later : List Arrival)
    → HasMore q → IsSaid i a verdict world (of i.name world.rows) q xs later
open-said lens i a verdict [] world q later more = refl
open-said lens i a verdict (Sent m ∷ xs) world q later more =
    let records = of i.name world.rows in
    let r = reaction q (limits_of i) records a m in
    let next = record world { rows = after (by i.name r.edits) world.rows } in
    let x = from_open i a verdict (records_after_edits r.edits records) r.query xs in
    let told = input_arrivals next (map (by i.name) x.changes) xs ++ later in
    let later_said : IsSaid i a verdict next (records_after_edits r.edits records) r.query xs later =
    subst (λ (rs : List Record). IsSaid i a verdict next rs r.query xs later) (lens i.name r.edits world.rows)
    (open-said lens i a verdict xs next r.query later (message-more (limits_of i) records a m q more))
    in
    let after_it = unless x.close (still i a x.next.query later) in
    let responses = response_octets_of a m (sequel m.command.id told) (service_of_message (limits_of i) records a m).responses in
    sym (append_assoc (map Octet (unsent q (InputAt world (Sent m) ∷ told))) (map Octet responses) (exchange i a told))
    ∙ ap (λ ys. ys ++ exchange i a told) (sym (map-append Octet (unsent q (InputAt world (Sent m) ∷ told)) responses))
    ∙ ap (λ ys. map Octet ys ++ exchange i a told) (message-sent (limits_of i) records a m q world told more)
    ∙ ap (λ ys. ys ++ exchange i a told) (map-append Octet r.octets (unsent r.query told))
    ∙ append_assoc (map Octet r.octets) (map Octet (unsent r.query told)) (exchange i a told)
    ∙ ap (λ ys. map Octet r.octets ++ ys) later_said
    ∙ sym (append_assoc (map Octet r.octets) (map Octet x.octets) after_it)
    ∙ ap (λ ys. ys ++ after_it) (sym (map-append Octet r.octets x.octets))
open-said lens i a verdict (x ∷ xs) world q later more =
    closed i a q (InputAt world x ∷ (input_arrivals world [] xs ++ later)) (map Octet (answer_octets (line Open Accept x).answer) ++ Close ∷ []) more
    (λ id. refl) refl

-- a request, and the inputs after it
abbrev opened_with : Line → Institution → Request → List Arrival → List Output
opened_with l i request later =
    map Octet (answer_octets l.answer) ++ (if is_closed l.next then Close ∷ [] else exchange i (agreement_of request) later)

line-said : (i : Institution) (l : Line) (p : Progress) (y : Answer) (request : Request) (xs : List Input) (world : World) (later : List Arrival) (b : Bool)
    → is_closed l.next ≡ b
    → (exchange i (agreement_of request) (input_arrivals world (map (by i.name) y.changes) xs ++ later)
    ≡ map Octet y.octets ++ unless y.close (still i (agreement_of request) y.next.query later))
    → let x = then_answer (line_answer l p) y in
    opened_with l i request (input_arrivals world (map (by i.name) x.changes) xs ++ later)
    ≡ map Octet x.octets ++ unless x.close (still i (agreement_of request) x.next.query later)
line-said i l p y request xs world later true h f = rw h refl
line-said i l p y request xs world later false h f =
    let after_it = unless y.close (still i (agreement_of request) y.next.query later) in
    rw h (ap (λ ys. map Octet (answer_octets l.answer) ++ ys) f
    ∙ sym (append_assoc (map Octet (answer_octets l.answer)) (map Octet y.octets) after_it)
    ∙ ap (λ ys. ys ++ after_it) (sym (map-append Octet (answer_octets l.answer) y.octets)))

pub request-said : Edits → (institutions : List Institution) (i : Institution) (request : Request) (xs : List Input) (world : World) (later : List Arrival)
    → let verdict = verdict_at i.associations (live_of institutions i.name world.connections) in
    let x = from_wait i verdict (of i.name world.rows) (Requested request ∷ xs) in
    conversation institutions i (input_arrivals world (map (by i.name) x.changes) (Requested request ∷ xs) ++ later)
    ≡ map Octet x.octets ++ unless x.close (still i (agreement_of request) x.next.query later)
request-said lens institutions i request xs world later =
    let verdict = verdict_at i.associations (live_of institutions i.name world.connections) in
    let l = line Waiting verdict (Requested request) in
    let records = of i.name world.rows in
    line-said i l (record { agreement = Some (agreement_of request); records = records; query = None })
    (from_open i (agreement_of request) verdict records None xs) request xs world later (is_closed l.next) refl
    (open-said lens i (agreement_of request) verdict xs world None later tt)

line-more : (l : Line) (p : Progress) (y : Answer) (b : Bool) → is_closed l.next ≡ b → HasMore p.query → HasMore y.next.query
    → HasMore (then_answer (line_answer l p) y).next.query
line-more l p y true h more after_more = rw h more
line-more l p y false h more after_more = rw h after_more

pub request-more : (i : Institution) (verdict : Verdict) (records : List Record) (request : Request) (xs : List Input)
    → HasMore (from_wait i verdict records (Requested request ∷ xs)).next.query
request-more i verdict records request xs =
    let l = line Waiting verdict (Requested request) in
    line-more l (record { agreement = Some (agreement_of request); records = records; query = None })
    (from_open i (agreement_of request) verdict records None xs) (is_closed l.next) refl tt
    (answers-more i (agreement_of request) verdict records None xs tt)
