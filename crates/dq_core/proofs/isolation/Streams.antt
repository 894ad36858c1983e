-- What a longer stream has: its inputs, its owner, and what its pieces are answered with.
use Rattle.std.proofs.Common.{◌≡◌, ℕ, List, [], ◌∷◌, ◌++◌, length, drop, Option, Some, None, option_map, refl, sym, ap, ◌∙◌, append_assoc}
use Rattle.std.proofs.lemmas.List.{append_cancel_left}
use Rattle.std.proofs.Math.Seq.{drop-append_seam}
use Rattle.dq_core.proofs.isolation.Vocabulary.{Request, Verdict, Input, Requested, Sent, Released, Bad, inputs, AreInputs, Agreement, Institution, Limits, agreement_of, Record, OpenQuery, Connection, with_piece, then_answer, input_answers, request_in, progress_of, inputs_added, piece_answer, owner, owner_by}
use Rattle.dq_core.specs.Effects.{agreement_after}
use Rattle.dq_core.proofs.isolation.AnswerLaws.{answers-append, next-agreement, verdict-unread}

-- a longer stream has further inputs
abbrev pub AddsInputs : Type 0
AddsInputs = (stream more : List ℕ) → (later : List Input) × (inputs (stream ++ more) ≡ inputs stream ++ later)

-- only the first input is a request, and nothing comes after one that closes
abbrev pub HasInputs : Type 0
HasInputs = (stream : List ℕ) → AreInputs (inputs stream)

pub added-are : AddsInputs → (stream piece : List ℕ) → inputs (stream ++ piece) ≡ inputs stream ++ inputs_added stream piece
added-are adds stream piece =
    let a = adds stream piece in
    a.1 ∙ ap (λ later. inputs stream ++ later) (sym (ap (drop (length (inputs stream))) a.1 ∙ drop-append_seam (inputs stream) a.0))

pub added-append : AddsInputs → (stream first second : List ℕ)
    → inputs_added stream (first ++ second) ≡ inputs_added stream first ++ inputs_added (stream ++ first) second
added-append adds stream first second =
    append_cancel_left (inputs stream) (inputs_added stream (first ++ second)) (inputs_added stream first ++ inputs_added (stream ++ first) second)
    (sym (added-are adds stream (first ++ second))
    ∙ ap inputs (sym (append_assoc stream first second))
    ∙ added-are adds (stream ++ first) second
    ∙ ap (λ xs. xs ++ inputs_added (stream ++ first) second) (added-are adds stream first)
    ∙ append_assoc (inputs stream) (inputs_added stream first) (inputs_added (stream ++ first) second))

-- the agreement after inputs in two parts
agreement-longer : (xs ys : List Input) → AreInputs (xs ++ ys)
    → option_map agreement_of (request_in (xs ++ ys)) ≡ agreement_after (option_map agreement_of (request_in xs)) ys
agreement-longer [] [] h = refl
agreement-longer [] (Requested request ∷ ys) h = refl
agreement-longer [] (y ∷ ys) h = refl
agreement-longer (Requested request ∷ xs) ys h = refl
agreement-longer (Sent message ∷ xs) ys h = absurd h
agreement-longer (Released ∷ xs) ys h = absurd h
agreement-longer (Bad reason ∷ xs) ys h = absurd h
agreement-longer (x ∷ xs) [] h = refl
agreement-longer (x ∷ []) (y ∷ ys) h = cc
agreement-longer (x ∷ z ∷ xs) (y ∷ ys) h = cc

progress-longer : AddsInputs → HasInputs → (limits : Limits) (verdict : Verdict) (records : List Record) (c : Connection) (first : List ℕ)
    (query : Option OpenQuery)
    → (piece_answer limits verdict records c first).next.agreement ≡ (progress_of (with_piece c first query) records).agreement
progress-longer adds has limits verdict records c first query =
    let stream = c.stream in
    let whole : AreInputs (inputs stream ++ inputs_added stream first) = rw (sym (added-are adds stream first)) (has (stream ++ first)) in
    next-agreement limits verdict (progress_of c records) (inputs_added stream first)
    ∙ sym (agreement-longer (inputs stream) (inputs_added stream first) whole)
    ∙ ap (λ xs. option_map agreement_of (request_in xs)) (sym (added-are adds stream first))

-- a piece in two parts: the second part is answered from what the first part left
pub piece_in_two : AddsInputs → HasInputs → (limits : Limits) (verdict : Verdict) (records : List Record) (c : Connection) (first second : List ℕ)
    → let a = piece_answer limits verdict records c first in
    piece_answer limits verdict records c (first ++ second)
    ≡ then_answer a (piece_answer limits verdict a.next.records (with_piece c first a.next.query) second)
piece_in_two adds has limits verdict records c first second =
    let stream = c.stream in
    let a = piece_answer limits verdict records c first in
    ap (input_answers limits verdict (progress_of c records)) (added-append adds stream first second)
    ∙ answers-append limits verdict (progress_of c records) (inputs_added stream first) (inputs_added (stream ++ first) second)
    ∙ ap (λ (o : Option Agreement). then_answer a (input_answers limits verdict (record { agreement = o; records = a.next.records; query = a.next.query })
    (inputs_added (stream ++ first) second))) (progress-longer adds has limits verdict records c first a.next.query)

-- the verdict is not read after a request
pub piece_verdict : (limits : Limits) (verdict other : Verdict) (records : List Record) (c : Connection) (piece : List ℕ) (request : Request)
    → request_in (inputs c.stream) ≡ Some request
    → piece_answer limits verdict records c piece ≡ piece_answer limits other records c piece
piece_verdict limits verdict other records c piece request e =
    verdict-unread limits verdict other records c.query (option_map agreement_of (request_in (inputs c.stream))) (agreement_of request)
    (inputs_added c.stream piece)
    (ap (option_map agreement_of) e)

pub request_in-first : (x : Input) (xs ys : List Input) → request_in (x ∷ xs) ≡ request_in (x ∷ ys)
request_in-first (Requested r) xs ys = refl
request_in-first x xs ys = refl

-- once an input came, the owner stays
owner-first : (institutions : List Institution) (xs ys : List Input) (i : Institution) → owner_by institutions (request_in xs) ≡ Some i
    → owner_by institutions (request_in (xs ++ ys)) ≡ Some i
owner-first institutions [] ys i h = cc
owner-first institutions (x ∷ xs) ys i h = ap (owner_by institutions) (request_in-first x (xs ++ ys) xs) ∙ h

pub owner_stays : AddsInputs → (institutions : List Institution) (stream more : List ℕ) (i : Institution) → owner institutions stream ≡ Some i
    → owner institutions (stream ++ more) ≡ Some i
owner_stays adds institutions stream more i h =
    ap (λ xs. owner_by institutions (request_in xs)) (adds stream more).1 ∙ owner-first institutions (inputs stream) (adds stream more).0 i h

none-first : (institutions : List Institution) (xs ys : List Input) (i : Institution) → owner_by institutions (request_in xs) ≡ None
    → owner_by institutions (request_in (xs ++ ys)) ≡ Some i → xs ≡ []
none-first institutions [] ys i h k = refl
none-first institutions (x ∷ xs) ys i h k =
    let e : owner_by institutions (request_in (x ∷ xs)) ≡ Some i = ap (owner_by institutions) (request_in-first x xs (xs ++ ys)) ∙ k in cc

-- a stream that nobody owns yet, and that is owned later, has no input
pub no_input_yet : AddsInputs → (institutions : List Institution) (stream more : List ℕ) (i : Institution) → owner institutions stream ≡ None
    → owner institutions (stream ++ more) ≡ Some i → inputs stream ≡ []
no_input_yet adds institutions stream more i h k =
    none-first institutions (inputs stream) (adds stream more).0 i h (ap (λ xs. owner_by institutions (request_in xs)) (sym (adds stream more).1) ∙ k)

nil-front : (xs ys : List Input) → xs ++ ys ≡ [] → xs ≡ []
nil-front [] ys h = refl
nil-front (x ∷ xs) ys h = cc

-- a stream without inputs has a front without inputs
pub front_without : AddsInputs → (stream more : List ℕ) → inputs (stream ++ more) ≡ [] → inputs stream ≡ []
front_without adds stream more h = nil-front (inputs stream) (adds stream more).0 (sym (adds stream more).1 ∙ h)
