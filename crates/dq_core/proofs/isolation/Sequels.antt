-- What is left unsent of a C-FIND that is open, and what each message sends of it.
use Rattle.std.proofs.Common.{◌≡◌, ℕ, suc, ◌==◌, ◌+◌, ◌*◌, ◌≤◌, Bool, true, false, nat_le, List, [], ◌∷◌, ◌++◌, length, take, drop, Option, Some, None, refl, sym, ap, ◌∙◌, arith, append_assoc}
use Rattle.std.specs.Option.{option_map_or}
use Rattle.std.proofs.lemmas.Bool.Decides.{nat_tests}
use Rattle.std.proofs.lemmas.Grind.{flat_map-append}
use Rattle.std.proofs.lemmas.List.{append-nil, take-append-drop, length-drop}
use Rattle.std.proofs.Math.Seq.{take-add}
use Rattle.dq_core.proofs.isolation.Vocabulary.{c_cancel, Message, AcceptedContext, Agreement, context_of, Sent, Limits, Record, World, Arrival, InputAt, PageRequest, Next, Cancel, AnotherMessage, NoMessage, sequel, all_responses, responses_in_pages, responses_sent, response_octets_of}
use Rattle.dq_core.specs.Services.{Response, Responses, responses, message_outcome, no_response, service_of_message, served_by}
use Rattle.dq_core.specs.Pages.{OpenQuery, page_length, answered_message_id, response_octets, responses_octets, rest, page, next_page, query_by, reaction, reaction_while, cancel_reaction, first_reaction}

-- ---- the responses of a page, and those after it

le-same-at : (a b c d : ℕ) → (a ≤ b → c ≤ d) → (c ≤ d → a ≤ b) → (p q : Bool) → nat_le a b ≡ p → nat_le c d ≡ q → nat_le a b ≡ nat_le c d
le-same-at a b c d f g true true e k = e ∙ sym k
le-same-at a b c d f g false false e k = e ∙ sym k
le-same-at a b c d f g true false e k = let l : a ≤ b = grind (arith, nat_tests) in let m = f l in absurd (grind (arith, nat_tests, m))
le-same-at a b c d f g false true e k = let l : c ≤ d = grind (arith, nat_tests) in let m = g l in absurd (grind (arith, nat_tests, m))

le-same : (a b c d : ℕ) → (a ≤ b → c ≤ d) → (c ≤ d → a ≤ b) → nat_le a b ≡ nat_le c d
le-same a b c d f g = le-same-at a b c d f g (nat_le a b) (nat_le c d) refl refl

le-dropped : (xs : List Response) (p : ℕ) → nat_le (length (drop page_length xs)) (p * page_length) ≡ nat_le (length xs) (suc p * page_length)
le-dropped xs p =
    le-same (length (drop page_length xs)) (p * page_length) (length xs) (suc p * page_length)
    (λ l. omega (arith, l, length-drop page_length xs)) (λ l. omega (arith, l, length-drop page_length xs))

le-more : (n p : ℕ) → nat_le n page_length ≡ true → nat_le n (suc p * page_length) ≡ true
le-more n p h =
    let few : n ≤ page_length = grind (arith, nat_tests) in
    let more : n ≤ suc p * page_length = omega (arith, few) in grind (arith, nat_tests, more)

in-two : (query : OpenQuery) (xs ys : List Response) → responses_octets query xs ++ responses_octets query ys ≡ responses_octets query (xs ++ ys)
in-two query xs ys = sym (flat_map-append (response_octets query.context query.limit) xs ys)

whole-two : (n : ℕ) (xs ys : List Response) → xs ++ ys ≡ take n xs ++ (drop n xs ++ ys)
whole-two n xs ys = sym (sym (append_assoc (take n xs) (drop n xs) ys) ∙ ap (λ zs. zs ++ ys) (take-append-drop n xs))

take-more : (xs : List Response) (p : ℕ) → take (suc p * page_length) xs ≡ take page_length xs ++ take (p * page_length) (drop page_length xs)
take-more xs p =
    let k : suc p * page_length ≡ page_length + p * page_length = omega arith in
    ap (λ i. take i xs) k ∙ take-add page_length (p * page_length) xs

abbrev after_page : Responses → Responses
after_page r = record r { pending = drop page_length r.pending }

pages-split : (r : Responses) (p : ℕ) (last : List Response) (b : Bool) → nat_le (length r.pending) (suc p * page_length) ≡ b
    → responses_in_pages (suc p) r last ≡ take page_length r.pending ++ responses_in_pages p (after_page r) last
pages-split r p last true k = rw (k, le-dropped r.pending p, k) (whole-two page_length r.pending (r.final ∷ []))
pages-split r p last false k =
    rw (k, le-dropped r.pending p, k)
    (ap (λ xs. xs ++ last) (take-more r.pending p) ∙ append_assoc (take page_length r.pending) (take (p * page_length) (drop page_length r.pending)) last)

split : (r : Responses) (p : ℕ) (n : Next) → responses_sent (suc p) n r ≡ take page_length r.pending ++ responses_sent p n (after_page r)
split r p AnotherMessage = whole-two page_length r.pending (r.final ∷ [])
split r p Cancel = pages-split r p (r.cancelled ∷ []) (nat_le (length r.pending) (suc p * page_length)) refl
split r p NoMessage = pages-split r p [] (nat_le (length r.pending) (suc p * page_length)) refl

-- a page that holds all of them
whole-in : (r : Responses) (p : ℕ) (n : Next) → nat_le (length r.pending) page_length ≡ true → responses_sent (suc p) n r ≡ all_responses r
whole-in r p AnotherMessage h = refl
whole-in r p other h = rw (le-more (length r.pending) p h) refl

-- what is sent after a page
abbrev sent_after : Option OpenQuery → ℕ × Next → List ℕ
sent_after None s = []
sent_after (Some query) s = responses_octets query (responses_sent s.0 s.1 query.left)

page-then : (query : OpenQuery) (s : ℕ × Next) (b : Bool) → nat_le (length query.left.pending) page_length ≡ b
    → responses_octets query (responses_sent (suc s.0) s.1 query.left) ≡ (page query).octets ++ sent_after (page query).query s
page-then query s true h = rw h (ap (responses_octets query) (whole-in query.left s.0 s.1 h) ∙ sym (append-nil (rest query)))
page-then query s false h =
    let r = query.left in
    rw h (ap (responses_octets query) (split r s.0 s.1) ∙ sym (in-two query (take page_length r.pending) (responses_sent s.0 s.1 (after_page r))))

-- what is left unsent of the C-FIND that is open, if one is, and will be sent
abbrev pub unsent : Option OpenQuery → List Arrival → List ℕ
unsent None later = []
unsent (Some query) later = let s = sequel (answered_message_id query) later in responses_octets query (responses_sent s.0 s.1 query.left)

unsent-after : (query : OpenQuery) (later : List Arrival) (b : Bool) → nat_le (length query.left.pending) page_length ≡ b
    → sent_after (page query).query (sequel (answered_message_id query) later) ≡ unsent (page query).query later
unsent-after query later true h = rw h refl
unsent-after query later false h = rw h refl

page-unsent : (query : OpenQuery) (later : List Arrival) → let s = sequel (answered_message_id query) later in
    responses_octets query (responses_sent (suc s.0) s.1 query.left) ≡ (page query).octets ++ unsent (page query).query later
page-unsent query later =
    let b = nat_le (length query.left.pending) page_length in
    page-then query (sequel (answered_message_id query) later) b refl ∙ ap (λ xs. (page query).octets ++ xs) (unsent-after query later b refl)

-- a pull sends the next page
pub pull-unsent : (q : Option OpenQuery) (later : List Arrival) → unsent q (PageRequest ∷ later) ≡ (next_page q).octets ++ unsent (next_page q).query later
pull-unsent None later = refl
pull-unsent (Some query) later = page-unsent query later

-- ---- a C-FIND that is open has pending responses left

abbrev pub HasMore : Option OpenQuery → Type 0
HasMore None = Unit {0}
HasMore (Some query) = nat_le (length query.left.pending) (0 * page_length) ≡ false

page-more : (query : OpenQuery) (b : Bool) → nat_le (length query.left.pending) page_length ≡ b → HasMore (page query).query
page-more query true h = rw h tt
page-more query false h = rw h (le-dropped query.left.pending 0 ∙ h)

pub next-more : (q : Option OpenQuery) → HasMore (next_page q).query
next-more None = tt
next-more (Some query) = page-more query (nat_le (length query.left.pending) page_length) refl

pub nothing-unsent : (q : Option OpenQuery) (later : List Arrival) → HasMore q → ((id : ℕ) → sequel id later ≡ (0, NoMessage)) → unsent q later ≡ []
nothing-unsent None later more f = refl
nothing-unsent (Some query) later more f = rw (f (answered_message_id query), more) refl

-- ---- a message

module _ (limits : Limits) (records : List Record) (a : Agreement) (m : Message) where
  -- a C-CANCEL has no responses
  none-served : (m.command.code == c_cancel) ≡ true → (service_of_message limits records a m).responses ≡ None
  unfolding service_of_message
  none-served h = rw h refl

  -- the final response has the message's id
  id-on : (o : Option AcceptedContext) (r : Responses)
      → (option_map_or (λ (context : AcceptedContext). served_by context m.command (message_outcome a context limits m records)) o no_response).responses ≡ Some r
      → r.final.0.id ≡ m.command.id
  id-on None r e = cc
  id-on (Some context) r e =
      let told = responses context m.command (message_outcome a context limits m records).0 in
      let same : told ≡ r = cc in sym (ap (λ (x : Responses). x.final.0.id) same)

  id-by : (r : Responses) (b : Bool) → (m.command.code == c_cancel) ≡ b → (service_of_message limits records a m).responses ≡ Some r → r.final.0.id ≡ m.command.id
  unfolding service_of_message
  id-by r true h e = let none : None ≡ Some r = rw h at e in cc
  id-by r false h e = id-on (context_of a m.context) r (rw h at e)

  id-served : (r : Responses) → (service_of_message limits records a m).responses ≡ Some r → r.final.0.id ≡ m.command.id
  id-served r e = id-by r (m.command.code == c_cancel) refl e

  -- the first page of its responses, and what is sent after it
  first-said : (later : List Arrival) (o : Option Responses) → (service_of_message limits records a m).responses ≡ o → let first = next_page (query_by a m o) in
      response_octets_of a m (sequel m.command.id later) o ≡ first.octets ++ unsent first.query later
  first-said later None e = refl
  first-said later (Some r) e =
      let query : OpenQuery = record { context = m.context; limit = a.limit; left = r } in
      ap (λ id. response_octets_of a m (sequel id later) (Some r)) (sym (id-served r e)) ∙ page-unsent query later

  -- what a message sends while a C-FIND is open, or none
  abbrev IsSent : Option OpenQuery → World → List Arrival → Type 0
  IsSent q world later =
      let r = reaction q limits records a m in
      unsent q (InputAt world (Sent m) ∷ later) ++ response_octets_of a m (sequel m.command.id later) (service_of_message limits records a m).responses
      ≡ r.octets ++ unsent r.query later

  cancel-sent : (query : OpenQuery) (world : World) (later : List Arrival) (b : Bool) → HasMore (Some query) → (m.command.code == c_cancel) ≡ true
      → (m.command.id == answered_message_id query) ≡ b → IsSent (Some query) world later
  unfolding reaction
  cancel-sent query world later true more h k = rw (h, k, none-served h, more) refl
  cancel-sent query world later false more h k = rw (h, k, none-served h) (append-nil (unsent (Some query) later))

  other-sent : (query : OpenQuery) (world : World) (later : List Arrival) → HasMore (Some query) → (m.command.code == c_cancel) ≡ false
      → IsSent (Some query) world later
  unfolding reaction
  other-sent query world later more h =
      let service = service_of_message limits records a m in
      let first = next_page (query_by a m service.responses) in
      rw h (ap (λ xs. rest query ++ xs) (first-said later service.responses refl) ∙ sym (append_assoc (rest query) first.octets (unsent first.query later)))

  sent-at : (query : OpenQuery) (world : World) (later : List Arrival) (b : Bool) → HasMore (Some query) → (m.command.code == c_cancel) ≡ b
      → IsSent (Some query) world later
  sent-at query world later true more h = cancel-sent query world later (m.command.id == answered_message_id query) more h refl
  sent-at query world later false more h = other-sent query world later more h

  pub message-sent : (q : Option OpenQuery) (world : World) (later : List Arrival) → HasMore q → IsSent q world later
  unfolding reaction
  message-sent None world later more = first-said later (service_of_message limits records a m).responses refl
  message-sent (Some query) world later more = sent-at query world later (m.command.code == c_cancel) more refl

  -- and what is then open has pending responses left
  cancel-more : (query : OpenQuery) (b : Bool) → (m.command.id == answered_message_id query) ≡ b → HasMore (Some query)
      → HasMore (cancel_reaction m.command.id query).query
  cancel-more query true k more = rw k tt
  cancel-more query false k more = rw k more

  more-while : (query : OpenQuery) (b : Bool) → (m.command.code == c_cancel) ≡ b → HasMore (Some query)
      → HasMore (reaction_while (Some query) m (first_reaction a m (service_of_message limits records a m))).query
  more-while query true h more = rw h (cancel-more query (m.command.id == answered_message_id query) refl more)
  more-while query false h more = rw h (next-more (query_by a m (service_of_message limits records a m).responses))

  pub message-more : (q : Option OpenQuery) → HasMore q → HasMore (reaction q limits records a m).query
  unfolding reaction
  message-more None more = next-more (query_by a m (service_of_message limits records a m).responses)
  message-more (Some query) more = more-while query (m.command.code == c_cancel) refl more
