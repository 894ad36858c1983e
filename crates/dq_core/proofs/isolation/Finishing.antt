-- Where all responses are sent, pulls only cut them into pages.
use Rattle.std.proofs.Common.{◌≡◌, ℕ, suc, ◌*◌, nat_le, true, List, [], ◌∷◌, ◌++◌, map, length, Option, Some, None, inl, inr, refl, sym, ap, ◌∙◌}
use Rattle.std.specs.List.{flat_map}
use Rattle.dq_core.proofs.isolation.Vocabulary.{Message, Agreement, Sent, line, answer_octets, Institution, limits_of, page_length, Output, Octet, Close, Arrival, InputAt, PageRequest, ConnectionEnd, Next, Cancel, AnotherMessage, NoMessage, sequel, all_responses, responses_in_pages, responses_sent, response_octets_of, exchange, AreAllSent, AreFinished, without_page_requests}
use Rattle.dq_dimse.specs.Sending.{message_pdus}
use Rattle.dq_assoc.specs.declared.association.State.TheVariants.{Open}
use Rattle.dq_assoc.specs.declared.association.Verdict.TheVariants.{Accept}
use Rattle.dq_tables.specs.Rows.{of}
use Rattle.dq_core.specs.Services.{Response, Responses, service_of_message}

-- all responses to a message
abbrev whole_octets : Agreement → Message → Option Responses → List ℕ
whole_octets a m None = []
whole_octets a m (Some r) = flat_map (λ (x : Response). message_pdus m.context x.0 x.1 a.limit) (all_responses r)

-- an exchange without pages
abbrev in_full : Institution → Agreement → List Arrival → List Output
in_full i a (PageRequest ∷ later) = in_full i a later
in_full i a (InputAt world (Sent m) ∷ later) =
    map Octet (whole_octets a m (service_of_message (limits_of i) (of i.name world.rows) a m).responses) ++ in_full i a later
in_full i a (InputAt world input ∷ later) = map Octet (answer_octets (line Open Accept input).answer) ++ Close ∷ []
in_full i a other = []

held-whole : (r : Responses) (pages : ℕ) (instead : List Response) → nat_le (length r.pending) (pages * page_length) ≡ true
    → responses_in_pages pages r instead ≡ all_responses r
held-whole r pages instead h = rw h refl

held-sent : (r : Responses) (pages : ℕ) (n : Next) → nat_le (length r.pending) (pages * page_length) ≡ true → responses_sent pages n r ≡ all_responses r
held-sent r pages AnotherMessage h = refl
held-sent r pages Cancel h = held-whole r pages (r.cancelled ∷ []) h
held-sent r pages NoMessage h = held-whole r pages [] h

whole-sent : (a : Agreement) (m : Message) (s : ℕ × Next) (o : Option Responses) → AreAllSent s o → response_octets_of a m s o ≡ whole_octets a m o
whole-sent a m s None h = refl
whole-sent a m s (Some r) (inl another) =
    ap (λ n. flat_map (λ (x : Response). message_pdus m.context x.0 x.1 a.limit) (responses_sent (suc s.0) n r)) another
whole-sent a m s (Some r) (inr held) =
    ap (flat_map (λ (x : Response). message_pdus m.context x.0 x.1 a.limit)) (held-sent r (suc s.0) s.1 held)

finished-full : (i : Institution) (a : Agreement) (xs : List Arrival) → AreFinished i a xs → exchange i a xs ≡ in_full i a xs
finished-full i a (PageRequest ∷ later) h = finished-full i a later h
finished-full i a (InputAt world (Sent m) ∷ later) h =
    let o = (service_of_message (limits_of i) (of i.name world.rows) a m).responses in
    ap (λ xs. map Octet xs ++ exchange i a later) (whole-sent a m (sequel m.command.id later) o h.0)
    ∙ ap (λ xs. map Octet (whole_octets a m o) ++ xs) (finished-full i a later h.1)
finished-full i a other h = refl

full-without : (i : Institution) (a : Agreement) (xs : List Arrival) → in_full i a xs ≡ in_full i a (without_page_requests xs)
full-without i a (PageRequest ∷ later) = full-without i a later
full-without i a (InputAt world (Sent m) ∷ later) =
    ap (λ xs. map Octet (whole_octets a m (service_of_message (limits_of i) (of i.name world.rows) a m).responses) ++ xs) (full-without i a later)
full-without i a other = refl

pub cut_alike : (i : Institution) (a : Agreement) (xs ys : List Arrival) → AreFinished i a xs → AreFinished i a ys
    → without_page_requests xs ≡ without_page_requests ys → exchange i a xs ≡ exchange i a ys
cut_alike i a xs ys h k e =
    finished-full i a xs h ∙ full-without i a xs ∙ ap (in_full i a) e ∙ sym (full-without i a ys) ∙ sym (finished-full i a ys k)
