-- What a message is answered with and changes, by its service.
use Rattle.std.proofs.Common.{◌≡◌, ℕ, Bool, true, false, ◌==◌, List, [], ◌∷◌, ◌++◌, map, find, Option, Some, None, option_map, ◌⊎◌, inl, refl, sym, ap, subst, ◌∙◌, if◌then◌else◌, append_assoc, arith}
use Rattle.std.proofs.lemmas.List.{append-nil}
use Rattle.std.proofs.lemmas.Bool.Decides.{nat_tests}
use Rattle.dq_dimse.specs.declared.assembler.Accepted.{Accepted}
use Rattle.dq_dimse.specs.declared.command.Command.{Command}
use Rattle.dq_dimse.specs.declared.command.Message.{Message as HeldMessage}
use Rattle.dq_dimse.specs.Holding.{Refines, RefinesOn, accepted_with}
use Rattle.dq_dimse.specs.Received.{Message}
use Rattle.dq_dimse.specs.CommandFields.{c_cancel}
use Rattle.dq_assoc.specs.declared.agreement.AcceptedContext.{AcceptedContext}
use Rattle.dq_assoc.specs.declared.agreement.Agreement.{Agreement}
use Rattle.dq_assoc.specs.Holding.{accepted_by, assembler_context}
use Rattle.dq_assoc.specs.Negotiation.{context_of}
use Rattle.dq_config.specs.declared.config.Institution.{Institution}
use Rattle.dq_config.specs.Limits.{limits_of}
use Rattle.dq_match.specs.declared.responses.Found.{Found}
use Rattle.dq_tables.specs.declared.row.Row.{Row}
use Rattle.dq_tables.specs.Rows.{of, by, after, Operation, after_all}
use Rattle.dq_core.specs.Services.{responses, status_alone, message_outcome, service_of_message}
use Rattle.dq_core.specs.Pages.{OpenQuery, answered_message_id, rest, page, cancel_reaction, reaction}
use Rattle.dq_core.specs.Stepping.{IsPartOf}
use Rattle.dq_core.specs.Queries.{command_octets}
use Rattle.dq_core.specs.Effects.{AnswerApplied, AnswerPartlyApplied, served_answer}
use Rattle.dq_core.proofs.Sending.{final-sent}

-- the context that is found under an id has it
found_id : (id : ℕ) (cs : List AcceptedContext) (c : AcceptedContext) → find (λ (x : AcceptedContext). x.id == id) cs ≡ Some c → c.id ≡ id
found_id id [] c e = cc
found_id id (d ∷ cs) c e = grind (arith, nat_tests, found_id id cs c)

module _ (i : Institution) (a : Agreement) (m : Message) where
  -- what is done for the message while a C-FIND is open, or none
  abbrev Does : Option OpenQuery → List Row → List Row → List ℕ → List ℕ → Option OpenQuery → Type 0
  Does query r0 r1 x0 x1 next = AnswerApplied (Some i) (served_answer (limits_of i) a (of i.name r0) query m) r0 r1 x0 x1 next

  abbrev DoesPart : Option OpenQuery → List Row → List Row → (List Row → Type 0) → Type 0
  DoesPart query r0 r1 IsLeft = AnswerPartlyApplied (Some i) (served_answer (limits_of i) a (of i.name r0) query m) r0 r1 IsLeft

  -- a message that has no response
  stray-by : (r : List Row) (x : List ℕ) (b : Bool) → (m.command.code == c_cancel) ≡ b → context_of a m.context ≡ None → Does None r r x x None
  unfolding service_of_message reaction
  stray-by r x true h e = rw h (record { octets = sym (append-nil x); rows = refl; query = refl })
  stray-by r x false h e = rw (h, e) (record { octets = sym (append-nil x); rows = refl; query = refl })

  pub did-stray : (r : List Row) (x : List ℕ) → context_of a m.context ≡ None → Does None r r x x None
  did-stray r x e = stray-by r x (m.command.code == c_cancel) refl e

  module _ (c : AcceptedContext) (e : context_of a m.context ≡ Some c) where
    pub did-cancel : (r : List Row) (x : List ℕ) → (m.command.code == c_cancel) ≡ true → Does None r r x x None
    unfolding service_of_message reaction
    did-cancel r x h = rw h (record { octets = sym (append-nil x); rows = refl; query = refl })

    -- the responses to the message, of which none was sent
    abbrev unsent : Command → Found → OpenQuery
    unsent command found = record { context = c.id; limit = a.limit; left = responses c command found }

    -- a message was served: its edits were made, and the first page of its responses was sent
    pub did-served : (r0 r1 : List Row) (x0 x1 : List ℕ) (found : Found) (query : OpenQuery) (next : Option OpenQuery)
        → (m.command.code == c_cancel) ≡ false
        → found ≡ (message_outcome a c (limits_of i) m (of i.name r0)).0 → r1 ≡ after (by i.name (message_outcome a c (limits_of i) m (of i.name r0)).1) r0
        → query ≡ unsent m.command found → x1 ≡ x0 ++ (page query).octets → next ≡ (page query).query → Does None r0 r1 x0 x1 next
    unfolding service_of_message reaction
    did-served r0 r1 x0 x1 found query next h answered done sent added left =
        let there = found_id m.context a.contexts c e in
        let of_message : OpenQuery =
        record { context = m.context; limit = a.limit; left = responses c m.command (message_outcome a c (limits_of i) m (of i.name r0)).0 } in
        let same : query ≡ of_message =
        sent ∙ ap (λ (n : ℕ). record { context = n; limit = a.limit; left = responses c m.command found }) there
        ∙ ap (λ (f : Found). record { context = m.context; limit = a.limit; left = responses c m.command f }) answered in
        rw (e, h) (record {
          octets = added ∙ ap (λ (q : OpenQuery). x0 ++ (page q).octets) same;
          rows = done;
          query = left ∙ ap (λ (q : OpenQuery). (page q).query) same;
        })

    -- a message was served, and a status without answers was sent
    pub did-status : (r0 r1 : List Row) (x0 x1 : List ℕ) (status : ℕ) → (m.command.code == c_cancel) ≡ false
        → status_alone status ≡ (message_outcome a c (limits_of i) m (of i.name r0)).0
        → r1 ≡ after (by i.name (message_outcome a c (limits_of i) m (of i.name r0)).1) r0
        → x1 ≡ x0 ++ command_octets c a.limit m.command status false → Does None r0 r1 x0 x1 None
    did-status r0 r1 x0 x1 status h answered done added =
        did-served r0 r1 x0 x1 (status_alone status) (unsent m.command (status_alone status)) None h answered done refl
        (final-sent x0 x1 (command_octets c a.limit m.command status false) added) refl

    -- its edits were made, and not all of what answers it could be sent
    pub part-served : (r0 r1 : List Row) (IsLeft : List Row → Type 0) → (m.command.code == c_cancel) ≡ false
        → r1 ≡ after (by i.name (message_outcome a c (limits_of i) m (of i.name r0)).1) r0 → ((r : List Row) → IsLeft r → r ≡ r1)
        → DoesPart None r0 r1 IsLeft
    unfolding service_of_message reaction
    part-served r0 r1 IsLeft h done only = rw (e, h) (record {
      done = by i.name (message_outcome a c (limits_of i) m (of i.name r0)).1 ∷ [];
      later = [];
      whole = refl;
      made = done;
      crash = λ r left. inl (only r left);
    })

    -- its edits were not made
    pub part-unserved : (r0 r1 : List Row) (IsLeft : List Row → Type 0) → (m.command.code == c_cancel) ≡ false → r1 ≡ r0
        → ((r : List Row) → IsLeft r → (r ≡ r0) ⊎ (r ≡ after (by i.name (message_outcome a c (limits_of i) m (of i.name r0)).1) r0))
        → DoesPart None r0 r1 IsLeft
    unfolding service_of_message reaction
    part-unserved r0 r1 IsLeft h same crash = rw (e, h, same) (record {
      done = [];
      later = by i.name (message_outcome a c (limits_of i) m (of i.name r0)).1 ∷ [];
      whole = refl;
      made = refl;
      crash = crash;
    })

  -- ---- while a C-FIND is open

  module _ (q : OpenQuery) where
    -- a C-CANCEL changes no row
    no-edits : (id : ℕ) (b : Bool) → (id == answered_message_id q) ≡ b → (cancel_reaction id q).edits ≡ []
    no-edits id true h = rw h refl
    no-edits id false h = rw h refl

    pub did-cancelled : (r : List Row) (x x1 : List ℕ) (next : Option OpenQuery) → (m.command.code == c_cancel) ≡ true
        → x1 ≡ x ++ (cancel_reaction m.command.id q).octets → next ≡ (cancel_reaction m.command.id q).query → Does (Some q) r r x x1 next
    unfolding reaction
    did-cancelled r x x1 next h added left = rw h (record { octets = added; rows = rw (no-edits m.command.id _ refl) refl; query = left })

    -- all that was left was sent, and the message was then served
    pub did-after : (r0 r1 : List Row) (x0 x1 x2 : List ℕ) (next : Option OpenQuery) → (m.command.code == c_cancel) ≡ false → x1 ≡ x0 ++ rest q
        → Does None r0 r1 x1 x2 next → Does (Some q) r0 r1 x0 x2 next
    unfolding reaction
    did-after r0 r1 x0 x1 x2 next h sent d = rw h (record {
      octets = d.octets ∙ ap (λ (x : List ℕ). x ++ (reaction None (limits_of i) (of i.name r0) a m).octets) sent
          ∙ append_assoc x0 (rest q) (reaction None (limits_of i) (of i.name r0) a m).octets;
      rows = d.rows;
      query = d.query;
    })

    pub part-after : (r0 r1 : List Row) (IsLeft : List Row → Type 0) → (m.command.code == c_cancel) ≡ false → DoesPart None r0 r1 IsLeft
        → DoesPart (Some q) r0 r1 IsLeft
    unfolding reaction
    part-after r0 r1 IsLeft h part = rw h part

-- ---- messages that are held

accepted_step : (id : ℕ) (c : AcceptedContext) (found : Option Accepted) (other : Option AcceptedContext) (same : Bool)
    → found ≡ option_map assembler_context other
    → (if same then Some (assembler_context c) else found) ≡ option_map assembler_context (if same then Some c else other)
accepted_step id c found other true e = refl
accepted_step id c found other false e = e

accepted_is : (id : ℕ) (contexts : List AcceptedContext)
    → accepted_with id (map assembler_context contexts) ≡ option_map assembler_context (find (λ (c : AcceptedContext). c.id == id) contexts)
accepted_is id [] = refl
accepted_is id (c ∷ cs) =
    accepted_step id c (accepted_with id (map assembler_context cs)) (find (λ (c : AcceptedContext). c.id == id) cs) (c.id == id) (accepted_is id cs)

module _ (a : Agreement) (held : HeldMessage) (m : Message) (on : RefinesOn (accepted_by a) held m) where
  pub context_stands : (found : Option AcceptedContext) → context_of a held.context ≡ found → context_of a m.context ≡ found
  context_stands found e = ap (context_of a) (sym on.stands.context) ∙ e

  -- the context that the message is on
  pub stands_there : (c : AcceptedContext) → context_of a held.context ≡ Some c → Refines c.syntax held m
  stands_there c e =
      let there : Some on.context ≡ Some (assembler_context c) =
      sym on.found ∙ accepted_is m.context a.contexts ∙ ap (option_map assembler_context) (context_stands (Some c) e) in
      let same : on.context ≡ assembler_context c = cc in
      subst (λ (x : Accepted). Refines x.syntax held m) same on.stands

  pub code_stands : (b : Bool) → (held.command.code == c_cancel) ≡ b → (m.command.code == c_cancel) ≡ b
  code_stands b e = ap (λ (k : Command). k.code == c_cancel) (sym on.stands.command) ∙ e

  -- the responses to it are those to the message
  pub unsent_stands : (c : AcceptedContext) (found : Found) (query : OpenQuery)
      → query ≡ record { context = c.id; limit = a.limit; left = responses c held.command found }
      → query ≡ record { context = c.id; limit = a.limit; left = responses c m.command found }
  unsent_stands c found query e =
      e ∙ ap (λ (k : Command). record { context = c.id; limit = a.limit; left = responses c k found }) on.stands.command

  pub id_stands : m.command.id ≡ held.command.id
  id_stands = sym (ap (λ (k : Command). k.id) on.stands.command)

-- an answer whose operations were all made
pub part-whole : {operations : List Operation} {before after : List Row} {IsLeft : List Row → Type 0} → after ≡ after_all operations before
    → ((r : List Row) → IsLeft r → r ≡ after) → IsPartOf operations before after IsLeft
part-whole {operations = operations} made only =
    record { done = operations; later = []; whole = append-nil operations; made = made; crash = λ r left. inl (only r left) }
