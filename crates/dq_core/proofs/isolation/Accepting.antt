-- A connection that is held has sent no request yet, or one that was accepted.
use Rattle.std.proofs.Common.{◌≡◌, IsTrue, ℕ, Bool, true, false, option_map, List, [], ◌∷◌, ◌++◌, Option, Some, None, refl, sym, ap, ◌∙◌, subst}
use Rattle.std.specs.Prelude.{IsSome}
use Rattle.std.specs.List.{AllByRecursion}
use Rattle.std.proofs.lemmas.List.{append-nil}
use Rattle.std.proofs.lemmas.Bool.{false≢true}
use Rattle.dq_core.proofs.isolation.Vocabulary.{Request, Verdict, Input, Requested, Sent, line, inputs, Agreement, Institution, Event, Row, Limits, agreement_of, Record, records_after_edits, ConsoleOrder, Scheduling, Withdrawal, Progress, Answer, input_answer, input_answers, then_answer, request_in, progress_of, inputs_added, piece_answer, stranger_answer, after_piece, Connection, new_connection, with_piece, with_query, connection_in, owner, owner_by, is_sound_request, World, turn, answer_by, piece_turn, end_turn, pull_turn, order_turn, world_after_turn, world_from, first_world, world_after}
use Rattle.dq_pdu.specs.Stream.{pdus_within}
use Rattle.dq_assoc.specs.declared.association.State.TheVariants.{Waiting, Open}
use Rattle.dq_core.specs.declared.event.Event.TheVariants as event
use Rattle.dq_config.specs.Routing.{institution_routed, institution_named}
use Rattle.dq_core.specs.Pages.{OpenQuery, next_page, reaction}
use Rattle.dq_core.specs.Accepted.{AreMessageInputs, AreOpen}
use Rattle.dq_core.proofs.isolation.Lists.{found-has, each-append, each-without, each-with}
use Rattle.dq_core.proofs.isolation.Requests.{nowhere-closes, open-line, accept-line}
use Rattle.dq_core.proofs.isolation.Streams.{AddsInputs, added-are, request_in-first}

-- answers that do not close
both-open : (a b : Answer) (p : Bool) → a.close ≡ p → (then_answer a b).close ≡ false → (a.close ≡ false) × (b.close ≡ false)
both-open a b true h k = let t : true ≡ false = rw h at k in cc
both-open a b false h k = (h, rw h at k)

-- inputs that an association that is open has not closed at
open-messages : (limits : Limits) (verdict : Verdict) (records : List Record) (query : Option OpenQuery) (agreement : Agreement) (xs : List Input)
    → (input_answers limits verdict (record { agreement = Some agreement; records = records; query = query }) xs).close ≡ false → AreMessageInputs xs
open-messages limits verdict records query agreement [] h = tt
open-messages limits verdict records query agreement (Sent message ∷ xs) h =
    let r = reaction query limits records agreement message in
    open-messages limits verdict (records_after_edits r.edits records) r.query agreement xs h
open-messages limits verdict records query agreement (x ∷ xs) h = cc

sound-owned : (institutions : List Institution) (request : Request) (i : Institution) (b : Bool) → is_sound_request request ≡ b
    → owner_by institutions (Some request) ≡ Some i → IsTrue (is_sound_request request) × IsSome (institution_routed institutions request.called request.calling)
sound-owned institutions request i true h e = let r : institution_routed institutions request.called request.calling ≡ Some i = rw h at e in (h, rw r refl)
sound-owned institutions request i false h e = let t : None ≡ Some i = rw h at e in cc

-- the inputs that come first
first-open : (institutions : List Institution) (limits : Limits) (verdict : Verdict) (records : List Record) (query : Option OpenQuery) (i : Institution)
    (ys : List Input)
    → owner_by institutions (request_in ys) ≡ Some i
    → (input_answers limits verdict (record { agreement = None; records = records; query = query }) ys).close ≡ false → AreOpen institutions ys
first-open institutions limits verdict records query i [] e h = tt
first-open institutions limits verdict records query i (Requested request ∷ ys) e h =
    let first = input_answer limits verdict (record { agreement = None; records = records; query = query }) (Requested request) in
    let o = both-open first (input_answers limits verdict first.next ys) first.close refl h in
    let s = sound-owned institutions request i (is_sound_request request) refl e in (
      record { sound = s.0; owned = s.1; opens = accept-line request verdict o.0 },
      open-messages limits verdict records query (agreement_of request) ys o.1,
    )
first-open institutions limits verdict records query i (y ∷ ys) e h = cc

more-messages : (xs ys : List Input) → AreMessageInputs xs → AreMessageInputs ys → AreMessageInputs (xs ++ ys)
more-messages [] ys m n = n
more-messages (Sent message ∷ xs) ys m n = more-messages xs ys m n
more-messages (x ∷ xs) ys m n = absurd m

-- inputs that a piece adds
owner-open : (institutions : List Institution) (limits : Limits) (verdict : Verdict) (records : List Record) (query : Option OpenQuery) (i : Institution)
    (xs ys : List Input)
    → AreOpen institutions xs → owner_by institutions (request_in (xs ++ ys)) ≡ Some i
    → (input_answers limits verdict (record { agreement = option_map agreement_of (request_in xs); records = records; query = query }) ys).close ≡ false
    → AreOpen institutions (xs ++ ys)
owner-open institutions limits verdict records query i [] ys a e h = first-open institutions limits verdict records query i ys e h
owner-open institutions limits verdict records query i (Requested request ∷ xs) ys a e h =
    (a.0, more-messages xs ys a.1 (open-messages limits verdict records query (agreement_of request) ys h))
owner-open institutions limits verdict records query i (x ∷ xs) ys a e h = absurd a

-- a stranger's input closes
stranger-open : (progress : Progress) (xs : List Input) → (stranger_answer progress xs).close ≡ false → xs ≡ []
stranger-open progress [] h = refl
stranger-open progress (Requested request ∷ xs) h = absurd (false≢true (sym h ∙ nowhere-closes request))
stranger-open progress (x ∷ xs) h = cc

pub no-inputs : inputs [] ≡ []
unfolding pdus_within
no-inputs = refl

module _ (adds : AddsInputs) (institutions : List Institution) where
  -- a connection that nothing closes
  abbrev IsOpen : Connection → Type 0
  IsOpen c = AreOpen institutions (inputs c.stream)

  still-open : (world : World) (c : Connection) (piece : List ℕ) (o : Option Institution) → owner institutions (c.stream ++ piece) ≡ o → IsOpen c
      → (answer_by o institutions world c piece).close ≡ false → (left : Option OpenQuery) → IsOpen (with_piece c piece left)
  still-open world c piece None e a h left =
      let none = stranger-open (progress_of c []) (inputs_added c.stream piece) h in
      rw (added-are adds c.stream piece, none, append-nil (inputs c.stream)) a
  still-open world c piece (Some i) e a h left =
      let joined = added-are adds c.stream piece in
      rw joined (owner-open institutions _ _ _ _ i (inputs c.stream) (inputs_added c.stream piece) a
      (ap (λ xs. owner_by institutions (request_in xs)) (sym joined) ∙ e) h)

  module _ (world : World) (each : AllByRecursion IsOpen world.connections) where
    piece-joined : (c : Connection) (piece : List ℕ) (x : Answer) (p : Bool) → x.close ≡ p → (x.close ≡ false → (left : Option OpenQuery) → IsOpen (with_piece c piece left))
        → AllByRecursion IsOpen (after_piece c piece x world.connections)
    piece-joined c piece x true h f = rw h (each-without IsOpen c.number world.connections each)
    piece-joined c piece x false h f = rw h (each-with IsOpen (with_piece c piece x.next.query) world.connections (f h x.next.query) each)

    piece-open : (n : ℕ) (piece : List ℕ) (o : Option Connection) → connection_in n world.connections ≡ o
        → AllByRecursion IsOpen (piece_turn institutions world piece o).connections
    piece-open n piece None e = each
    piece-open n piece (Some c) e =
        let o = owner institutions (c.stream ++ piece) in
        let x = answer_by o institutions world c piece in
        piece-joined c piece x x.close refl (still-open world c piece o refl (found-has IsOpen n world.connections c e each))

    end-open : (o : Option Connection) → AllByRecursion IsOpen (end_turn world o).connections
    end-open None = each
    end-open (Some c) = each-without IsOpen c.number world.connections each

    pull-open : (n : ℕ) (o : Option Connection) → connection_in n world.connections ≡ o → AllByRecursion IsOpen (pull_turn world o).connections
    pull-open n None e = each
    pull-open n (Some c) e =
        each-with IsOpen (with_query (next_page c.query).query c) world.connections (found-has IsOpen n world.connections c e each) each

    order-open : (order : ConsoleOrder) (o : Option Institution) → AllByRecursion IsOpen (order_turn world order o).connections
    order-open order None = each
    order-open order (Some i) = each

    turn-open : (e : Event) → AllByRecursion IsOpen (turn institutions world e).connections
    turn-open (event.Open n) = each-append IsOpen world.connections (new_connection n) each (subst (AreOpen institutions) (sym no-inputs) tt)
    turn-open (event.Piece n piece) = piece-open n piece (connection_in n world.connections) refl
    turn-open (event.End n) = end-open (connection_in n world.connections)
    turn-open (event.Pull n) = pull-open n (connection_in n world.connections) refl
    turn-open (event.Schedule inst octets) = order-open (Scheduling octets) (institution_named institutions inst)
    turn-open (event.Withdraw inst id) = order-open (Withdrawal id) (institution_named institutions inst)

  open-from : (world : World) (events : List Event) → AllByRecursion IsOpen world.connections
      → AllByRecursion IsOpen (world_from institutions world events).connections
  open-from world [] each = each
  open-from world (e ∷ events) each = open-from (world_after_turn world (turn institutions world e)) events (turn-open world each e)

  pub held_open : (rows : List Row) (events : List Event) (number : ℕ) (c : Connection)
      → connection_in number (world_after institutions rows events).connections ≡ Some c → AreOpen institutions (inputs c.stream)
  held_open rows events number c e =
      found-has IsOpen number (world_after institutions rows events).connections c e (open-from (first_world rows) events tt)

-- a request that did not close was accepted with the verdict at hand
first-accepted : (limits : Limits) (verdict : Verdict) (records : List Record) (query : Option OpenQuery) (request : Request) (xs : List Input)
    → request_in xs ≡ Some request
    → (input_answers limits verdict (record { agreement = None; records = records; query = query }) xs).close ≡ false → (line Waiting verdict (Requested request)).next ≡ Open
first-accepted limits verdict records query request (Requested r ∷ xs) e h =
    let first = input_answer limits verdict (record { agreement = None; records = records; query = query }) (Requested r) in
    let same : request ≡ r = cc in
    rw same (open-line r verdict (both-open first (input_answers limits verdict first.next xs) first.close refl h).0)
first-accepted limits verdict records query request other e h = cc

no-request-before : (xs ys : List Input) (request : Request) → request_in xs ≡ None → request_in (xs ++ ys) ≡ Some request → xs ≡ []
no-request-before [] ys request e f = refl
no-request-before (x ∷ xs) ys request e f = let same = request_in-first x (xs ++ ys) xs in cc

pub request_accepted : AddsInputs → (limits : Limits) (verdict : Verdict) (records : List Record) (c : Connection) (piece : List ℕ) (request : Request)
    → request_in (inputs c.stream) ≡ None → request_in (inputs (c.stream ++ piece)) ≡ Some request
    → (piece_answer limits verdict records c piece).close ≡ false → (line Waiting verdict (Requested request)).next ≡ Open
request_accepted adds limits verdict records c piece request e f h =
    let stream = c.stream in
    let joined : request_in (inputs stream ++ inputs_added stream piece) ≡ Some request = ap request_in (sym (added-are adds stream piece)) ∙ f in
    let none = no-request-before (inputs stream) (inputs_added stream piece) request e joined in
    first-accepted limits verdict records c.query request (inputs_added stream piece) (ap (λ xs. request_in (xs ++ inputs_added stream piece)) (sym none) ∙ joined)
    (rw e at h)
