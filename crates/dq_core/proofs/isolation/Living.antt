-- No institution has more associations open than its limit.
use Rattle.std.proofs.Common.{◌≡◌, ℕ, suc, ◌≤◌, ◌<◌, Bool, true, false, nat_le, List, [], ◌∷◌, ◌++◌, length, Option, Some, None, refl, sym, ap, ◌∙◌, arith}
use Rattle.std.specs.Prelude.{filter, Contains}
use Rattle.std.proofs.lemmas.Bool.{false≢true}
use Rattle.std.proofs.lemmas.Bool.Decides.{nat_tests}
use Rattle.std.proofs.lemmas.Slice.Eq.{bytes_eq-Decides}
use Rattle.std.proofs.lemmas.List.{append-nil}
use Rattle.std.proofs.lemmas.List.Elements.{filter-append}
use Rattle.dq_core.proofs.isolation.Vocabulary.{Request, Requested, line, inputs, Institution, Limits, limits_of, Row, is_closed, Event, ConsoleOrder, Scheduling, Withdrawal, request_in, verdict_at, after_piece, OpenQuery, Connection, new_connection, with_piece, with_query, connection_in, without, with_connection, HaveOwnNames, owner, owner_by, is_institution, live_of, World, turn, answer_by, piece_turn, end_turn, pull_turn, order_turn, world_after_turn, world_from, first_world, world_after}
use Rattle.dq_assoc.specs.declared.association.State.TheVariants.{Waiting, Open}
use Rattle.dq_assoc.specs.declared.association.Verdict.TheVariants.{Busy}
use Rattle.dq_config.specs.Routing.{institution_named}
use Rattle.dq_tables.specs.Rows.{of}
use Rattle.dq_core.specs.declared.event.Event.TheVariants as event
use Rattle.dq_core.proofs.isolation.Lists.{found-number}
use Rattle.dq_core.proofs.isolation.Requests.{busy-closes}
use Rattle.dq_core.proofs.isolation.Streams.{AddsInputs, owner_stays, no_input_yet}
use Rattle.dq_core.proofs.isolation.Isolating.{Configured}
use Rattle.dq_core.proofs.isolation.Accepting.{no-inputs, request_accepted}
use Rattle.dq_core.proofs.isolation.Named.{configured}

abbrev count : (Connection → Bool) → List Connection → ℕ
count p cs = length (filter p cs)

module _ (p : Connection → Bool) where
  count-without : (n : ℕ) (cs : List Connection) → count p (without n cs) ≤ count p cs
  count-without n [] = omega arith
  count-without n (c ∷ cs) = grind (arith, nat_tests, count-without n cs)

  -- a connection in place of another
  count-with_other : (new : Connection) (cs : List Connection) → p new ≡ false → count p (with_connection new cs) ≤ count p cs
  count-with_other new [] m = omega arith
  count-with_other new (c ∷ cs) m = grind (arith, nat_tests, count-with_other new cs m)

  count-with : (new : Connection) (cs : List Connection) → count p (with_connection new cs) ≤ suc (count p cs)
  count-with new [] = omega arith
  count-with new (c ∷ cs) = grind (arith, nat_tests, count-with new cs)

  count-with_same : (new d : Connection) (cs : List Connection) → connection_in new.number cs ≡ Some d → p d ≡ true
      → count p (with_connection new cs) ≤ count p cs
  count-with_same new d [] f t = cc
  count-with_same new d (c ∷ cs) f t = grind (arith, nat_tests, count-with_same new d cs)

-- a busy institution rejects a request
room-by : (limit live : ℕ) (b : Bool) (request : Request) → nat_le limit live ≡ b → (line Waiting (verdict_at limit live) (Requested request)).next ≡ Open
    → live < limit
room-by limit live true request h e =
    let open_yet : (line Waiting Busy (Requested request)).next ≡ Open = rw h at e in
    absurd (false≢true (sym (ap is_closed open_yet) ∙ busy-closes request))
room-by limit live false request h e = grind (arith, nat_tests)

request-of : (institutions : List Institution) (o : Option Request) (i : Institution) → owner_by institutions o ≡ Some i
    → (request : Request) × (o ≡ Some request)
request-of institutions None i e = cc
request-of institutions (Some request) i e = (request, refl)

module _ (adds : AddsInputs) (institutions : List Institution) (name : List ℕ) (limits : Limits) (known : Configured institutions name limits) where
  -- what is counted for the institution
  abbrev is_its : Connection → Bool
  is_its c = is_institution name (owner institutions c.stream)

  abbrev IsWithin : List Connection → Type 0
  IsWithin cs = live_of institutions name cs ≤ limits.associations

  module _ (world : World) (within : IsWithin world.connections) where
    -- a piece that makes a connection the institution's was answered while there was room
    has-room : (c : Connection) (piece : List ℕ) (i : Institution) → i.name ≡ name → owner institutions c.stream ≡ None
        → owner institutions (c.stream ++ piece) ≡ Some i → (answer_by (Some i) institutions world c piece).close ≡ false
        → live_of institutions name world.connections < limits.associations
    has-room c piece i n none e h =
        let nothing = no_input_yet adds institutions c.stream piece i none e in
        let request = request-of institutions (request_in (inputs (c.stream ++ piece))) i e in
        let live = live_of institutions i.name world.connections in
        let opens = request_accepted adds (limits_of i) (verdict_at i.associations live) (of i.name world.rows) c piece request.0
        (ap request_in nothing) request.1 h in
        let below : live_of institutions i.name world.connections < i.associations = room-by i.associations live _ request.0 refl opens in
        rw (← known.owner_limits (c.stream ++ piece) i e n, ← n) below

    within-joined : (c : Connection) (piece : List ℕ) (o q : Option Institution) (a b : Bool) → connection_in c.number world.connections ≡ Some c
        → owner institutions (c.stream ++ piece) ≡ o → owner institutions c.stream ≡ q → is_institution name o ≡ a → is_institution name q ≡ b
        → (answer_by o institutions world c piece).close ≡ false → (left : Option OpenQuery)
        → IsWithin (with_connection (with_piece c piece left) world.connections)
    within-joined c piece o q false b f e g h k close left =
        let more = count-with_other is_its (with_piece c piece left) world.connections (ap (is_institution name) e ∙ h) in omega arith
    within-joined c piece o q true true f e g h k close left =
        let more = count-with_same is_its (with_piece c piece left) c world.connections f (ap (is_institution name) g ∙ k) in omega arith
    within-joined c piece None q true false f e g h k close left = absurd (false≢true h)
    within-joined c piece (Some i) None true false f e g h k close left =
        let room = has-room c piece i ((bytes_eq-Decides i.name name).0 h) g e close in
        let more = count-with is_its (with_piece c piece left) world.connections in omega arith
    within-joined c piece (Some i) (Some j) true false f e g h k close left =
        let same : Some j ≡ Some i = sym (owner_stays adds institutions c.stream piece j g) ∙ e in
        absurd (false≢true (sym k ∙ ap (is_institution name) same ∙ h))

    within-piece : (c : Connection) (piece : List ℕ) (p : Bool) → connection_in c.number world.connections ≡ Some c →
        let x = answer_by (owner institutions (c.stream ++ piece)) institutions world c piece in
        x.close ≡ p → IsWithin (after_piece c piece x world.connections)
    within-piece c piece true f h = let less = count-without is_its c.number world.connections in rw h (omega arith)
    within-piece c piece false f h = rw h (within-joined c piece (owner institutions (c.stream ++ piece)) (owner institutions c.stream) _ _
        f refl refl refl refl h _)

    piece-within : (n : ℕ) (piece : List ℕ) (o : Option Connection) → connection_in n world.connections ≡ o
        → IsWithin (piece_turn institutions world piece o).connections
    piece-within n piece None f = within
    piece-within n piece (Some c) f =
        let same : n ≡ c.number = sym (found-number n world.connections c f) in within-piece c piece _ (rw same at f) refl

    end-within : (o : Option Connection) → IsWithin (end_turn world o).connections
    end-within None = within
    end-within (Some c) = let less = count-without is_its c.number world.connections in omega arith

    -- a pull changes no stream
    page-within : (c : Connection) (left : Option OpenQuery) (b : Bool) → connection_in c.number world.connections ≡ Some c → is_its c ≡ b
        → IsWithin (with_connection (with_query left c) world.connections)
    page-within c left true f h = let more = count-with_same is_its (with_query left c) c world.connections f h in omega arith
    page-within c left false f h = let more = count-with_other is_its (with_query left c) world.connections h in omega arith

    pull-within : (n : ℕ) (o : Option Connection) → connection_in n world.connections ≡ o → IsWithin (pull_turn world o).connections
    pull-within n None f = within
    pull-within n (Some c) f =
        let same : n ≡ c.number = sym (found-number n world.connections c f) in page-within c _ _ (rw same at f) refl

    order-within : (order : ConsoleOrder) (o : Option Institution) → IsWithin (order_turn world order o).connections
    order-within order None = within
    order-within order (Some i) = within

    -- a connection that was just opened is nobody's
    opened-within : (n : ℕ) → IsWithin (world.connections ++ new_connection n ∷ [])
    opened-within n =
        let none : is_its (new_connection n) ≡ false = ap (λ xs. is_institution name (owner_by institutions (request_in xs))) no-inputs in
        rw (filter-append is_its world.connections (new_connection n ∷ []), none, append-nil (filter is_its world.connections)) within

    turn-within : (e : Event) → IsWithin (turn institutions world e).connections
    turn-within (event.Open n) = opened-within n
    turn-within (event.Piece n piece) = piece-within n piece (connection_in n world.connections) refl
    turn-within (event.End n) = end-within (connection_in n world.connections)
    turn-within (event.Pull n) = pull-within n (connection_in n world.connections) refl
    turn-within (event.Schedule inst octets) = order-within (Scheduling octets) (institution_named institutions inst)
    turn-within (event.Withdraw inst id) = order-within (Withdrawal id) (institution_named institutions inst)

  from-within : (world : World) (events : List Event) → IsWithin world.connections → IsWithin (world_from institutions world events).connections
  from-within world [] l = l
  from-within world (e ∷ events) l = from-within (world_after_turn world (turn institutions world e)) events (turn-within world l e)

pub live_within : AddsInputs → (institutions : List Institution) (rows : List Row) (events : List Event) (i : Institution) → HaveOwnNames institutions
    → Contains institutions i → live_of institutions i.name (world_after institutions rows events).connections ≤ i.associations
live_within adds institutions rows events i names c =
    from-within adds institutions i.name (limits_of i) (configured institutions i names c) (first_world rows) events (omega arith)
