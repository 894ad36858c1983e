-- Connections under other numbers: the plain server, and that of one institution alone, answer the same under these.
use Rattle.std.proofs.Common.{arith, ◌≡◌, ℕ, ◌<◌, ◌==◌, nat_lt, Bool, true, false, if◌then◌else◌, List, [], ◌∷◌, ◌++◌, map, length, Option, Some, None, ◌⊎◌, inl, inr, refl, sym, ap, ◌∙◌}
use Rattle.std.specs.Prelude.{filter, option_map, is_some}
use Rattle.std.proofs.lemmas.Bool.{cases_order}
use Rattle.std.proofs.lemmas.Bool.Decides.{nat_tests}
use Rattle.dq_core.proofs.isolation.Vocabulary.{inputs, Institution, Limits, limits_of, Row, Event, Reply, next_page, Answer, request_in, after_piece, Connection, new_connection, with_piece, with_query, connection_in, without, with_connection, owner, is_institution, World, EventEffect, quiet_turn, answer_by, owner_turn, piece_turn, end_turn, pull_turn, ordered_turn, order_turn, turn, world_after_turn, replies_from, world_from, first_world, replies, world_after, AloneWorld, AloneTurn, alone_quiet, alone_answer, alone_piece, alone_end, alone_pull, alone_order, alone_turn, alone_after_turn, alone_replies_from, alone_world_from, alone_opening, alone_replies, alone_after, octets_of_pieces, stream_of, owns, is_own_event, own, replies_at, is_above, rises_from, is_well_formed_history}
use Rattle.dq_config.specs.Routing.{institution_named}
use Rattle.dq_tables.specs.Rows.{Record, of}
use Rattle.dq_core.specs.declared.event.Event.TheVariants as event
use Rattle.dq_core.specs.declared.event.Reply.TheVariants as reply
use Rattle.dq_core.specs.Services.{ConsoleOrder, Scheduling, Withdrawal, Ordered, console_outcome, order_reply}
use Rattle.dq_core.specs.Renumbering.{KeepsOrder, with_other_number, renumbered_reply}

-- a choice between images is the image of the choice
chosen : {A B : Type 0} (g : A → B) (b : Bool) (x y : A) → (if b then g x else g y) ≡ g (if b then x else y)
chosen g true x y = refl
chosen g false x y = refl

pub map-append : {A B : Type 0} (g : A → B) (xs ys : List A) → map g (xs ++ ys) ≡ map g xs ++ map g ys
map-append g [] ys = refl
map-append g (x ∷ xs) ys = ap (λ zs. g x ∷ zs) (map-append g xs ys)

-- a filter of images, and the replies at them
filter-map : (g : Event → Event) (p q : Event → Bool) → ((e : Event) → q (g e) ≡ p e) → (events : List Event)
    → filter q (map g events) ≡ map g (filter p events)
filter-map g p q same [] = refl
filter-map g p q same (e ∷ events) =
    rw (same e, filter-map g p q same events) (chosen (map g) (p e) (e ∷ filter p events) (filter p events))

at-map : (g : Event → Event) (h : Reply → Reply) (p q : Event → Bool) → ((e : Event) → q (g e) ≡ p e) → (events : List Event) (given : List Reply)
    → replies_at q (map g events) (map h given) ≡ map h (replies_at p events given)
at-map g h p q same [] given = refl
at-map g h p q same (e ∷ events) [] = refl
at-map g h p q same (e ∷ events) (r ∷ given) =
    rw (same e, at-map g h p q same events given) (chosen (map h) (p e) (r ∷ replies_at p events given) (replies_at p events given))

module _ (another : ℕ → ℕ) (keeps : KeepsOrder another) where
  equal-at : (a b : ℕ) → (a ≡ b) ⊎ ((a < b) ⊎ (b < a)) → (another a == another b) ≡ (a == b)
  equal-at a b (inl e) = rw e (grind (arith, nat_tests))
  equal-at a b (inr (inl l)) = let h : another a < another b = keeps a b l in grind (arith, nat_tests)
  equal-at a b (inr (inr l)) = let h : another b < another a = keeps b a l in grind (arith, nat_tests)

  -- the other numbers are equal where the numbers are, and one is below another where it was
  equal : (a b : ℕ) → (another a == another b) ≡ (a == b)
  equal a b = equal-at a b (cases_order a b)

  below-at : (a b : ℕ) → (a ≡ b) ⊎ ((a < b) ⊎ (b < a)) → nat_lt (another a) (another b) ≡ nat_lt a b
  below-at a b (inl e) = rw e (grind (arith, nat_tests))
  below-at a b (inr (inl l)) = let h : another a < another b = keeps a b l in grind (arith, nat_tests)
  below-at a b (inr (inr l)) = let h : another b < another a = keeps b a l in grind (arith, nat_tests)

  below : (a b : ℕ) → nat_lt (another a) (another b) ≡ nat_lt a b
  below a b = below-at a b (cases_order a b)

  -- connections under their other numbers
  abbrev anew : Connection → Connection
  anew c = record c { number = another c.number }

  in-anew : (n : ℕ) (cs : List Connection) → connection_in (another n) (map anew cs) ≡ option_map anew (connection_in n cs)
  in-anew n [] = refl
  in-anew n (c ∷ cs) = rw (equal c.number n, in-anew n cs) (chosen (option_map anew) (c.number == n) (Some c) (connection_in n cs))

  without-anew : (n : ℕ) (cs : List Connection) → without (another n) (map anew cs) ≡ map anew (without n cs)
  without-anew n [] = refl
  without-anew n (c ∷ cs) = rw (equal c.number n, without-anew n cs) (chosen (map anew) (c.number == n) cs (c ∷ without n cs))

  with-anew : (new : Connection) (cs : List Connection) → with_connection (anew new) (map anew cs) ≡ map anew (with_connection new cs)
  with-anew new [] = refl
  with-anew new (c ∷ cs) =
      rw (equal c.number new.number, with-anew new cs) (chosen (map anew) (c.number == new.number) (new ∷ cs) (c ∷ with_connection new cs))

  piece-anew : (c : Connection) (piece : List ℕ) (answer : Answer) (cs : List Connection)
      → after_piece (anew c) piece answer (map anew cs) ≡ map anew (after_piece c piece answer cs)
  piece-anew c piece answer cs =
      let left = with_piece c piece answer.next.query in
      rw (without-anew c.number cs, with-anew left cs) (chosen (map anew) answer.close (without c.number cs) (with_connection left cs))

  -- of their streams as many pass a test
  count-anew : (p : List ℕ → Bool) (cs : List Connection)
      → length (filter (λ (c : Connection). p c.stream) (map anew cs)) ≡ length (filter (λ (c : Connection). p c.stream) cs)
  count-anew p [] = refl
  count-anew p (c ∷ cs) = grind (arith, count-anew p cs)

  order-anew : (refusal : Option ℕ) → order_reply refusal ≡ renumbered_reply another (order_reply refusal)
  order-anew None = refl
  order-anew (Some number) = refl

  -- the plain server
  abbrev world_anew : World → World
  world_anew world = record { connections = map anew world.connections; rows = world.rows }

  abbrev turn_anew : EventEffect → EventEffect
  turn_anew t = record { reply = renumbered_reply another t.reply; operations = t.operations; connections = map anew t.connections }

  module _ (institutions : List Institution) where
    answer-alike : (o : Option Institution) (world : World) (c : Connection) (piece : List ℕ)
        → answer_by o institutions (world_anew world) (anew c) piece ≡ answer_by o institutions world c piece
    answer-alike None world c piece = refl
    answer-alike (Some i) world c piece = rw (count-anew (λ stream. is_institution i.name (owner institutions stream)) world.connections) refl

    owner-turn_anew : (o : Option Institution) (world : World) (c : Connection) (piece : List ℕ)
        → owner_turn o institutions (world_anew world) (anew c) piece ≡ turn_anew (owner_turn o institutions world c piece)
    owner-turn_anew o world c piece =
        rw (answer-alike o world c piece, piece-anew c piece (answer_by o institutions world c piece) world.connections) refl

    piece-turn_anew : (world : World) (piece : List ℕ) (o : Option Connection)
        → piece_turn institutions (world_anew world) piece (option_map anew o) ≡ turn_anew (piece_turn institutions world piece o)
    piece-turn_anew world piece None = refl
    piece-turn_anew world piece (Some c) = owner-turn_anew (owner institutions (c.stream ++ piece)) world c piece

    end-turn_anew : (world : World) (o : Option Connection) → end_turn (world_anew world) (option_map anew o) ≡ turn_anew (end_turn world o)
    end-turn_anew world None = refl
    end-turn_anew world (Some c) = ap (quiet_turn reply.Done) (without-anew c.number world.connections)

    pull-turn_anew : (world : World) (o : Option Connection) → pull_turn (world_anew world) (option_map anew o) ≡ turn_anew (pull_turn world o)
    pull-turn_anew world None = refl
    pull-turn_anew world (Some c) =
        ap (quiet_turn (reply.Octets (another c.number) (next_page c.query).octets false)) (with-anew (with_query (next_page c.query).query c) world.connections)

    order-turn_anew : (world : World) (order : ConsoleOrder) (o : Option Institution)
        → order_turn (world_anew world) order o ≡ turn_anew (order_turn world order o)
    order-turn_anew world order None = refl
    order-turn_anew world order (Some i) =
        ap (λ (r : Reply). record (ordered_turn i (world_anew world) (console_outcome (limits_of i) (of i.name world.rows) order)) { reply = r })
        (order-anew (console_outcome (limits_of i) (of i.name world.rows) order).refusal)

    turn-alike : (world : World) (e : Event) → turn institutions (world_anew world) (with_other_number another e) ≡ turn_anew (turn institutions world e)
    turn-alike world (event.Open n) = ap (quiet_turn reply.Done) (sym (map-append anew world.connections (new_connection n ∷ [])))
    turn-alike world (event.Piece n piece) =
        rw (in-anew n world.connections) (piece-turn_anew world piece (connection_in n world.connections))
    turn-alike world (event.End n) = rw (in-anew n world.connections) (end-turn_anew world (connection_in n world.connections))
    turn-alike world (event.Pull n) = rw (in-anew n world.connections) (pull-turn_anew world (connection_in n world.connections))
    turn-alike world (event.Schedule inst octets) = order-turn_anew world (Scheduling octets) (institution_named institutions inst)
    turn-alike world (event.Withdraw inst id) = order-turn_anew world (Withdrawal id) (institution_named institutions inst)

    replies-alike : (world : World) (events : List Event)
        → replies_from institutions (world_anew world) (map (with_other_number another) events)
        ≡ map (renumbered_reply another) (replies_from institutions world events)
    replies-alike world [] = refl
    replies-alike world (e ∷ events) =
        let t = turn institutions world e in
        rw (turn-alike world e) (ap (λ (rs : List Reply). renumbered_reply another t.reply ∷ rs) (replies-alike (world_after_turn world t) events))

    world-alike : (world : World) (events : List Event)
        → world_from institutions (world_anew world) (map (with_other_number another) events) ≡ world_anew (world_from institutions world events)
    world-alike world [] = refl
    world-alike world (e ∷ events) =
        ap (λ (t : EventEffect). world_from institutions (world_after_turn (world_anew world) t) (map (with_other_number another) events)) (turn-alike world e)
        ∙ world-alike (world_after_turn world (turn institutions world e)) events

    pub replies_anew : (rows : List Row) (events : List Event)
        → replies institutions rows (map (with_other_number another) events) ≡ map (renumbered_reply another) (replies institutions rows events)
    replies_anew rows events = replies-alike (first_world rows) events

    pub rows_anew : (rows : List Row) (events : List Event)
        → (world_after institutions rows (map (with_other_number another) events)).rows ≡ (world_after institutions rows events).rows
    rows_anew rows events = ap (λ (w : World). w.rows) (world-alike (first_world rows) events)

  -- the server of one institution alone
  abbrev alone_anew : AloneWorld → AloneWorld
  alone_anew world = record { connections = map anew world.connections; records = world.records }

  abbrev alone_turn_anew : AloneTurn → AloneTurn
  alone_turn_anew t = record { reply = renumbered_reply another t.reply; changes = t.changes; connections = map anew t.connections }

  module _ (limits : Limits) where
    alone-answer_alike : (world : AloneWorld) (c : Connection) (piece : List ℕ)
        → alone_answer limits (alone_anew world) (anew c) piece ≡ alone_answer limits world c piece
    alone-answer_alike world c piece = rw (count-anew (λ stream. is_some (request_in (inputs stream))) world.connections) refl

    alone-piece_anew : (world : AloneWorld) (piece : List ℕ) (o : Option Connection)
        → alone_piece limits (alone_anew world) piece (option_map anew o) ≡ alone_turn_anew (alone_piece limits world piece o)
    alone-piece_anew world piece None = refl
    alone-piece_anew world piece (Some c) =
        rw (alone-answer_alike world c piece, piece-anew c piece (alone_answer limits world c piece) world.connections) refl

    alone-end_anew : (world : AloneWorld) (o : Option Connection) → alone_end (alone_anew world) (option_map anew o) ≡ alone_turn_anew (alone_end world o)
    alone-end_anew world None = refl
    alone-end_anew world (Some c) = ap (alone_quiet reply.Done) (without-anew c.number world.connections)

    alone-pull_anew : (world : AloneWorld) (o : Option Connection) → alone_pull (alone_anew world) (option_map anew o) ≡ alone_turn_anew (alone_pull world o)
    alone-pull_anew world None = refl
    alone-pull_anew world (Some c) =
        ap (alone_quiet (reply.Octets (another c.number) (next_page c.query).octets false)) (with-anew (with_query (next_page c.query).query c) world.connections)

    alone-order_anew : (world : AloneWorld) (o : Ordered) → alone_order (alone_anew world) o ≡ alone_turn_anew (alone_order world o)
    alone-order_anew world o = ap (λ (r : Reply). record (alone_order (alone_anew world) o) { reply = r }) (order-anew o.refusal)

    alone-alike : (world : AloneWorld) (e : Event) → alone_turn limits (alone_anew world) (with_other_number another e) ≡ alone_turn_anew (alone_turn limits world e)
    alone-alike world (event.Open n) = ap (alone_quiet reply.Done) (sym (map-append anew world.connections (new_connection n ∷ [])))
    alone-alike world (event.Piece n piece) =
        rw (in-anew n world.connections) (alone-piece_anew world piece (connection_in n world.connections))
    alone-alike world (event.End n) = rw (in-anew n world.connections) (alone-end_anew world (connection_in n world.connections))
    alone-alike world (event.Pull n) = rw (in-anew n world.connections) (alone-pull_anew world (connection_in n world.connections))
    alone-alike world (event.Schedule inst octets) = alone-order_anew world (console_outcome limits world.records (Scheduling octets))
    alone-alike world (event.Withdraw inst id) = alone-order_anew world (console_outcome limits world.records (Withdrawal id))

    alone-replies_alike : (world : AloneWorld) (events : List Event)
        → alone_replies_from limits (alone_anew world) (map (with_other_number another) events)
        ≡ map (renumbered_reply another) (alone_replies_from limits world events)
    alone-replies_alike world [] = refl
    alone-replies_alike world (e ∷ events) =
        let t = alone_turn limits world e in
        rw (alone-alike world e) (ap (λ (rs : List Reply). renumbered_reply another t.reply ∷ rs) (alone-replies_alike (alone_after_turn world t) events))

    alone-world_alike : (world : AloneWorld) (events : List Event)
        → alone_world_from limits (alone_anew world) (map (with_other_number another) events) ≡ alone_anew (alone_world_from limits world events)
    alone-world_alike world [] = refl
    alone-world_alike world (e ∷ events) =
        ap (λ (t : AloneTurn). alone_world_from limits (alone_after_turn (alone_anew world) t) (map (with_other_number another) events)) (alone-alike world e)
        ∙ alone-world_alike (alone_after_turn world (alone_turn limits world e)) events

    pub alone_replies_anew : (records : List Record) (events : List Event)
        → alone_replies limits records (map (with_other_number another) events) ≡ map (renumbered_reply another) (alone_replies limits records events)
    alone_replies_anew records events = alone-replies_alike (alone_opening records) events

    pub alone-records_anew : (records : List Record) (events : List Event)
        → (alone_after limits records (map (with_other_number another) events)).records ≡ (alone_after limits records events).records
    alone-records_anew records events = ap (λ (w : AloneWorld). w.records) (alone-world_alike (alone_opening records) events)

  -- streams, and whose they are
  pieces-anew : (n : ℕ) (events : List Event) → octets_of_pieces (another n) (map (with_other_number another) events) ≡ octets_of_pieces n events
  pieces-anew n [] = refl
  pieces-anew n (event.Piece m piece ∷ events) = rw (equal n m, pieces-anew n events) refl
  pieces-anew n (event.End m ∷ events) = rw (equal n m, pieces-anew n events) refl
  pieces-anew n (other ∷ events) = pieces-anew n events

  stream-anew : (n : ℕ) (events : List Event) → stream_of (another n) (map (with_other_number another) events) ≡ stream_of n events
  stream-anew n [] = refl
  stream-anew n (event.Open m ∷ events) = rw (equal n m, pieces-anew n events, stream-anew n events) refl
  stream-anew n (other ∷ events) = stream-anew n events

  module _ (institutions : List Institution) (name : List ℕ) (events : List Event) where
    owned-anew : (n : ℕ) → owns institutions name (map (with_other_number another) events) (another n) ≡ owns institutions name events n
    owned-anew n = ap (λ stream. is_institution name (owner institutions stream)) (stream-anew n events)

    is-own_anew : (e : Event) → is_own_event institutions name (map (with_other_number another) events) (with_other_number another e) ≡ is_own_event institutions name events e
    is-own_anew (event.Open n) = owned-anew n
    is-own_anew (event.Piece n piece) = owned-anew n
    is-own_anew (event.End n) = owned-anew n
    is-own_anew (event.Pull n) = owned-anew n
    is-own_anew other = refl

    pub own_anew : own institutions name (map (with_other_number another) events) ≡ map (with_other_number another) (own institutions name events)
    own_anew =
        filter-map (with_other_number another) (is_own_event institutions name events) (is_own_event institutions name (map (with_other_number another) events)) is-own_anew events

    pub at_anew : (given : List Reply)
        → replies_at (is_own_event institutions name (map (with_other_number another) events)) (map (with_other_number another) events) (map (renumbered_reply another) given)
        ≡ map (renumbered_reply another) (replies_at (is_own_event institutions name events) events given)
    at_anew given =
        at-map (with_other_number another) (renumbered_reply another) (is_own_event institutions name events)
        (is_own_event institutions name (map (with_other_number another) events)) is-own_anew events given

  -- opened numbers rise as they did
  above-anew : (newest : Option ℕ) (n : ℕ) → is_above (option_map another newest) (another n) ≡ is_above newest n
  above-anew None n = refl
  above-anew (Some m) n = below m n

  rises-anew : (newest : Option ℕ) (events : List Event) → rises_from (option_map another newest) (map (with_other_number another) events) ≡ rises_from newest events
  rises-anew newest [] = refl
  rises-anew newest (event.Open n ∷ events) = rw (above-anew newest n, rises-anew (Some n) events) refl
  rises-anew newest (other ∷ events) = rises-anew newest events

  pub formed_anew : (events : List Event) → is_well_formed_history (map (with_other_number another) events) ≡ is_well_formed_history events
  formed_anew events = rises-anew None events
