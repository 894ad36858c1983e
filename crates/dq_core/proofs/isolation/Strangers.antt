-- Connections that nobody owns.
use Rattle.std.proofs.Common.{arith, ◌≡◌, ℕ, ◌==◌, Bool, true, false, List, [], ◌∷◌, ◌++◌, take, drop, Option, Some, None, refl, sym, ap, ◌∙◌}
use Rattle.std.specs.Prelude.{filter}
use Rattle.std.specs.List.{AllByRecursion}
use Rattle.std.proofs.lemmas.List.{take-append-drop, append-nil}
use Rattle.std.proofs.lemmas.Bool.{false≢true}
use Rattle.dq_core.proofs.isolation.Vocabulary.{Request, inputs, Institution, Event, Row, ConsoleOrder, Scheduling, Withdrawal, request_in, next_page, Connection, with_query, connection_in, owner, owner_by, World, EventEffect, turn, answer_by, owner_turn, piece_turn, end_turn, pull_turn, order_turn, world_after_turn, replies_from, first_world, replies, octets_of_pieces, stream_of, is_on, is_on_connection, replies_at, newest_after, is_well_formed_history, stranger_replies}
use Rattle.dq_core.specs.declared.event.Event.TheVariants as event
use Rattle.dq_config.specs.Routing.{institution_routed, institution_named}
use Rattle.dq_core.proofs.isolation.Lists.{at-number, among, among-opened, among-other_opened, in-among, without-among, without-other, with-among, with-other, piece-among, piece-other, found-number}
use Rattle.dq_core.proofs.isolation.Streams.{AddsInputs, owner_stays}
use Rattle.dq_core.proofs.isolation.Sound.{Owned, Sound, owned-piece, sound-next}
use Rattle.dq_core.proofs.isolation.Promise.{replies-front}

-- the numbers that pass a test are nobody's in the end
abbrev pub IsNobodys : (ℕ → Bool) → ℕ → Option Institution → Type 0
IsNobodys mine number o = mine number ≡ true → o ≡ None

-- the events on connections whose numbers pass a test
abbrev pub is_theirs : (ℕ → Bool) → Event → Bool
is_theirs mine = is_on mine (λ (inst : List ℕ). false)

nobody-by : (o : Option Request) → owner_by [] o ≡ None
unfolding institution_routed
nobody-by None = refl
nobody-by (Some request) = grind arith

-- An event on one of them is answered alike.
record IsAlike (mine : ℕ → Bool) (t u : EventEffect) : Type 0 where
  reply : t.reply ≡ u.reply
  connections : u.connections ≡ among mine t.connections

none-before : AddsInputs → (institutions : List Institution) (stream more : List ℕ) → owner institutions (stream ++ more) ≡ None → (o : Option Institution)
    → owner institutions stream ≡ o → o ≡ None
none-before adds institutions stream more final None e = refl
none-before adds institutions stream more final (Some i) e = let both : None ≡ Some i = sym final ∙ owner_stays adds institutions stream more i e in cc

module _ (institutions : List Institution) (mine : ℕ → Bool) (world : World) where
  module _ (adds : AddsInputs) (other : World) (b : other.connections ≡ among mine world.connections) where
    alike-taken : (c : Connection) (piece : List ℕ) (o p : Option Institution) → mine c.number ≡ true → o ≡ None → p ≡ None
        → IsAlike mine (owner_turn o institutions world c piece) (owner_turn p [] other c piece)
    alike-taken c piece o p m e f = rw (e, f, b) (record {
      reply = refl;
      connections = sym (piece-among mine c piece (answer_by None institutions world c piece) world.connections m);
    })

    alike-piece : (n : ℕ) (piece : List ℕ) (rest : List Event)
        → AllByRecursion (Owned institutions (IsNobodys mine) (event.Piece n piece ∷ rest)) world.connections → mine n ≡ true
        → (o : Option Connection) → connection_in n world.connections ≡ o → IsAlike mine (piece_turn institutions world piece o) (piece_turn [] other piece o)
    alike-piece n piece rest each m None e = record { reply = refl; connections = b }
    alike-piece n piece rest each m (Some c) e =
        let mine_c : mine c.number ≡ true = ap mine (found-number n world.connections c e) ∙ m in
        let final = owned-piece institutions (IsNobodys mine) n piece rest world.connections c e each mine_c in
        alike-taken c piece (owner institutions (c.stream ++ piece)) (owner [] (c.stream ++ piece)) mine_c
        (none-before adds institutions (c.stream ++ piece) (octets_of_pieces c.number rest) final (owner institutions (c.stream ++ piece)) refl)
        (nobody-by (request_in (inputs (c.stream ++ piece))))

    alike-end : (n : ℕ) → mine n ≡ true → (o : Option Connection) → connection_in n world.connections ≡ o
        → IsAlike mine (end_turn world o) (end_turn other o)
    alike-end n m None e = record { reply = refl; connections = b }
    alike-end n m (Some c) e =
        let mine_c : mine c.number ≡ true = ap mine (found-number n world.connections c e) ∙ m in
        record { reply = refl; connections = rw b (sym (without-among mine c.number world.connections mine_c)) }

    alike-pull : (n : ℕ) → mine n ≡ true → (o : Option Connection) → connection_in n world.connections ≡ o
        → IsAlike mine (pull_turn world o) (pull_turn other o)
    alike-pull n m None e = record { reply = refl; connections = b }
    alike-pull n m (Some c) e =
        let mine_c : mine c.number ≡ true = ap mine (found-number n world.connections c e) ∙ m in
        record { reply = refl; connections = rw b (sym (with-among mine (with_query (next_page c.query).query c) world.connections mine_c)) }

    alike : (newest : Option ℕ) (e : Event) (rest : List Event) → Sound institutions (IsNobodys mine) newest world.connections (e ∷ rest)
        → is_theirs mine e ≡ true → IsAlike mine (turn institutions world e) (turn [] other e)
    alike newest (event.Open n) rest s m = rw b (record { reply = refl; connections = sym (among-opened mine n world.connections m) })
    alike newest (event.Piece n piece) rest s m =
        let same : connection_in n other.connections ≡ connection_in n world.connections = rw b (in-among mine n world.connections m) in
        rw same (alike-piece n piece rest s.owned m (connection_in n world.connections) refl)
    alike newest (event.End n) rest s m =
        let same : connection_in n other.connections ≡ connection_in n world.connections = rw b (in-among mine n world.connections m) in
        rw same (alike-end n m (connection_in n world.connections) refl)
    alike newest (event.Pull n) rest s m =
        let same : connection_in n other.connections ≡ connection_in n world.connections = rw b (in-among mine n world.connections m) in
        rw same (alike-pull n m (connection_in n world.connections) refl)
    alike newest other rest s m = absurd (false≢true m)

  -- An event on another leaves them.
  kept-piece : (n : ℕ) (piece : List ℕ) → mine n ≡ false → (o : Option Connection) → connection_in n world.connections ≡ o
      → among mine (piece_turn institutions world piece o).connections ≡ among mine world.connections
  kept-piece n piece m None e = refl
  kept-piece n piece m (Some c) e =
      piece-other mine c piece (answer_by (owner institutions (c.stream ++ piece)) institutions world c piece) world.connections
      (ap mine (found-number n world.connections c e) ∙ m)

  kept-end : (n : ℕ) → mine n ≡ false → (o : Option Connection) → connection_in n world.connections ≡ o
      → among mine (end_turn world o).connections ≡ among mine world.connections
  kept-end n m None e = refl
  kept-end n m (Some c) e = without-other mine c.number world.connections (ap mine (found-number n world.connections c e) ∙ m)

  kept-pull : (n : ℕ) → mine n ≡ false → (o : Option Connection) → connection_in n world.connections ≡ o
      → among mine (pull_turn world o).connections ≡ among mine world.connections
  kept-pull n m None e = refl
  kept-pull n m (Some c) e =
      with-other mine (with_query (next_page c.query).query c) world.connections (ap mine (found-number n world.connections c e) ∙ m)

  kept-order : (order : ConsoleOrder) (o : Option Institution) → among mine (order_turn world order o).connections ≡ among mine world.connections
  kept-order order None = refl
  kept-order order (Some i) = refl

  pub kept : (e : Event) → is_theirs mine e ≡ false → among mine (turn institutions world e).connections ≡ among mine world.connections
  kept (event.Open n) m = among-other_opened mine n world.connections m
  kept (event.Piece n piece) m = kept-piece n piece m (connection_in n world.connections) refl
  kept (event.End n) m = kept-end n m (connection_in n world.connections) refl
  kept (event.Pull n) m = kept-pull n m (connection_in n world.connections) refl
  kept (event.Schedule inst octets) m = kept-order (Scheduling octets) (institution_named institutions inst)
  kept (event.Withdraw inst id) m = kept-order (Withdrawal id) (institution_named institutions inst)

module _ (adds : AddsInputs) (institutions : List Institution) where
  -- the replies at their events are those of a server without institutions
  abbrev AreAlone : (ℕ → Bool) → List Event → World → World → Type 0
  AreAlone mine done world other =
      replies_at (is_theirs mine) done (replies_from institutions world done) ≡ replies_from [] other (filter (is_theirs mine) done)

  strange-at : (mine : ℕ → Bool) (newest : Option ℕ) (world other : World) (e : Event) (done rest : List Event)
      → other.connections ≡ among mine world.connections → Sound institutions (IsNobodys mine) newest world.connections (e ∷ (done ++ rest))
      → ((newest : Option ℕ) (world other : World) → other.connections ≡ among mine world.connections
      → Sound institutions (IsNobodys mine) newest world.connections (done ++ rest) → AreAlone mine done world other)
      → (b : Bool) → is_theirs mine e ≡ b → AreAlone mine (e ∷ done) world other
  strange-at mine newest world other e done rest b s later true m =
      let l = alike institutions mine world adds other b newest e (done ++ rest) s m in
      rw (
        m,
        l.reply,
        later (newest_after newest (e ∷ [])) (world_after_turn world (turn institutions world e)) (world_after_turn other (turn [] other e))
            l.connections (sound-next institutions (IsNobodys mine) newest world e (done ++ rest) s),
      ) refl
  strange-at mine newest world other e done rest b s later false m =
      rw m (later (newest_after newest (e ∷ [])) (world_after_turn world (turn institutions world e)) other (b ∙ sym (kept institutions mine world e m))
      (sound-next institutions (IsNobodys mine) newest world e (done ++ rest) s))

  strange-from : (mine : ℕ → Bool) (done rest : List Event) (newest : Option ℕ) (world other : World)
      → other.connections ≡ among mine world.connections → Sound institutions (IsNobodys mine) newest world.connections (done ++ rest)
      → AreAlone mine done world other
  strange-from mine [] rest newest world other b s = refl
  strange-from mine (e ∷ done) rest newest world other b s =
      strange-at mine newest world other e done rest b s (strange-from mine done rest) (is_theirs mine e) refl

  module _ (rows : List Row) (events : List Event) (number : ℕ) where
    sound-opening : owner institutions (stream_of number events) ≡ None → is_well_formed_history events ≡ true
        → Sound institutions (IsNobodys (λ n. n == number)) None [] events
    sound-opening none w = record {
      owned = tt;
      apart = tt;
      before = tt;
      rises = w;
      later = λ n _ is. ap (λ m. owner institutions (stream_of m events)) (at-number n number is) ∙ none;
    }

    -- the replies on a connection that nobody owns, among the first replies
    pub strange_among : (k : ℕ) → owner institutions (stream_of number events) ≡ None → is_well_formed_history events ≡ true
        → replies_at (is_on_connection number) events (take k (replies institutions rows events))
        ≡ stranger_replies (filter (is_on_connection number) (take k events))
    strange_among k none w =
        replies-front institutions (is_on_connection number) k (first_world rows) events
        ∙ strange-from (λ n. n == number) (take k events) (drop k events) None (first_world rows) (first_world []) refl
        (rw (take-append-drop k events) (sound-opening none w))

    -- and all of them
    pub strange_replies : owner institutions (stream_of number events) ≡ None → is_well_formed_history events ≡ true
        → replies_at (is_on_connection number) events (replies institutions rows events) ≡ stranger_replies (filter (is_on_connection number) events)
    strange_replies none w = strange-from (λ n. n == number) events [] None (first_world rows) (first_world []) refl (rw append-nil (sound-opening none w))
