-- The connections that are held while a history goes on: who owns each in the end, and which numbers come later.
use Rattle.std.proofs.Common.{◌≡◌, ℕ, ◌==◌, nat_lt, Bool, true, false, List, [], ◌∷◌, ◌++◌, Option, Some, None, refl, sym, arith, append_assoc}
use Rattle.std.specs.List.{AllByRecursion}
use Rattle.std.proofs.lemmas.Bool.Decides.{nat_tests}
use Rattle.dq_core.proofs.isolation.Vocabulary.{Institution, Event, Answer, after_piece, next_page, Connection, new_connection, with_piece, with_query, connection_in, without, ConsoleOrder, Scheduling, Withdrawal, owner, octets_of_pieces, stream_of, is_above, newest_after, rises_from, World, turn, piece_turn, answer_by, end_turn, pull_turn, order_turn}
use Rattle.dq_core.specs.declared.event.Event.TheVariants as event
use Rattle.dq_config.specs.Routing.{institution_named}
use Rattle.dq_core.proofs.isolation.Lists.{differ, NotNumbered, AreApart, found-has, found-number, none-has, each-both, each-weaker, each-append, each-without, each-with, apart-without, apart-opened, apart-with, others-with, others-without}
use Rattle.dq_core.proofs.isolation.Rising.{both-true}

-- no number that is still to be opened
abbrev pub IsBefore : Option ℕ → Connection → Type 0
IsBefore newest c = (number : ℕ) → is_above newest number ≡ true → (c.number == number) ≡ false

above-more : (newest : Option ℕ) (n m : ℕ) → is_above newest n ≡ true → nat_lt n m ≡ true → is_above newest m ≡ true
above-more None n m h k = refl
above-more (Some a) n m h k = grind (arith, nat_tests)

same-number : (n : ℕ) → (n == n) ≡ true
same-number n = grind (arith, nat_tests)

below-differs : (n m : ℕ) → nat_lt n m ≡ true → (n == m) ≡ false
below-differs n m h = grind (arith, nat_tests)

module _ (institutions : List Institution) (Final : ℕ → Option Institution → Type 0) where
  -- what is so of a number and of the owner that its connection has in the end
  abbrev pub Owned : List Event → Connection → Type 0
  Owned rest c = Final c.number (owner institutions (c.stream ++ octets_of_pieces c.number rest))

  -- the owner of a connection, in the end, after the piece that comes next
  pub owned-piece : (n : ℕ) (piece : List ℕ) (rest : List Event) (cs : List Connection) (c : Connection) → connection_in n cs ≡ Some c
      → AllByRecursion (Owned (event.Piece n piece ∷ rest)) cs → Final c.number (owner institutions ((c.stream ++ piece) ++ octets_of_pieces c.number rest))
  owned-piece n piece rest cs c e each =
      let same : (c.number == n) ≡ true = rw (found-number n cs c e) (same-number n) in
      rw (append_assoc c.stream piece (octets_of_pieces c.number rest)) (rw same at (found-has (Owned (event.Piece n piece ∷ rest)) n cs c e each))

  -- The connections that are held before the rest of a history, each number once, and the numbers that are still to be opened.
  pub record Sound (newest : Option ℕ) (connections : List Connection) (rest : List Event) : Type 0 where
    pub owned : AllByRecursion (Owned rest) connections
    pub apart : AreApart connections
    pub before : AllByRecursion (IsBefore newest) connections
    pub later : (number : ℕ) → is_above newest number ≡ true → Final number (owner institutions (stream_of number rest))
    pub rises : rises_from newest rest ≡ true

  sound-opened : (newest : Option ℕ) (cs : List Connection) (n : ℕ) (rest : List Event) → Sound newest cs (event.Open n ∷ rest)
      → Sound (Some n) (cs ++ new_connection n ∷ []) rest
  sound-opened newest cs n rest s =
      let above = both-true (is_above newest n) (rises_from (Some n) rest) s.rises in
      record {
        owned = each-append (Owned rest) cs (new_connection n) s.owned (rw (same-number n) at (s.later n above.0));
        apart = apart-opened (new_connection n) cs
            (each-weaker (IsBefore newest) (λ d. (n == d.number) ≡ false) (λ d p. differ d.number n (p n above.0)) cs s.before) s.apart;
        before = each-append (IsBefore (Some n)) cs (new_connection n)
            (each-weaker (IsBefore newest) (IsBefore (Some n)) (λ d p m h. p m (above-more newest n m above.0 h)) cs s.before)
            (λ m h. below-differs n m h);
        later = λ m h. rw (differ n m (below-differs n m h)) at (s.later m (above-more newest n m above.0 h));
        rises = above.1;
      }

  -- a piece, or an end, on no connection that is held
  sound-passed : (newest : Option ℕ) (cs : List Connection) (n : ℕ) (piece : List ℕ) (rest : List Event) → connection_in n cs ≡ None
      → Sound newest cs (event.Piece n piece ∷ rest) → Sound newest cs rest
  sound-passed newest cs n piece rest e s = record {
    owned = each-both (Owned (event.Piece n piece ∷ rest)) (NotNumbered n) (Owned rest) (λ d o h. rw h at o) cs s.owned (none-has n cs e);
    apart = s.apart;
    before = s.before;
    later = s.later;
    rises = s.rises;
  }

  sound-ended_none : (newest : Option ℕ) (cs : List Connection) (n : ℕ) (rest : List Event) → connection_in n cs ≡ None
      → Sound newest cs (event.End n ∷ rest) → Sound newest cs rest
  sound-ended_none newest cs n rest e s = record {
    owned = each-both (Owned (event.End n ∷ rest)) (NotNumbered n) (Owned rest) (λ d o h. rw h at o) cs s.owned (none-has n cs e);
    apart = s.apart;
    before = s.before;
    later = s.later;
    rises = s.rises;
  }

  sound-ended : (newest : Option ℕ) (cs : List Connection) (n : ℕ) (rest : List Event) → Sound newest cs (event.End n ∷ rest)
      → Sound newest (without n cs) rest
  sound-ended newest cs n rest s = record {
    owned = others-without (Owned (event.End n ∷ rest)) (Owned rest) n (λ d o h. rw h at o) cs s.apart s.owned;
    apart = apart-without n cs s.apart;
    before = each-without (IsBefore newest) n cs s.before;
    later = s.later;
    rises = s.rises;
  }

  -- a piece on a connection that is held closes it, or joins its stream
  sound-taken : (newest : Option ℕ) (cs : List Connection) (c : Connection) (piece : List ℕ) (rest : List Event) (answer : Answer) (p : Bool)
      → answer.close ≡ p → connection_in c.number cs ≡ Some c → Sound newest cs (event.Piece c.number piece ∷ rest)
      → Sound newest (after_piece c piece answer cs) rest
  sound-taken newest cs c piece rest answer true h e s = rw h (record {
    owned = others-without (Owned (event.Piece c.number piece ∷ rest)) (Owned rest) c.number (λ d o h. rw h at o) cs s.apart s.owned;
    apart = apart-without c.number cs s.apart;
    before = each-without (IsBefore newest) c.number cs s.before;
    later = s.later;
    rises = s.rises;
  })
  sound-taken newest cs c piece rest answer false h e s = rw h (record {
    owned = others-with (Owned (event.Piece c.number piece ∷ rest)) (Owned rest) (with_piece c piece answer.next.query)
        (owned-piece c.number piece rest cs c e s.owned) (λ d o h. rw h at o) cs s.apart s.owned;
    apart = apart-with (with_piece c piece answer.next.query) cs s.apart;
    before = each-with (IsBefore newest) (with_piece c piece answer.next.query) cs (found-has (IsBefore newest) c.number cs c e s.before) s.before;
    later = s.later;
    rises = s.rises;
  })

  sound-piece : (newest : Option ℕ) (world : World) (n : ℕ) (piece : List ℕ) (rest : List Event) (o : Option Connection)
      → connection_in n world.connections ≡ o → Sound newest world.connections (event.Piece n piece ∷ rest)
      → Sound newest (piece_turn institutions world piece o).connections rest
  sound-piece newest world n piece rest None e s = sound-passed newest world.connections n piece rest e s
  sound-piece newest world n piece rest (Some c) e s =
      let same : n ≡ c.number = sym (found-number n world.connections c e) in
      let answer = answer_by (owner institutions (c.stream ++ piece)) institutions world c piece in
      sound-taken newest world.connections c piece rest answer answer.close refl (rw same at e) (rw same at s)

  -- a pull changes no stream
  sound-pull : (newest : Option ℕ) (world : World) (n : ℕ) (rest : List Event) (o : Option Connection) → connection_in n world.connections ≡ o
      → Sound newest world.connections (event.Pull n ∷ rest) → Sound newest (pull_turn world o).connections rest
  sound-pull newest world n rest None e s = record { owned = s.owned; apart = s.apart; before = s.before; later = s.later; rises = s.rises }
  sound-pull newest world n rest (Some c) e s =
      let cs = world.connections in
      let left = with_query (next_page c.query).query c in record {
        owned = others-with (Owned rest) (Owned rest) left (found-has (Owned rest) n cs c e s.owned) (λ d o h. o) cs s.apart s.owned;
        apart = apart-with left cs s.apart;
        before = each-with (IsBefore newest) left cs (found-has (IsBefore newest) n cs c e s.before) s.before;
        later = s.later;
        rises = s.rises;
      }

  sound-end : (newest : Option ℕ) (world : World) (n : ℕ) (rest : List Event) (o : Option Connection) → connection_in n world.connections ≡ o
      → Sound newest world.connections (event.End n ∷ rest) → Sound newest (end_turn world o).connections rest
  sound-end newest world n rest None e s = sound-ended_none newest world.connections n rest e s
  sound-end newest world n rest (Some c) e s =
      rw (found-number n world.connections c e) (sound-ended newest world.connections n rest s)

  sound-order : (newest : Option ℕ) (world : World) (order : ConsoleOrder) (rest : List Event) (o : Option Institution) → Sound newest world.connections rest
      → Sound newest (order_turn world order o).connections rest
  sound-order newest world order rest None s = s
  sound-order newest world order rest (Some i) s = s

  pub sound-next : (newest : Option ℕ) (world : World) (e : Event) (rest : List Event) → Sound newest world.connections (e ∷ rest)
      → Sound (newest_after newest (e ∷ [])) (turn institutions world e).connections rest
  sound-next newest world (event.Open n) rest s = sound-opened newest world.connections n rest s
  sound-next newest world (event.Piece n piece) rest s = sound-piece newest world n piece rest (connection_in n world.connections) refl s
  sound-next newest world (event.End n) rest s = sound-end newest world n rest (connection_in n world.connections) refl s
  sound-next newest world (event.Pull n) rest s = sound-pull newest world n rest (connection_in n world.connections) refl s
  sound-next newest world (event.Schedule inst octets) rest s = sound-order newest world (Scheduling octets) rest (institution_named institutions inst)
      (record { owned = s.owned; apart = s.apart; before = s.before; later = s.later; rises = s.rises })
  sound-next newest world (event.Withdraw inst id) rest s = sound-order newest world (Withdrawal id) rest (institution_named institutions inst)
      (record { owned = s.owned; apart = s.apart; before = s.before; later = s.later; rises = s.rises })
