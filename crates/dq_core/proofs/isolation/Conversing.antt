-- A connection over a whole history: what the plain server does on it is its conversation.
use Rattle.std.proofs.Common.{◌≡◌, ℕ, zero, suc, ◌==◌, nat_lt, Bool, true, false, List, [], ◌∷◌, ◌++◌, map, length, take, drop, Option, Some, None, option_map, ◌⊎◌, inl, inr, refl, sym, ap, ◌∙◌, arith, append_assoc}
use Rattle.std.specs.List.{AllByRecursion, flat_map}
use Rattle.std.proofs.lemmas.Bool.Decides.{nat_tests}
use Rattle.std.proofs.lemmas.Bool.{false≢true}
use Rattle.std.proofs.lemmas.List.{append-nil, map-append}
use Rattle.dq_core.proofs.isolation.Vocabulary.{Request, Agreement, agreement_of, Input, Requested, inputs, Institution, Row, Event, Reply, next_page, Answer, no_answer, request_in, progress_of, inputs_added, verdict_at, Connection, new_connection, with_piece, with_query, connection_in, without, owner, owner_by, live_of, is_above, newest_after, rises_from, is_well_formed_history, IsRun, Output, Octet, Close, is_on_connection, octets_of_pieces, stream_of, close_if, outputs_in, outputs_on, World, EventEffect, turn, answer_turn, world_after_turn, world_from, replies_from, first_world, replies, world_after, Arrival, PageRequest, ConnectionEnd, input_arrivals, arrivals_at, arrivals, exchange, conversation, conversation_on, IsAnsweredAt}
use Rattle.dq_tables.specs.Rows.{of, by}
use Rattle.dq_core.specs.declared.event.Event.TheVariants as event
use Rattle.dq_core.proofs.isolation.Lists.{at-number, differ, NotNumbered, found-number, found-has, found-with, left-have, in-among}
use Rattle.dq_core.proofs.isolation.Streams.{AddsInputs, added-are, owner_stays, no_input_yet, front_without, request_in-first}
use Rattle.dq_core.proofs.isolation.Strangers.{kept}
use Rattle.dq_core.proofs.isolation.Promise.{replies-front}
use Rattle.dq_core.proofs.isolation.Sound.{Owned, Sound, IsBefore, owned-piece, sound-next}
use Rattle.dq_core.proofs.isolation.Rising.{both-true}
use Rattle.dq_core.proofs.isolation.Accepting.{no-inputs}
use Rattle.dq_core.proofs.isolation.Keeping.{Edits}
use Rattle.dq_core.proofs.isolation.Sequels.{unsent, HasMore, next-more, pull-unsent}
use Rattle.dq_core.proofs.isolation.Saying.{unless, still, from_open, from_wait, answers-more, closed, open-said, request-said, request-more}

-- ---- lists

dropped-all : (xs : List Input) → drop (length xs) xs ≡ []
dropped-all [] = refl
dropped-all (x ∷ xs) = dropped-all xs

none-in : (number : ℕ) (cs : List Connection) → AllByRecursion (NotNumbered number) cs → connection_in number cs ≡ None
none-in number [] each = refl
none-in number (c ∷ cs) each = rw each.0 (none-in number cs each.1)

found-last : (number : ℕ) (cs : List Connection) (c : Connection) → connection_in number cs ≡ None → (c.number == number) ≡ true
    → connection_in number (cs ++ c ∷ []) ≡ Some c
found-last number [] c none is = rw is refl
found-last number (d ∷ cs) c none is = found-past number d cs c (d.number == number) refl none is (found-last number cs c)
  where
    found-past : (number : ℕ) (d : Connection) (cs : List Connection) (c : Connection) (b : Bool) → (d.number == number) ≡ b
        → connection_in number (d ∷ cs) ≡ None → (c.number == number) ≡ true
        → (connection_in number cs ≡ None → (c.number == number) ≡ true → connection_in number (cs ++ c ∷ []) ≡ Some c)
        → connection_in number ((d ∷ cs) ++ c ∷ []) ≡ Some c
    found-past number d cs c true h none is later = let both : Some d ≡ None = rw h at none in cc
    found-past number d cs c false h none is later = rw h (later (rw h at none) is)

request-stays : (xs ys : List Input) (a : Agreement) → option_map agreement_of (request_in xs) ≡ Some a
    → option_map agreement_of (request_in (xs ++ ys)) ≡ Some a
request-stays [] ys a e = cc
request-stays (x ∷ xs) ys a e = ap (option_map agreement_of) (request_in-first x (xs ++ ys) xs) ∙ e

first-request : (institutions : List Institution) (i : Institution) (xs : List Input) → owner_by institutions (request_in xs) ≡ Some i
    → (request : Request) × (ys : List Input) × (xs ≡ Requested request ∷ ys)
first-request institutions i (Requested request ∷ ys) e = (request, ys, refl)
first-request institutions i other e = cc

above-past : (newest : Option ℕ) (n number : ℕ) → is_above newest n ≡ true → is_above newest number ≡ false → nat_lt n number ≡ false
above-past None n number h k = absurd (false≢true (sym k))
above-past (Some a) n number h k = grind (arith, nat_tests)

-- ---- the events of a history

-- an event that opens no connection
abbrev OpensNone : Event → Type 0
OpensNone (event.Open n) = ⊥
OpensNone e = Unit {0}

module _ (adds : AddsInputs) (lens : Edits) (institutions : List Institution) (rows : List Row) (number : ℕ) (i : Institution) where
  -- the institution owns the connection in the end
  abbrev IsOwned : ℕ → Option Institution → Type 0
  IsOwned n o = (n == number) ≡ true → o ≡ Some i

  abbrev Kept : Option ℕ → World → List Event → Type 0
  Kept newest world rest = Sound institutions IsOwned newest world.connections rest

  abbrev answered : World → List Event → List Output
  answered world events = outputs_on number events (replies_from institutions world events)

  abbrev coming : List Event → List Event → List Arrival
  coming before rest = arrivals institutions rows number before rest

  abbrev next_world : World → Event → World
  next_world world e = world_after_turn world (turn institutions world e)

  world-from : (world : World) (before : List Event) (e : Event) → world_from institutions world (before ++ e ∷ [])
      ≡ next_world (world_from institutions world before) e
  world-from world [] e = refl
  world-from world (d ∷ before) e = world-from (next_world world d) before e

  world-next : (before : List Event) (world : World) (e : Event) → world_after institutions rows before ≡ world
      → world_after institutions rows (before ++ e ∷ []) ≡ next_world world e
  world-next before world e is = world-from (first_world rows) before e ∙ ap (λ w. next_world w e) is

  on-answered : (world : World) (e : Event) (rest : List Event) → is_on_connection number e ≡ true
      → answered world (e ∷ rest) ≡ outputs_in (turn institutions world e).reply ++ answered (next_world world e) rest
  on-answered world e rest m = rw m refl

  off-answered : (world : World) (e : Event) (rest : List Event) → is_on_connection number e ≡ false
      → answered world (e ∷ rest) ≡ answered (next_world world e) rest
  off-answered world e rest m = rw m refl

  same : (number == number) ≡ true
  same = grind (arith, nat_tests)

  -- ---- an event elsewhere

  off-pieces : (e : Event) (more : List Event) → is_on_connection number e ≡ false → octets_of_pieces number (e ∷ more) ≡ octets_of_pieces number more
  off-pieces (event.Piece n p) more m = rw (differ n number m) refl
  off-pieces (event.End n) more m = rw (differ n number m) refl
  off-pieces e more m = refl

  off-stream : (e : Event) (more : List Event) → is_on_connection number e ≡ false → stream_of number (e ∷ more) ≡ stream_of number more
  off-stream (event.Open n) more m = rw (differ n number m) refl
  off-stream e more m = refl

  still-comes : (before : List Event) (n : ℕ) (p : List ℕ) → stream_of number (before ++ event.Piece n p ∷ []) ≡ stream_of number before
      → arrivals_at institutions rows number before (event.Piece n p) ≡ []
  still-comes before n p s =
      let w = world_after institutions rows before in
      let operations = (turn institutions w (event.Piece n p)).operations in
      ap (λ o. input_arrivals w operations (drop (length (inputs (stream_of number before))) (inputs o))) s
      ∙ ap (input_arrivals w operations) (dropped-all (inputs (stream_of number before)))

  off-comes : (before : List Event) (e : Event) → is_on_connection number e ≡ false → stream_of number (before ++ e ∷ []) ≡ stream_of number before
      → arrivals_at institutions rows number before e ≡ []
  off-comes before (event.Piece n p) m s = still-comes before n p s
  off-comes before (event.Pull n) m s = rw m refl
  off-comes before (event.End n) m s = rw m refl
  off-comes before e m s = refl

  off-found : (world : World) (e : Event) → is_on_connection number e ≡ false
      → connection_in number (turn institutions world e).connections ≡ connection_in number world.connections
  off-found world e m =
      let mine : ℕ → Bool = λ n. n == number in
      sym (in-among mine number (turn institutions world e).connections same)
      ∙ ap (connection_in number) (kept institutions mine world e m)
      ∙ in-among mine number world.connections same

  -- ---- the connection is not held

  record Quiet (world : World) (e : Event) : Type 0 where
    outputs : outputs_in (turn institutions world e).reply ≡ []
    none : connection_in number (turn institutions world e).connections ≡ None

  quiet : (world : World) (e : Event) → connection_in number world.connections ≡ None → is_on_connection number e ≡ true → OpensNone e
      → Quiet world e
  quiet world (event.Open n) none m x = absurd x
  quiet world (event.Piece n p) none m x =
      let o : connection_in n world.connections ≡ None = ap (λ k. connection_in k world.connections) (at-number n number m) ∙ none in
      record { outputs = rw o refl; none = rw o none }
  quiet world (event.End n) none m x =
      let o : connection_in n world.connections ≡ None = ap (λ k. connection_in k world.connections) (at-number n number m) ∙ none in
      record { outputs = rw o refl; none = rw o none }
  quiet world (event.Pull n) none m x =
      let o : connection_in n world.connections ≡ None = ap (λ k. connection_in k world.connections) (at-number n number m) ∙ none in
      record { outputs = rw o refl; none = rw o none }
  quiet world other none m x = absurd (false≢true m)

  -- its number is not opened again
  past-next : (newest : Option ℕ) (e : Event) (rest : List Event) → rises_from newest (e ∷ rest) ≡ true → is_above newest number ≡ false
      → is_above (newest_after newest (e ∷ [])) number ≡ false
  past-next newest (event.Open n) rest r k = above-past newest n number (both-true (is_above newest n) (rises_from (Some n) rest) r).0 k
  past-next newest e rest r k = k

  opens-none : (newest : Option ℕ) (e : Event) (rest : List Event) → rises_from newest (e ∷ rest) ≡ true → is_above newest number ≡ false
      → is_on_connection number e ≡ true → OpensNone e
  opens-none newest (event.Open n) rest r k m =
      false≢true (sym (ap (is_above newest) (at-number n number m) ∙ k) ∙ (both-true (is_above newest n) (rises_from (Some n) rest) r).0)
  opens-none newest e rest r k m = tt

  -- after its end nothing is answered
  gone-at : (e : Event) (rest : List Event) (newest : Option ℕ) (world : World) → Kept newest world (e ∷ rest)
      → connection_in number world.connections ≡ None → is_above newest number ≡ false
      → ((newest : Option ℕ) (world : World) → Kept newest world rest → connection_in number world.connections ≡ None
      → is_above newest number ≡ false → answered world rest ≡ [])
      → (b : Bool) → is_on_connection number e ≡ b → answered world (e ∷ rest) ≡ []
  gone-at e rest newest world s none past later false m =
      off-answered world e rest m
      ∙ later (newest_after newest (e ∷ [])) (next_world world e) (sound-next institutions IsOwned newest world e rest s) (off-found world e m ∙ none)
      (past-next newest e rest s.rises past)
  gone-at e rest newest world s none past later true m =
      let q = quiet world e none m (opens-none newest e rest s.rises past m) in
      on-answered world e rest m
      ∙ ap (λ xs. xs ++ answered (next_world world e) rest) q.outputs
      ∙ later (newest_after newest (e ∷ [])) (next_world world e) (sound-next institutions IsOwned newest world e rest s) q.none
      (past-next newest e rest s.rises past)

  gone-rest : (rest : List Event) (newest : Option ℕ) (world : World) → Kept newest world rest → connection_in number world.connections ≡ None
      → is_above newest number ≡ false → answered world rest ≡ []
  gone-rest [] newest world s none past = refl
  gone-rest (e ∷ rest) newest world s none past =
      gone-at e rest newest world s none past (gone-rest rest) (is_on_connection number e) refl

  -- ---- the connection is held

  record Held (before : List Event) (world : World) (c : Connection) : Type 0 where
    world_is : world_after institutions rows before ≡ world
    held : connection_in number world.connections ≡ Some c
    stream : (more : List Event) → stream_of number (before ++ more) ≡ c.stream ++ octets_of_pieces number more

  held-number : (before : List Event) (world : World) (c : Connection) → Held before world c → c.number ≡ number
  held-number before world c h = found-number number world.connections c h.held

  past-by : (newest : Option ℕ) (c : Connection) (b : Bool) → is_above newest number ≡ b → c.number ≡ number → IsBefore newest c
      → is_above newest number ≡ false
  past-by newest c false e n before = e
  past-by newest c true e n before =
      absurd (false≢true (sym (before number e) ∙ ap (λ k. k == number) n ∙ same))

  held-past : (before : List Event) (newest : Option ℕ) (world : World) (rest : List Event) (c : Connection) → Kept newest world rest
      → Held before world c → is_above newest number ≡ false
  held-past before newest world rest c s h =
      past-by newest c (is_above newest number) refl (held-number before world c h)
      (found-has (IsBefore newest) number world.connections c h.held s.before)

  held-stream : (before : List Event) (world : World) (c : Connection) → Held before world c → stream_of number before ≡ c.stream
  held-stream before world c h = ap (stream_of number) (sym (append-nil before)) ∙ h.stream [] ∙ append-nil c.stream

  -- an event that adds a piece, or nothing, to its stream
  stream-next : (before : List Event) (e : Event) (stream piece : List ℕ) → ((more : List Event) → stream_of number (before ++ more) ≡ stream ++ octets_of_pieces number more)
      → ((more : List Event) → octets_of_pieces number (e ∷ more) ≡ piece ++ octets_of_pieces number more) → (more : List Event)
      → stream_of number ((before ++ e ∷ []) ++ more) ≡ (stream ++ piece) ++ octets_of_pieces number more
  stream-next before e stream piece f g more =
      ap (stream_of number) (append_assoc before (e ∷ []) more) ∙ f (e ∷ more) ∙ ap (λ p. stream ++ p) (g more)
      ∙ sym (append_assoc stream piece (octets_of_pieces number more))

  same-stream : (before : List Event) (e : Event) (stream : List ℕ) → ((more : List Event) → stream_of number (before ++ more) ≡ stream ++ octets_of_pieces number more)
      → ((more : List Event) → octets_of_pieces number (e ∷ more) ≡ octets_of_pieces number more) → (more : List Event)
      → stream_of number ((before ++ e ∷ []) ++ more) ≡ stream ++ octets_of_pieces number more
  same-stream before e stream f g more =
      ap (stream_of number) (append_assoc before (e ∷ []) more) ∙ f (e ∷ more) ∙ ap (λ p. stream ++ p) (g more)

  off-held : (before : List Event) (world : World) (c : Connection) (e : Event) → Held before world c → is_on_connection number e ≡ false
      → Held (before ++ e ∷ []) (next_world world e) c
  off-held before world c e h m = record {
    world_is = world-next before world e h.world_is;
    held = off-found world e m ∙ h.held;
    stream = same-stream before e c.stream h.stream (λ more. off-pieces e more m);
  }

  off-coming : (before : List Event) (world : World) (c : Connection) (e : Event) (rest : List Event) → Held before world c
      → is_on_connection number e ≡ false → coming before (e ∷ rest) ≡ coming (before ++ e ∷ []) rest
  off-coming before world c e rest h m =
      ap (λ xs. xs ++ coming (before ++ e ∷ []) rest)
      (off-comes before e m (held-stream (before ++ e ∷ []) (next_world world e) c (off-held before world c e h m) ∙ sym (held-stream before world c h)))

  -- a piece on it
  piece-stream : (before : List Event) (world : World) (c : Connection) (p : List ℕ) → Held before world c → (more : List Event)
      → stream_of number ((before ++ event.Piece number p ∷ []) ++ more) ≡ (c.stream ++ p) ++ octets_of_pieces number more
  piece-stream before world c p h = stream-next before (event.Piece number p) c.stream p h.stream (λ more. rw same refl)

  piece-comes : (before : List Event) (world : World) (c : Connection) (p : List ℕ) → Held before world c
      → arrivals_at institutions rows number before (event.Piece number p)
      ≡ input_arrivals world (turn institutions world (event.Piece number p)).operations (inputs_added c.stream p)
  piece-comes before world c p h =
      let longer : stream_of number (before ++ event.Piece number p ∷ []) ≡ c.stream ++ p =
      ap (stream_of number) (sym (append-nil (before ++ event.Piece number p ∷ []))) ∙ piece-stream before world c p h [] ∙ append-nil (c.stream ++ p)
      in
      rw (h.world_is, held-stream before world c h, longer) refl

  taken-held : (before : List Event) (world : World) (c : Connection) (p : List ℕ) (o : Option Institution) (x : Answer) → Held before world c
      → turn institutions world (event.Piece number p) ≡ answer_turn o world c p x → x.close ≡ false
      → Held (before ++ event.Piece number p ∷ []) (next_world world (event.Piece number p)) (with_piece c p x.next.query)
  taken-held before world c p o x h t goes =
      let n = held-number before world c h in
      let new = with_piece c p x.next.query in
      let found : connection_in c.number world.connections ≡ Some c = ap (λ k. connection_in k world.connections) n ∙ h.held in record {
        world_is = world-next before world (event.Piece number p) h.world_is;
        held = ap (λ (u : EventEffect). connection_in number u.connections) t
            ∙ rw (goes, ← n) (found-with new world.connections c found);
        stream = piece-stream before world c p h;
      }

  closed-none : (before : List Event) (newest : Option ℕ) (world : World) (rest : List Event) (c : Connection) (p : List ℕ) (o : Option Institution) (x : Answer)
      → Kept newest world rest → Held before world c → turn institutions world (event.Piece number p) ≡ answer_turn o world c p x → x.close ≡ true
      → connection_in number (turn institutions world (event.Piece number p)).connections ≡ None
  closed-none before newest world rest c p o x s h t closes =
      let n = held-number before world c h in
      ap (λ (u : EventEffect). connection_in number u.connections) t
      ∙ rw (closes, n) (none-in number (without number world.connections) (left-have number world.connections s.apart))

  owner-now : (before : List Event) (newest : Option ℕ) (world : World) (c : Connection) (p : List ℕ) (rest : List Event)
      → Kept newest world (event.Piece number p ∷ rest) → Held before world c → (o : Option Institution) → owner institutions (c.stream ++ p) ≡ o
      → (o ≡ Some i) ⊎ ((o ≡ None) × (inputs (c.stream ++ p) ≡ []))
  owner-now before newest world c p rest s h o e =
      let n : (c.number == number) ≡ true = ap (λ k. k == number) (held-number before world c h) ∙ same in
      let final = owned-piece institutions IsOwned number p rest world.connections c h.held s.owned n in
      by_owner o e final
    where
      by_owner : (o : Option Institution) → owner institutions (c.stream ++ p) ≡ o
          → owner institutions ((c.stream ++ p) ++ octets_of_pieces c.number rest) ≡ Some i → (o ≡ Some i) ⊎ ((o ≡ None) × (inputs (c.stream ++ p) ≡ []))
      by_owner None e final = inr (refl, no_input_yet adds institutions (c.stream ++ p) (octets_of_pieces c.number rest) i e final)
      by_owner (Some j) e final = inl (sym (owner_stays adds institutions (c.stream ++ p) (octets_of_pieces c.number rest) j e) ∙ final)

  -- ---- the association is open

  record IsOpen (before : List Event) (world : World) (c : Connection) (a : Agreement) : Type 0 where
    held : Held before world c
    agreed : option_map agreement_of (request_in (inputs c.stream)) ≡ Some a
    more : HasMore c.query

  abbrev OpenSaid : List Event → Type 0
  OpenSaid rest = (before : List Event) (newest : Option ℕ) (world : World) (c : Connection) (a : Agreement) → Kept newest world rest
      → IsOpen before world c a → answered world rest ≡ still i a c.query (coming before rest)

  -- what is answered after a piece that left it open, or closed it
  after-piece : (before : List Event) (newest : Option ℕ) (world : World) (c : Connection) (a : Agreement) (p : List ℕ) (rest : List Event) (x : Answer) (b : Bool)
      → Kept newest world (event.Piece number p ∷ rest) → Held before world c → OpenSaid rest
      → turn institutions world (event.Piece number p) ≡ answer_turn (Some i) world c p x → HasMore x.next.query
      → option_map agreement_of (request_in (inputs (c.stream ++ p))) ≡ Some a → x.close ≡ b
      → close_if x.close ++ answered (next_world world (event.Piece number p)) rest
      ≡ unless x.close (still i a x.next.query (coming (before ++ event.Piece number p ∷ []) rest))
  after-piece before newest world c a p rest x true s h later t more agreed closes =
      rw closes (ap (λ ys. Close ∷ ys) (gone-rest rest newest (next_world world (event.Piece number p))
      (sound-next institutions IsOwned newest world (event.Piece number p) rest s)
      (closed-none before newest world (event.Piece number p ∷ rest) c p (Some i) x s h t closes)
      (held-past before newest world (event.Piece number p ∷ rest) c s h)))
  after-piece before newest world c a p rest x false s h later t more agreed goes =
      rw goes (later (before ++ event.Piece number p ∷ []) newest (next_world world (event.Piece number p)) (with_piece c p x.next.query) a
      (sound-next institutions IsOwned newest world (event.Piece number p) rest s)
      (record { held = taken-held before world c p (Some i) x h t goes; agreed = agreed; more = more }))

  -- the octets of a piece, and of what comes later
  piece-answered : (before : List Event) (world : World) (c : Connection) (p : List ℕ) (rest : List Event) (x : Answer) (later : List Output) (says : List Arrival → List Output)
      → Held before world c → turn institutions world (event.Piece number p) ≡ answer_turn (Some i) world c p x
      → close_if x.close ++ answered (next_world world (event.Piece number p)) rest ≡ later
      → says (input_arrivals world (map (by i.name) x.changes) (inputs_added c.stream p) ++ coming (before ++ event.Piece number p ∷ []) rest)
      ≡ map Octet x.octets ++ later
      → answered world (event.Piece number p ∷ rest) ≡ says (coming before (event.Piece number p ∷ rest))
  piece-answered before world c p rest x later says h t after_said said =
      let e = event.Piece number p in
      let told = coming (before ++ e ∷ []) rest in
      let comes : coming before (e ∷ rest) ≡ input_arrivals world (map (by i.name) x.changes) (inputs_added c.stream p) ++ told =
      ap (λ xs. xs ++ told) (piece-comes before world c p h
      ∙ ap (λ (u : EventEffect). input_arrivals world u.operations (inputs_added c.stream p)) t)
      in
      on-answered world e rest same
      ∙ ap (λ (u : EventEffect). outputs_in u.reply ++ answered (next_world world e) rest) t
      ∙ append_assoc (map Octet x.octets) (close_if x.close) (answered (next_world world e) rest)
      ∙ ap (λ xs. map Octet x.octets ++ xs) after_said
      ∙ sym said
      ∙ ap says (sym comes)

  open-piece : (before : List Event) (newest : Option ℕ) (world : World) (c : Connection) (a : Agreement) (p : List ℕ) (rest : List Event)
      → Kept newest world (event.Piece number p ∷ rest) → IsOpen before world c a → OpenSaid rest → owner institutions (c.stream ++ p) ≡ Some i
      → answered world (event.Piece number p ∷ rest) ≡ still i a c.query (coming before (event.Piece number p ∷ rest))
  open-piece before newest world c a p rest s h later o =
      let verdict = verdict_at i.associations (live_of institutions i.name world.connections) in
      let records = of i.name world.rows in
      let xs = inputs_added c.stream p in
      let x = from_open i a verdict records c.query xs in
      let t : turn institutions world (event.Piece number p) ≡ answer_turn (Some i) world c p x = rw (h.held.held, o, h.agreed) refl in
      let agreed : option_map agreement_of (request_in (inputs (c.stream ++ p))) ≡ Some a =
      ap (λ ys. option_map agreement_of (request_in ys)) (added-are adds c.stream p) ∙ request-stays (inputs c.stream) xs a h.agreed
      in
      piece-answered before world c p rest x (unless x.close (still i a x.next.query (coming (before ++ event.Piece number p ∷ []) rest))) (still i a c.query)
      h.held t
      (after-piece before newest world c a p rest x x.close s h.held later t (answers-more i a verdict records c.query xs h.more) agreed refl)
      (open-said lens i a verdict xs world c.query (coming (before ++ event.Piece number p ∷ []) rest) h.more)

  -- its stream has inputs, so that it has an owner
  open-owned : (before : List Event) (newest : Option ℕ) (world : World) (c : Connection) (a : Agreement) (p : List ℕ) (rest : List Event)
      → Kept newest world (event.Piece number p ∷ rest) → IsOpen before world c a → owner institutions (c.stream ++ p) ≡ Some i
  open-owned before newest world c a p rest s h =
      elim (owner-now before newest world c p rest s h.held (owner institutions (c.stream ++ p)) refl) [
        | inl is ↦ is
        | inr none ↦
            let empty = front_without adds c.stream p none.1 in
            let both : None ≡ Some a = sym (ap (λ xs. option_map agreement_of (request_in xs)) empty) ∙ h.agreed in cc
      ]

  -- a pull
  pulled-held : (before : List Event) (world : World) (c : Connection) → Held before world c
      → Held (before ++ event.Pull number ∷ []) (next_world world (event.Pull number)) (with_query (next_page c.query).query c)
  pulled-held before world c h =
      let n = held-number before world c h in
      let new = with_query (next_page c.query).query c in
      let found : connection_in c.number world.connections ≡ Some c = ap (λ k. connection_in k world.connections) n ∙ h.held in record {
        world_is = world-next before world (event.Pull number) h.world_is;
        held = rw h.held (rw (← n) (found-with new world.connections c found));
        stream = same-stream before (event.Pull number) c.stream h.stream (λ more. refl);
      }

  open-pull : (before : List Event) (newest : Option ℕ) (world : World) (c : Connection) (a : Agreement) (rest : List Event)
      → Kept newest world (event.Pull number ∷ rest) → IsOpen before world c a → OpenSaid rest
      → answered world (event.Pull number ∷ rest) ≡ still i a c.query (coming before (event.Pull number ∷ rest))
  open-pull before newest world c a rest s h later =
      let e = event.Pull number in
      let first = next_page c.query in
      let told = coming (before ++ e ∷ []) rest in
      let comes : coming before (e ∷ rest) ≡ PageRequest ∷ told = rw same refl in
      let reply : outputs_in (turn institutions world e).reply ≡ map Octet first.octets = rw h.held.held (append-nil (map Octet first.octets)) in
      let after_said = later (before ++ e ∷ []) newest (next_world world e) (with_query first.query c) a
      (sound-next institutions IsOwned newest world e rest s)
      (record { held = pulled-held before world c h.held; agreed = h.agreed; more = next-more c.query })
      in
      on-answered world e rest same
      ∙ ap (λ xs. xs ++ answered (next_world world e) rest) reply
      ∙ ap (λ xs. map Octet first.octets ++ xs) after_said
      ∙ sym (append_assoc (map Octet first.octets) (map Octet (unsent first.query told)) (exchange i a told))
      ∙ ap (λ xs. xs ++ exchange i a told) (sym (map-append Octet first.octets (unsent first.query told)))
      ∙ ap (λ xs. map Octet xs ++ exchange i a told) (sym (pull-unsent c.query told))
      ∙ ap (still i a c.query) (sym comes)

  -- its end
  ended-none : (before : List Event) (newest : Option ℕ) (world : World) (rest : List Event) (c : Connection) → Kept newest world rest → Held before world c
      → connection_in number (turn institutions world (event.End number)).connections ≡ None
  ended-none before newest world rest c s h =
      let n = held-number before world c h in
      rw (h.held, n) (none-in number (without number world.connections) (left-have number world.connections s.apart))

  open-end : (before : List Event) (newest : Option ℕ) (world : World) (c : Connection) (a : Agreement) (rest : List Event)
      → Kept newest world (event.End number ∷ rest) → IsOpen before world c a
      → answered world (event.End number ∷ rest) ≡ still i a c.query (coming before (event.End number ∷ rest))
  open-end before newest world c a rest s h =
      let e = event.End number in
      let comes : coming before (e ∷ rest) ≡ ConnectionEnd ∷ coming (before ++ e ∷ []) rest = rw same refl in
      let reply : outputs_in (turn institutions world e).reply ≡ [] = rw h.held.held refl in
      on-answered world e rest same
      ∙ ap (λ xs. xs ++ answered (next_world world e) rest) reply
      ∙ gone-rest rest newest (next_world world e) (sound-next institutions IsOwned newest world e rest s)
      (ended-none before newest world (e ∷ rest) c s h.held) (held-past before newest world (e ∷ rest) c s h.held)
      ∙ sym (closed i a c.query (ConnectionEnd ∷ coming (before ++ e ∷ []) rest) [] h.more (λ id. refl) refl)
      ∙ ap (still i a c.query) (sym comes)

  open-on : (e : Event) (before : List Event) (newest : Option ℕ) (world : World) (c : Connection) (a : Agreement) (rest : List Event)
      → Kept newest world (e ∷ rest) → IsOpen before world c a → OpenSaid rest → is_on_connection number e ≡ true
      → answered world (e ∷ rest) ≡ still i a c.query (coming before (e ∷ rest))
  open-on (event.Open n) before newest world c a rest s h later m =
      absurd (opens-none newest (event.Open n) rest s.rises (held-past before newest world (event.Open n ∷ rest) c s h.held) m)
  open-on (event.Piece n p) before newest world c a rest s h later m =
      let is = at-number n number m in
      rw is (open-piece before newest world c a p rest (rw is at s) h later (open-owned before newest world c a p rest (rw is at s) h))
  open-on (event.End n) before newest world c a rest s h later m =
      let is = at-number n number m in rw is (open-end before newest world c a rest (rw is at s) h)
  open-on (event.Pull n) before newest world c a rest s h later m =
      let is = at-number n number m in rw is (open-pull before newest world c a rest (rw is at s) h later)
  open-on other before newest world c a rest s h later m = absurd (false≢true m)

  open-at : (e : Event) (before : List Event) (newest : Option ℕ) (world : World) (c : Connection) (a : Agreement) (rest : List Event)
      → Kept newest world (e ∷ rest) → IsOpen before world c a → OpenSaid rest → (b : Bool) → is_on_connection number e ≡ b
      → answered world (e ∷ rest) ≡ still i a c.query (coming before (e ∷ rest))
  open-at e before newest world c a rest s h later true m = open-on e before newest world c a rest s h later m
  open-at e before newest world c a rest s h later false m =
      off-answered world e rest m
      ∙ later (before ++ e ∷ []) (newest_after newest (e ∷ [])) (next_world world e) c a (sound-next institutions IsOwned newest world e rest s)
      (record { held = off-held before world c e h.held m; agreed = h.agreed; more = h.more })
      ∙ ap (still i a c.query) (sym (off-coming before world c e rest h.held m))

  open-rest : (rest : List Event) → OpenSaid rest
  open-rest [] before newest world c a s h = sym (closed i a c.query [] [] h.more (λ id. refl) refl)
  open-rest (e ∷ rest) before newest world c a s h = open-at e before newest world c a rest s h (open-rest rest) (is_on_connection number e) refl

  -- ---- no request came yet

  record IsWaiting (before : List Event) (world : World) (c : Connection) : Type 0 where
    held : Held before world c
    no_inputs : inputs c.stream ≡ []
    no_query : c.query ≡ None

  abbrev WaitingSaid : List Event → Type 0
  WaitingSaid rest = (before : List Event) (newest : Option ℕ) (world : World) (c : Connection) → Kept newest world rest
      → IsWaiting before world c → answered world rest ≡ conversation institutions i (coming before rest)

  waiting-request : (before : List Event) (newest : Option ℕ) (world : World) (c : Connection) (p : List ℕ) (rest : List Event) (request : Request) (ys : List Input)
      → Kept newest world (event.Piece number p ∷ rest) → IsWaiting before world c → owner institutions (c.stream ++ p) ≡ Some i
      → inputs (c.stream ++ p) ≡ Requested request ∷ ys
      → answered world (event.Piece number p ∷ rest) ≡ conversation institutions i (coming before (event.Piece number p ∷ rest))
  waiting-request before newest world c p rest request ys s h o e =
      let verdict = verdict_at i.associations (live_of institutions i.name world.connections) in
      let records = of i.name world.rows in
      let a = agreement_of request in
      let added : inputs_added c.stream p ≡ Requested request ∷ ys = rw (h.no_inputs, e) refl in
      let x = from_wait i verdict records (Requested request ∷ ys) in
      let told = coming (before ++ event.Piece number p ∷ []) rest in
      let t : turn institutions world (event.Piece number p) ≡ answer_turn (Some i) world c p x = rw (h.held.held, o, added, h.no_inputs, h.no_query) refl in
      let agreed : option_map agreement_of (request_in (inputs (c.stream ++ p))) ≡ Some a = rw e refl in
      piece-answered before world c p rest x (unless x.close (still i a x.next.query told)) (conversation institutions i) h.held t
      (after-piece before newest world c a p rest x x.close s h.held (open-rest rest) t (request-more i verdict records request ys) agreed refl)
      (rw added (request-said lens institutions i request ys world told))

  waiting-nothing : (before : List Event) (newest : Option ℕ) (world : World) (c : Connection) (p : List ℕ) (rest : List Event)
      → Kept newest world (event.Piece number p ∷ rest) → IsWaiting before world c → WaitingSaid rest → owner institutions (c.stream ++ p) ≡ None
      → inputs (c.stream ++ p) ≡ []
      → answered world (event.Piece number p ∷ rest) ≡ conversation institutions i (coming before (event.Piece number p ∷ rest))
  waiting-nothing before newest world c p rest s h later o e =
      let piece = event.Piece number p in
      let added : inputs_added c.stream p ≡ [] = rw (h.no_inputs, e) refl in
      let x = no_answer (progress_of c []) in
      let t : turn institutions world piece ≡ answer_turn None world c p x = rw (h.held.held, o, added) refl in
      let told = coming (before ++ piece ∷ []) rest in
      let comes : coming before (piece ∷ rest) ≡ told =
      ap (λ xs. xs ++ told) (piece-comes before world c p h.held
      ∙ ap (input_arrivals world (turn institutions world piece).operations) added)
      in
      on-answered world piece rest same
      ∙ ap (λ (u : EventEffect). outputs_in u.reply ++ answered (next_world world piece) rest) t
      ∙ later (before ++ piece ∷ []) newest (next_world world piece) (with_piece c p c.query) (sound-next institutions IsOwned newest world piece rest s)
      (record { held = taken-held before world c p None x h.held t refl; no_inputs = e; no_query = h.no_query })
      ∙ ap (conversation institutions i) (sym comes)

  waiting-piece : (before : List Event) (newest : Option ℕ) (world : World) (c : Connection) (p : List ℕ) (rest : List Event)
      → Kept newest world (event.Piece number p ∷ rest) → IsWaiting before world c → WaitingSaid rest
      → answered world (event.Piece number p ∷ rest) ≡ conversation institutions i (coming before (event.Piece number p ∷ rest))
  waiting-piece before newest world c p rest s h later =
      elim (owner-now before newest world c p rest s h.held (owner institutions (c.stream ++ p)) refl) [
        | inl is ↦
            let r = first-request institutions i (inputs (c.stream ++ p)) is in waiting-request before newest world c p rest r.0 r.1 s h is r.2
        | inr none ↦ waiting-nothing before newest world c p rest s h later none.0 none.1
      ]

  waiting-pull : (before : List Event) (newest : Option ℕ) (world : World) (c : Connection) (rest : List Event)
      → Kept newest world (event.Pull number ∷ rest) → IsWaiting before world c → WaitingSaid rest
      → answered world (event.Pull number ∷ rest) ≡ conversation institutions i (coming before (event.Pull number ∷ rest))
  waiting-pull before newest world c rest s h later =
      let e = event.Pull number in
      let comes : coming before (e ∷ rest) ≡ PageRequest ∷ coming (before ++ e ∷ []) rest = rw same refl in
      let reply : outputs_in (turn institutions world e).reply ≡ [] = rw (h.held.held, h.no_query) refl in
      on-answered world e rest same
      ∙ ap (λ xs. xs ++ answered (next_world world e) rest) reply
      ∙ later (before ++ e ∷ []) newest (next_world world e) (with_query (next_page c.query).query c) (sound-next institutions IsOwned newest world e rest s)
      (record { held = pulled-held before world c h.held; no_inputs = h.no_inputs; no_query = rw h.no_query refl })
      ∙ ap (conversation institutions i) (sym comes)

  -- one that ends before its request is nobody's
  waiting-ended : (before : List Event) (newest : Option ℕ) (world : World) (c : Connection) (rest : List Event)
      → Kept newest world (event.End number ∷ rest) → IsWaiting before world c → ⊥
  waiting-ended before newest world c rest s h =
      let n = held-number before world c h.held in
      let is : (c.number == number) ≡ true = ap (λ k. k == number) n ∙ same in
      let final = found-has (Owned institutions IsOwned (event.End number ∷ rest)) number world.connections c h.held.held s.owned is in
      let none : octets_of_pieces c.number (event.End number ∷ rest) ≡ [] = rw is refl in
      let both : None ≡ Some i = sym (rw (none, append-nil c.stream, h.no_inputs) refl) ∙ final in cc

  waiting-on : (e : Event) (before : List Event) (newest : Option ℕ) (world : World) (c : Connection) (rest : List Event)
      → Kept newest world (e ∷ rest) → IsWaiting before world c → WaitingSaid rest → is_on_connection number e ≡ true
      → answered world (e ∷ rest) ≡ conversation institutions i (coming before (e ∷ rest))
  waiting-on (event.Open n) before newest world c rest s h later m =
      absurd (opens-none newest (event.Open n) rest s.rises (held-past before newest world (event.Open n ∷ rest) c s h.held) m)
  waiting-on (event.Piece n p) before newest world c rest s h later m =
      let is = at-number n number m in rw is (waiting-piece before newest world c p rest (rw is at s) h later)
  waiting-on (event.End n) before newest world c rest s h later m =
      let is = at-number n number m in absurd (waiting-ended before newest world c rest (rw is at s) h)
  waiting-on (event.Pull n) before newest world c rest s h later m =
      let is = at-number n number m in rw is (waiting-pull before newest world c rest (rw is at s) h later)
  waiting-on other before newest world c rest s h later m = absurd (false≢true m)

  waiting-at : (e : Event) (before : List Event) (newest : Option ℕ) (world : World) (c : Connection) (rest : List Event)
      → Kept newest world (e ∷ rest) → IsWaiting before world c → WaitingSaid rest → (b : Bool) → is_on_connection number e ≡ b
      → answered world (e ∷ rest) ≡ conversation institutions i (coming before (e ∷ rest))
  waiting-at e before newest world c rest s h later true m = waiting-on e before newest world c rest s h later m
  waiting-at e before newest world c rest s h later false m =
      off-answered world e rest m
      ∙ later (before ++ e ∷ []) (newest_after newest (e ∷ [])) (next_world world e) c (sound-next institutions IsOwned newest world e rest s)
      (record { held = off-held before world c e h.held m; no_inputs = h.no_inputs; no_query = h.no_query })
      ∙ ap (conversation institutions i) (sym (off-coming before world c e rest h.held m))

  waiting-rest : (rest : List Event) → WaitingSaid rest
  waiting-rest [] before newest world c s h = refl
  waiting-rest (e ∷ rest) before newest world c s h = waiting-at e before newest world c rest s h (waiting-rest rest) (is_on_connection number e) refl

  -- ---- the connection was not opened yet

  record IsUnopened (before : List Event) (world : World) : Type 0 where
    world_is : world_after institutions rows before ≡ world
    none : connection_in number world.connections ≡ None
    stream : (more : List Event) → stream_of number (before ++ more) ≡ stream_of number more

  abbrev UnopenedSaid : List Event → Type 0
  UnopenedSaid rest = (before : List Event) (newest : Option ℕ) (world : World) → Kept newest world rest
      → IsUnopened before world → answered world rest ≡ conversation institutions i (coming before rest)

  unopened-next : (before : List Event) (world : World) (e : Event) → IsUnopened before world → connection_in number (turn institutions world e).connections ≡ None
      → ((more : List Event) → stream_of number (e ∷ more) ≡ stream_of number more) → IsUnopened (before ++ e ∷ []) (next_world world e)
  unopened-next before world e h none f = record {
    world_is = world-next before world e h.world_is;
    none = none;
    stream = λ more. ap (stream_of number) (append_assoc before (e ∷ []) more) ∙ h.stream (e ∷ more) ∙ f more;
  }

  unopened-stream : (before : List Event) (world : World) → IsUnopened before world → stream_of number before ≡ []
  unopened-stream before world h = ap (stream_of number) (sym (append-nil before)) ∙ h.stream []

  opened-at : (before : List Event) (newest : Option ℕ) (world : World) (rest : List Event) → Kept newest world (event.Open number ∷ rest)
      → IsUnopened before world
      → answered world (event.Open number ∷ rest) ≡ conversation institutions i (coming before (event.Open number ∷ rest))
  opened-at before newest world rest s h =
      let e = event.Open number in
      on-answered world e rest same
      ∙ waiting-rest rest (before ++ e ∷ []) (Some number) (next_world world e) (new_connection number) (sound-next institutions IsOwned newest world e rest s)
      (record {
        held = record {
          world_is = world-next before world e h.world_is;
          held = found-last number world.connections (new_connection number) h.none same;
          stream = λ more. ap (stream_of number) (append_assoc before (e ∷ []) more) ∙ h.stream (e ∷ more) ∙ rw same refl;
        };
        no_inputs = no-inputs;
        no_query = refl;
      })

  -- what comes before it is opened says nothing
  unopened-comes : (before : List Event) (world : World) (e : Event) (rest : List Event) → IsUnopened before world → IsUnopened (before ++ e ∷ []) (next_world world e)
      → is_on_connection number e ≡ true → OpensNone e
      → conversation institutions i (coming before (e ∷ rest)) ≡ conversation institutions i (coming (before ++ e ∷ []) rest)
  unopened-comes before world (event.Open n) rest h k m x = absurd x
  unopened-comes before world (event.Piece n p) rest h k m x =
      ap (λ xs. conversation institutions i (xs ++ coming (before ++ event.Piece n p ∷ []) rest))
      (still-comes before n p (unopened-stream (before ++ event.Piece n p ∷ []) (next_world world (event.Piece n p)) k ∙ sym (unopened-stream before world h)))
  unopened-comes before world (event.Schedule inst octets) rest h k m x = refl
  unopened-comes before world (event.Withdraw inst id) rest h k m x = refl
  unopened-comes before world other rest h k m x = rw m refl

  opens-stream : (e : Event) → OpensNone e → (more : List Event) → stream_of number (e ∷ more) ≡ stream_of number more
  opens-stream (event.Open n) x more = absurd x
  opens-stream e x more = refl

  unopened-none : (e : Event) (before : List Event) (newest : Option ℕ) (world : World) (rest : List Event) → Kept newest world (e ∷ rest)
      → IsUnopened before world → UnopenedSaid rest → is_on_connection number e ≡ true → OpensNone e
      → answered world (e ∷ rest) ≡ conversation institutions i (coming before (e ∷ rest))
  unopened-none e before newest world rest s h later m x =
      let q = quiet world e h.none m x in
      let next = unopened-next before world e h q.none (opens-stream e x) in
      on-answered world e rest m
      ∙ ap (λ xs. xs ++ answered (next_world world e) rest) q.outputs
      ∙ later (before ++ e ∷ []) (newest_after newest (e ∷ [])) (next_world world e) (sound-next institutions IsOwned newest world e rest s) next
      ∙ sym (unopened-comes before world e rest h next m x)

  unopened-on : (e : Event) (before : List Event) (newest : Option ℕ) (world : World) (rest : List Event) → Kept newest world (e ∷ rest)
      → IsUnopened before world → UnopenedSaid rest → is_on_connection number e ≡ true
      → answered world (e ∷ rest) ≡ conversation institutions i (coming before (e ∷ rest))
  unopened-on (event.Open n) before newest world rest s h later m =
      let is = at-number n number m in rw is (opened-at before newest world rest (rw is at s) h)
  unopened-on e before newest world rest s h later m = unopened-none e before newest world rest s h later m tt

  unopened-at : (e : Event) (before : List Event) (newest : Option ℕ) (world : World) (rest : List Event) → Kept newest world (e ∷ rest)
      → IsUnopened before world → UnopenedSaid rest → (b : Bool) → is_on_connection number e ≡ b
      → answered world (e ∷ rest) ≡ conversation institutions i (coming before (e ∷ rest))
  unopened-at e before newest world rest s h later true m = unopened-on e before newest world rest s h later m
  unopened-at e before newest world rest s h later false m =
      let next = unopened-next before world e h (off-found world e m ∙ h.none) (λ more. off-stream e more m) in
      off-answered world e rest m
      ∙ later (before ++ e ∷ []) (newest_after newest (e ∷ [])) (next_world world e) (sound-next institutions IsOwned newest world e rest s) next
      ∙ ap (λ xs. conversation institutions i (xs ++ coming (before ++ e ∷ []) rest))
      (sym (off-comes before e m (unopened-stream (before ++ e ∷ []) (next_world world e) next ∙ sym (unopened-stream before world h))))

  unopened-rest : (rest : List Event) → UnopenedSaid rest
  unopened-rest [] before newest world s h = refl
  unopened-rest (e ∷ rest) before newest world s h = unopened-at e before newest world rest s h (unopened-rest rest) (is_on_connection number e) refl

  -- ---- the whole history

  pub conversed : (events : List Event) → is_well_formed_history events ≡ true → owner institutions (stream_of number events) ≡ Some i
      → outputs_on number events (replies institutions rows events) ≡ conversation_on institutions rows number i events
  conversed events w o =
      unopened-rest events [] None (first_world rows)
      (record {
        owned = tt;
        apart = tt;
        before = tt;
        rises = w;
        later = λ n _ is. ap (λ m. owner institutions (stream_of m events)) (at-number n number is) ∙ o;
      })
      (record { world_is = refl; none = refl; stream = λ more. refl })

  -- ---- one event more

  last-at : (world : World) (d : Event) (events : List Event) (e : Event) (b : Bool) → is_on_connection number d ≡ b
      → (answered (next_world world d) (events ++ e ∷ [])
      ≡ answered (next_world world d) events ++ outputs_in (turn institutions (world_from institutions (next_world world d) events) e).reply)
      → answered world (d ∷ (events ++ e ∷ []))
      ≡ answered world (d ∷ events) ++ outputs_in (turn institutions (world_from institutions (next_world world d) events) e).reply
  last-at world d events e true m later =
      let first = outputs_in (turn institutions world d).reply in
      let last = outputs_in (turn institutions (world_from institutions (next_world world d) events) e).reply in
      on-answered world d (events ++ e ∷ []) m
      ∙ ap (λ xs. first ++ xs) later
      ∙ sym (append_assoc first (answered (next_world world d) events) last)
      ∙ ap (λ xs. xs ++ last) (sym (on-answered world d events m))
  last-at world d events e false m later =
      let last = outputs_in (turn institutions (world_from institutions (next_world world d) events) e).reply in
      off-answered world d (events ++ e ∷ []) m ∙ later ∙ ap (λ xs. xs ++ last) (sym (off-answered world d events m))

  last-answered : (world : World) (events : List Event) (e : Event) → is_on_connection number e ≡ true
      → answered world (events ++ e ∷ []) ≡ answered world events ++ outputs_in (turn institutions (world_from institutions world events) e).reply
  last-answered world [] e m = on-answered world e [] m ∙ append-nil (outputs_in (turn institutions world e).reply)
  last-answered world (d ∷ events) e m = last-at world d events e (is_on_connection number d) refl (last-answered (next_world world d) events e m)

  -- its stream grows
  abbrev PiecesGrow : List Event → Event → Type 0
  PiecesGrow events e = (p : List ℕ) × (octets_of_pieces number (events ++ e ∷ []) ≡ octets_of_pieces number events ++ p)

  abbrev StreamGrows : List Event → Event → Type 0
  StreamGrows events e = (p : List ℕ) × (stream_of number (events ++ e ∷ []) ≡ stream_of number events ++ p)

  piece-grows : (n : ℕ) (q : List ℕ) (events : List Event) (e : Event) (b : Bool) → (number == n) ≡ b → PiecesGrow events e
      → PiecesGrow (event.Piece n q ∷ events) e
  piece-grows n q events e true h g = rw h (g.0, ap (λ xs. q ++ xs) g.1 ∙ sym (append_assoc q (octets_of_pieces number events) g.0))
  piece-grows n q events e false h g = rw h g

  end-grows : (n : ℕ) (events : List Event) (e : Event) (b : Bool) → (number == n) ≡ b → PiecesGrow events e → PiecesGrow (event.End n ∷ events) e
  end-grows n events e true h g = rw h ([], refl)
  end-grows n events e false h g = rw h g

  pieces-grow : (events : List Event) (e : Event) → PiecesGrow events e
  pieces-grow [] e = (octets_of_pieces number (e ∷ []), refl)
  pieces-grow (event.Piece n q ∷ events) e = piece-grows n q events e (number == n) refl (pieces-grow events e)
  pieces-grow (event.End n ∷ events) e = end-grows n events e (number == n) refl (pieces-grow events e)
  pieces-grow (d ∷ events) e = pieces-grow events e

  open-grows : (n : ℕ) (events : List Event) (e : Event) (b : Bool) → (number == n) ≡ b → PiecesGrow events e → StreamGrows events e
      → StreamGrows (event.Open n ∷ events) e
  open-grows n events e true h g k = rw h g
  open-grows n events e false h g k = rw h k

  stream-grows : (events : List Event) (e : Event) → StreamGrows events e
  stream-grows [] e = (stream_of number (e ∷ []), refl)
  stream-grows (event.Open n ∷ events) e = open-grows n events e (number == n) refl (pieces-grow events e) (stream-grows events e)
  stream-grows (d ∷ events) e = stream-grows events e

  rises-front : (newest : Option ℕ) (events : List Event) (e : Event) → rises_from newest (events ++ e ∷ []) ≡ true → rises_from newest events ≡ true
  rises-front newest [] e r = refl
  rises-front newest (event.Open n ∷ events) e r =
      let both = both-true (is_above newest n) (rises_from (Some n) (events ++ e ∷ [])) r in rw both.0 (rises-front (Some n) events e both.1)
  rises-front newest (d ∷ events) e r = rises-front newest events e r

  pub conversed-at : (events : List Event) (e : Event) → is_well_formed_history (events ++ e ∷ []) ≡ true → owner institutions (stream_of number events) ≡ Some i
      → is_on_connection number e ≡ true → IsAnsweredAt institutions rows events number i e
  conversed-at events e w o m =
      let grown = stream-grows events e in
      let owned = ap (owner institutions) grown.1 ∙ owner_stays adds institutions (stream_of number events) grown.0 i o in
      sym (conversed (events ++ e ∷ []) w owned)
      ∙ last-answered (first_world rows) events e m
      ∙ ap (λ xs. xs ++ outputs_in (turn institutions (world_after institutions rows events) e).reply) (conversed events (rises-front None events e w) o)

  -- ---- a run

  rises-taken : (k : ℕ) (newest : Option ℕ) (events : List Event) → rises_from newest events ≡ true → rises_from newest (take k events) ≡ true
  rises-taken zero newest events r = refl
  rises-taken (suc k) newest [] r = refl
  rises-taken (suc k) newest (event.Open n ∷ events) r =
      let both = both-true (is_above newest n) (rises_from (Some n) events) r in rw both.0 (rises-taken k (Some n) events both.1)
  rises-taken (suc k) newest (d ∷ events) r = rises-taken k newest events r

  pub conversed-run : (events : List Event) (given : List Reply) (kept : List Row) → IsRun institutions rows events given kept
      → is_well_formed_history events ≡ true → owner institutions (stream_of number (take (length given) events)) ≡ Some i
      → outputs_on number events given ≡ conversation_on institutions rows number i (take (length given) events)
  conversed-run events given kept run w o =
      let k = length given in
      ap (outputs_on number events) run.first_replies
      ∙ ap (flat_map outputs_in) (replies-front institutions (is_on_connection number) k (first_world rows) events)
      ∙ conversed (take k events) (rises-taken k None events w) o
