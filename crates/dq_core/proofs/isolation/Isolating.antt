-- One event, at the shared server and at the server of one institution alone.
use Rattle.std.proofs.Common.{arith, ◌≡◌, ℕ, ◌&&◌, Bool, true, is_some, List, [], ◌∷◌, ◌++◌, map, length, Option, Some, None, refl, sym, ap, ◌∙◌}
use Rattle.std.specs.Prelude.{filter}
use Rattle.std.specs.List.{AllByRecursion}
use Rattle.std.proofs.lemmas.Bool.{false≢true}
use Rattle.std.proofs.lemmas.Slice.Eq.{bytes_eq-Decides}
use Rattle.std.specs.Str.{bytes_eq}
use Rattle.dq_core.proofs.isolation.Vocabulary.{Input, Requested, inputs, Institution, Event, Row, Limits, limits_of, no_answer, request_in, progress_of, inputs_added, next_page, Connection, with_query, connection_in, owner, owner_by, is_institution, live_of, World, EventEffect, turn, answer_by, owner_turn, piece_turn, end_turn, pull_turn, order_turn, AloneWorld, AloneTurn, alone_live, alone_piece, alone_answer, alone_answer_turn, alone_end, alone_pull, alone_order, alone_turn, octets_of_pieces, is_on}
use Rattle.dq_core.specs.declared.event.Event.TheVariants as event
use Rattle.dq_config.specs.Routing.{institution_named}
use Rattle.dq_tables.specs.Rows.{Edit, records_after_edits, Operation, by, of, after, IsRising}
use Rattle.dq_core.specs.Services.{ConsoleOrder, Scheduling, Withdrawal, console_outcome}
use Rattle.dq_core.proofs.isolation.Lists.{among, among-opened, in-among, without-among, with-among, piece-among, found-number, each-weaker}
use Rattle.dq_core.proofs.isolation.Streams.{AddsInputs, owner_stays, no_input_yet, front_without}
use Rattle.dq_core.proofs.isolation.Sound.{Owned, Sound, owned-piece}

-- an operation changes its own institution's records, and no other's
pub record Lenses : Type 0 where
  pub same : (name : List ℕ) (edits : List Edit) (rows : List Row) → of name (after (by name edits) rows) ≡ records_after_edits edits (of name rows)
  pub other : (name another : List ℕ) (edits : List Edit) (rows : List Row) → (another ≡ name → ⊥) → IsRising rows
      → of name (after (by another edits) rows) ≡ of name rows
  pub rising : (operation : Operation) (rows : List Row) → IsRising rows → IsRising (after operation rows)

-- the limits of the institution with a name
pub record Configured (institutions : List Institution) (name : List ℕ) (limits : Limits) : Type 0 where
  pub owner_limits : (stream : List ℕ) (i : Institution) → owner institutions stream ≡ Some i → i.name ≡ name → limits_of i ≡ limits
  pub known : (i : Institution) × (institution_named institutions name ≡ Some i) × (i.name ≡ name) × (limits_of i ≡ limits)

-- a test of numbers tells whether the institution with the name is the owner in the end
abbrev pub IsMine : List ℕ → (ℕ → Bool) → ℕ → Option Institution → Type 0
IsMine name mine number o = mine number ≡ is_institution name o

pub is_of-some : (name : List ℕ) (o : Option Institution) → is_institution name o ≡ true → (i : Institution) × (o ≡ Some i) × (i.name ≡ name)
is_of-some name None h = absurd (false≢true h)
is_of-some name (Some i) h = (i, refl, (bytes_eq-Decides i.name name).0 h)

-- a connection of the institution that is held is counted once it has sent its request
counted : (institutions : List Institution) (name : List ℕ) (xs ys : List Input) (m : Bool) → m ≡ is_institution name (owner_by institutions (request_in (xs ++ ys)))
    → is_institution name (owner_by institutions (request_in xs)) ≡ (m && is_some (request_in xs))
counted institutions name (Requested request ∷ xs) ys m h = rw (← h) (grind arith)
counted institutions name other ys m h = grind arith

count-each : (p m q : Connection → Bool) (cs : List Connection) → AllByRecursion (λ (c : Connection). p c ≡ (m c && q c)) cs
    → length (filter p cs) ≡ length (filter q (filter m cs))
count-each p m q [] each = refl
count-each p m q (c ∷ cs) each = let first = each.0 in grind (arith, count-each p m q cs each.1)

-- An event of the institution is answered and changes alike.
pub record IsAlike (name : List ℕ) (mine : ℕ → Bool) (t : EventEffect) (a : AloneTurn) : Type 0 where
  pub reply : t.reply ≡ a.reply
  pub operations : t.operations ≡ map (by name) a.changes
  pub connections : a.connections ≡ among mine t.connections

-- The shared server beside the server of one institution alone.
pub record IsBeside (name : List ℕ) (mine : ℕ → Bool) (world : World) (alone : AloneWorld) : Type 0 where
  pub connections : alone.connections ≡ among mine world.connections
  pub records : alone.records ≡ of name world.rows

no-added : (stream piece : List ℕ) → inputs stream ≡ [] → inputs (stream ++ piece) ≡ [] → inputs_added stream piece ≡ []
no-added stream piece e f = rw (e, f) refl

module _ (adds : AddsInputs) (institutions : List Institution) (name : List ℕ) (limits : Limits) (mine : ℕ → Bool) (world : World) (alone : AloneWorld)
    (configured : Configured institutions name limits) (b : IsBeside name mine world alone) where
  -- the shared server counts the same associations
  live-alone : (rest : List Event) → AllByRecursion (Owned institutions (IsMine name mine) rest) world.connections
      → live_of institutions name world.connections ≡ alone_live (among mine world.connections)
  live-alone rest each =
      count-each (λ c. is_institution name (owner institutions c.stream)) (λ c. mine c.number) (λ c. is_some (request_in (inputs c.stream))) world.connections
      (each-weaker (Owned institutions (IsMine name mine) rest)
      (λ c. is_institution name (owner institutions c.stream) ≡ (mine c.number && is_some (request_in (inputs c.stream))))
      (λ c o. let more = adds c.stream (octets_of_pieces c.number rest) in
      counted institutions name (inputs c.stream) more.0 (mine c.number) (o ∙ ap (λ xs. is_institution name (owner_by institutions (request_in xs))) more.1))
      world.connections each)

  alike-owned : (rest : List Event) (c : Connection) (piece more : List ℕ) → AllByRecursion (Owned institutions (IsMine name mine) rest) world.connections
      → mine c.number ≡ true → is_institution name (owner institutions ((c.stream ++ piece) ++ more)) ≡ true
      → (o : Option Institution) → owner institutions (c.stream ++ piece) ≡ o
      → IsAlike name mine (owner_turn o institutions world c piece) (alone_answer_turn alone c piece (alone_answer limits alone c piece))
  alike-owned rest c piece more each m final (Some i) e =
      let f = is_of-some name (owner institutions ((c.stream ++ piece) ++ more)) final in
      let same : Some i ≡ Some f.0 = sym (owner_stays adds institutions (c.stream ++ piece) more i e) ∙ f.1 in
      let i_is : i ≡ f.0 = cc in
      let n : i.name ≡ name = ap (λ (j : Institution). j.name) i_is ∙ f.2 in
      let l = configured.owner_limits (c.stream ++ piece) i e n in
      let answer = answer_by (Some i) institutions world c piece in
      let is : alone_answer limits alone c piece ≡ answer = rw (← l, b.connections, b.records, n, live-alone rest each) refl in
      rw (is, b.connections) (record {
        reply = refl;
        operations = ap (λ m. map (by m) answer.changes) n;
        connections = sym (piece-among mine c piece answer world.connections m);
      })
  alike-owned rest c piece more each m final None e =
      let f = is_of-some name (owner institutions ((c.stream ++ piece) ++ more)) final in
      let none = no_input_yet adds institutions (c.stream ++ piece) more f.0 e f.1 in
      rw (no-added c.stream piece (front_without adds c.stream piece none) none, b.connections) (record {
        reply = refl;
        operations = refl;
        connections = sym (piece-among mine c piece (no_answer (progress_of c [])) world.connections m);
      })

  alike-piece : (n : ℕ) (piece : List ℕ) (rest : List Event) → AllByRecursion (Owned institutions (IsMine name mine) (event.Piece n piece ∷ rest))
      world.connections
      → mine n ≡ true → (o : Option Connection) → connection_in n world.connections ≡ o
      → IsAlike name mine (piece_turn institutions world piece o) (alone_piece limits alone piece o)
  alike-piece n piece rest each m None e = record { reply = refl; operations = refl; connections = b.connections }
  alike-piece n piece rest each m (Some c) e =
      let final = owned-piece institutions (IsMine name mine) n piece rest world.connections c e each in
      let mine_c : mine c.number ≡ true = ap mine (found-number n world.connections c e) ∙ m in
      alike-owned (event.Piece n piece ∷ rest) c piece (octets_of_pieces c.number rest) each mine_c (sym final ∙ mine_c) (owner institutions (c.stream ++ piece)) refl

  alike-end : (n : ℕ) → mine n ≡ true → (o : Option Connection) → connection_in n world.connections ≡ o
      → IsAlike name mine (end_turn world o) (alone_end alone o)
  alike-end n m None e = record { reply = refl; operations = refl; connections = b.connections }
  alike-end n m (Some c) e =
      let mine_c : mine c.number ≡ true = ap mine (found-number n world.connections c e) ∙ m in
      record { reply = refl; operations = refl; connections = rw b.connections (sym (without-among mine c.number world.connections mine_c)) }

  alike-pull : (n : ℕ) → mine n ≡ true → (o : Option Connection) → connection_in n world.connections ≡ o
      → IsAlike name mine (pull_turn world o) (alone_pull alone o)
  alike-pull n m None e = record { reply = refl; operations = refl; connections = b.connections }
  alike-pull n m (Some c) e =
      let mine_c : mine c.number ≡ true = ap mine (found-number n world.connections c e) ∙ m in record {
        reply = refl;
        operations = refl;
        connections = rw b.connections (sym (with-among mine (with_query (next_page c.query).query c) world.connections mine_c));
      }

  alike-order : (inst : List ℕ) (order : ConsoleOrder) → bytes_eq inst name ≡ true
      → IsAlike name mine (order_turn world order (institution_named institutions inst)) (alone_order alone (console_outcome limits alone.records order))
  alike-order inst order h =
      let i = configured.known in
      let found : institution_named institutions inst ≡ Some i.0 = ap (institution_named institutions) ((bytes_eq-Decides inst name).0 h) ∙ i.1 in
      let same : console_outcome limits alone.records order ≡ console_outcome (limits_of i.0) (of i.0.name world.rows) order = rw (i.3, i.2, b.records) refl in
      rw (found, same) (record {
        reply = refl;
        operations = ap (λ n. by n (console_outcome (limits_of i.0) (of i.0.name world.rows) order).edits ∷ []) i.2;
        connections = b.connections;
      })

  -- an event of the institution
  pub alike : (newest : Option ℕ) (e : Event) (rest : List Event) → Sound institutions (IsMine name mine) newest world.connections (e ∷ rest)
      → is_on mine (λ inst. bytes_eq inst name) e ≡ true → IsAlike name mine (turn institutions world e) (alone_turn limits alone e)
  alike newest (event.Open n) rest s m =
      rw b.connections (record { reply = refl; operations = refl; connections = sym (among-opened mine n world.connections m) })
  alike newest (event.Piece n piece) rest s m =
      let same : connection_in n alone.connections ≡ connection_in n world.connections = rw b.connections (in-among mine n world.connections m) in
      rw same (alike-piece n piece rest s.owned m (connection_in n world.connections) refl)
  alike newest (event.End n) rest s m =
      let same : connection_in n alone.connections ≡ connection_in n world.connections = rw b.connections (in-among mine n world.connections m) in
      rw same (alike-end n m (connection_in n world.connections) refl)
  alike newest (event.Pull n) rest s m =
      let same : connection_in n alone.connections ≡ connection_in n world.connections = rw b.connections (in-among mine n world.connections m) in
      rw same (alike-pull n m (connection_in n world.connections) refl)
  alike newest (event.Schedule inst octets) rest s m = alike-order inst (Scheduling octets) m
  alike newest (event.Withdraw inst id) rest s m = alike-order inst (Withdrawal id) m

-- the laws of rows as they are stated
pub lenses_from : ((name : List ℕ) (edits : List Edit) (rows : List Row) → of name (after (by name edits) rows) ≡ records_after_edits edits (of name rows))
    → ((name another : List ℕ) → (another ≡ name → ⊥) → (edits : List Edit) (rows : List Row) → IsRising rows
    → of name (after (by another edits) rows) ≡ of name rows)
    → ((operation : Operation) (rows : List Row) → IsRising rows → IsRising (after operation rows)) → Lenses
lenses_from same other rising = record { same = same; other = λ name another edits rows ne r. other name another ne edits rows r; rising = rising }
