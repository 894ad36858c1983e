-- An event of another: it changes nothing of the institution's.
use Rattle.std.proofs.Common.{arith, ◌≡◌, ℕ, zero, suc, Bool, true, false, List, [], ◌∷◌, ◌++◌, map, take, Option, Some, None, refl, sym, ap, ◌∙◌}
use Rattle.std.specs.List.{AllByRecursion}
use Rattle.std.proofs.lemmas.Bool.{false≢true}
use Rattle.std.proofs.lemmas.Slice.Eq.{bytes_eq-Decides}
use Rattle.std.specs.Str.{bytes_eq}
use Rattle.dq_core.proofs.isolation.Vocabulary.{Institution, Event, Row, ConsoleOrder, Scheduling, Withdrawal, next_page, Connection, with_query, connection_in, owner, is_institution, World, EventEffect, turn, answer_by, owner_turn, piece_turn, end_turn, pull_turn, order_turn, octets_of_pieces, is_on}
use Rattle.dq_core.specs.declared.event.Event.TheVariants as event
use Rattle.dq_config.specs.Routing.{institution_named}
use Rattle.dq_tables.specs.Rows.{Edit, edited_all, Operation, by, of, after, after_all, IsRising}
use Rattle.dq_core.proofs.isolation.Lists.{among, among-other_opened, without-other, with-other, piece-other, found-number}
use Rattle.dq_core.proofs.isolation.Streams.{AddsInputs, owner_stays}
use Rattle.dq_core.proofs.isolation.Sound.{Owned, Sound, owned-piece}
use Rattle.dq_core.proofs.isolation.Isolating.{Lenses, IsMine}

-- an operation on another institution's records
abbrev pub IsAnothers : List ℕ → Operation → Type 0
IsAnothers name o = o.institution ≡ name → ⊥

-- A turn that concerns others.
pub record IsOther (name : List ℕ) (mine : ℕ → Bool) (world : World) (t : EventEffect) : Type 0 where
  pub operations : AllByRecursion (IsAnothers name) t.operations
  pub connections : among mine t.connections ≡ among mine world.connections

other-names : (a b : List ℕ) → bytes_eq a b ≡ false → a ≡ b → ⊥
other-names a b h e = false≢true (sym h ∙ (bytes_eq-Decides a b).1 e)

all-by : (name another : List ℕ) (changes : List (List Edit)) → (another ≡ name → ⊥) → AllByRecursion (IsAnothers name) (map (by another) changes)
all-by name another [] ne = tt
all-by name another (edits ∷ changes) ne = (ne, all-by name another changes ne)

pub named-name : (name : List ℕ) (institutions : List Institution) (i : Institution) → institution_named institutions name ≡ Some i → bytes_eq i.name name ≡ true
unfolding institution_named
named-name name [] i e = cc
named-name name (x ∷ xs) i e = grind (arith, named-name name xs i)

module _ (adds : AddsInputs) (institutions : List Institution) (name : List ℕ) (mine : ℕ → Bool) (world : World) where
  -- a piece of a connection that another owns, or nobody
  other-owned : (c : Connection) (piece more : List ℕ) → mine c.number ≡ false → is_institution name (owner institutions ((c.stream ++ piece) ++ more)) ≡ false
      → (o : Option Institution) → owner institutions (c.stream ++ piece) ≡ o → IsOther name mine world (owner_turn o institutions world c piece)
  other-owned c piece more m final None e =
      record { operations = tt; connections = piece-other mine c piece (answer_by None institutions world c piece) world.connections m }
  other-owned c piece more m final (Some i) e =
      let ne : bytes_eq i.name name ≡ false = ap (is_institution name) (sym (owner_stays adds institutions (c.stream ++ piece) more i e)) ∙ final in
      let answer = answer_by (Some i) institutions world c piece in record {
        operations = all-by name i.name answer.changes (other-names i.name name ne);
        connections = piece-other mine c piece answer world.connections m;
      }

  other-piece : (n : ℕ) (piece : List ℕ) (rest : List Event) → AllByRecursion (Owned institutions (IsMine name mine) (event.Piece n piece ∷ rest))
      world.connections
      → mine n ≡ false → (o : Option Connection) → connection_in n world.connections ≡ o → IsOther name mine world (piece_turn institutions world piece o)
  other-piece n piece rest each m None e = record { operations = tt; connections = refl }
  other-piece n piece rest each m (Some c) e =
      let final = owned-piece institutions (IsMine name mine) n piece rest world.connections c e each in
      let mine_c : mine c.number ≡ false = ap mine (found-number n world.connections c e) ∙ m in
      other-owned c piece (octets_of_pieces c.number rest) mine_c (sym final ∙ mine_c) (owner institutions (c.stream ++ piece)) refl

  other-end : (n : ℕ) → mine n ≡ false → (o : Option Connection) → connection_in n world.connections ≡ o → IsOther name mine world (end_turn world o)
  other-end n m None e = record { operations = tt; connections = refl }
  other-end n m (Some c) e =
      record { operations = tt; connections = without-other mine c.number world.connections (ap mine (found-number n world.connections c e) ∙ m) }

  other-pull : (n : ℕ) → mine n ≡ false → (o : Option Connection) → connection_in n world.connections ≡ o → IsOther name mine world (pull_turn world o)
  other-pull n m None e = record { operations = tt; connections = refl }
  other-pull n m (Some c) e = record {
    operations = tt;
    connections = with-other mine (with_query (next_page c.query).query c) world.connections (ap mine (found-number n world.connections c e) ∙ m);
  }

  other-order : (inst : List ℕ) (order : ConsoleOrder) → bytes_eq inst name ≡ false → (o : Option Institution) → institution_named institutions inst ≡ o
      → IsOther name mine world (order_turn world order o)
  other-order inst order h None e = record { operations = tt; connections = refl }
  other-order inst order h (Some i) e =
      let same : i.name ≡ inst = (bytes_eq-Decides i.name inst).0 (named-name inst institutions i e) in
      record { operations = (λ is. other-names inst name h (sym same ∙ is), tt); connections = refl }

  pub other : (newest : Option ℕ) (e : Event) (rest : List Event) → Sound institutions (IsMine name mine) newest world.connections (e ∷ rest)
      → is_on mine (λ inst. bytes_eq inst name) e ≡ false → IsOther name mine world (turn institutions world e)
  other newest (event.Open n) rest s m = record { operations = tt; connections = among-other_opened mine n world.connections m }
  other newest (event.Piece n piece) rest s m = other-piece n piece rest s.owned m (connection_in n world.connections) refl
  other newest (event.End n) rest s m = other-end n m (connection_in n world.connections) refl
  other newest (event.Pull n) rest s m = other-pull n m (connection_in n world.connections) refl
  other newest (event.Schedule inst octets) rest s m = other-order inst (Scheduling octets) m (institution_named institutions inst) refl
  other newest (event.Withdraw inst id) rest s m = other-order inst (Withdrawal id) m (institution_named institutions inst) refl

-- rows after operations
module _ (lenses : Lenses) where
  pub rising-all : (operations : List Operation) (rows : List Row) → IsRising rows → IsRising (after_all operations rows)
  rising-all [] rows r = r
  rising-all (o ∷ operations) rows r = rising-all operations (after o rows) (lenses.rising o rows r)

  module _ (name : List ℕ) where
    pub own-rows : (changes : List (List Edit)) (rows : List Row) → of name (after_all (map (by name) changes) rows) ≡ edited_all changes (of name rows)
    own-rows [] rows = refl
    own-rows (edits ∷ changes) rows = own-rows changes (after (by name edits) rows) ∙ ap (edited_all changes) (lenses.same name edits rows)

    pub other-rows : (operations : List Operation) (rows : List Row) → IsRising rows → AllByRecursion (IsAnothers name) operations
        → of name (after_all operations rows) ≡ of name rows
    other-rows [] rows r all = refl
    other-rows (o ∷ operations) rows r all =
        other-rows operations (after o rows) (lenses.rising o rows r) all.1 ∙ lenses.other name o.institution o.edits rows all.0 r

-- some first operations alone
pub take-map : (name : List ℕ) (j : ℕ) (changes : List (List Edit)) → take j (map (by name) changes) ≡ map (by name) (take j changes)
take-map name zero changes = refl
take-map name (suc j) [] = refl
take-map name (suc j) (edits ∷ changes) = ap (λ os. by name edits ∷ os) (take-map name j changes)

pub all-take : (name : List ℕ) (j : ℕ) (operations : List Operation) → AllByRecursion (IsAnothers name) operations
    → AllByRecursion (IsAnothers name) (take j operations)
all-take name zero operations all = tt
all-take name (suc j) [] all = tt
all-take name (suc j) (o ∷ operations) all = (all.0, all-take name j operations all.1)
