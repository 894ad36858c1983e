-- However octets are cut into pieces, a connection of the server alone is answered with the same octets.
use Rattle.std.proofs.Common.{◌≡◌, ◌<◌, ◌≤◌, ◌+◌, ◌==◌, ◌&&◌, ℕ, suc, Bool, true, false, if◌then◌else◌, List, [], ◌∷◌, ◌++◌, length, Option, Some, None, is_some, refl, sym, ◌∙◌, ap, arith, append_assoc}
use Rattle.std.specs.Prelude.{filter}
use Rattle.std.specs.List.{flat_map}
use Rattle.std.proofs.lemmas.List.{append-nil}
use Rattle.std.proofs.lemmas.Bool.Decides.{nat_tests}
use Rattle.dq_pdu.specs.declared.pdu.Request.{Request}
use Rattle.dq_assoc.specs.declared.association.Verdict.{Verdict}
use Rattle.dq_assoc.specs.Table.{Input, Requested, Sent, Released, PeerAborted, Stray, Bad}
use Rattle.dq_assoc.specs.Inputs.{inputs}
use Rattle.dq_assoc.specs.declared.agreement.Agreement.{Agreement}
use Rattle.dq_config.specs.Limits.{Limits}
use Rattle.dq_tables.specs.Rows.{Record, Edit, edited_all}
use Rattle.dq_core.specs.declared.event.Event.{Event}
use Rattle.dq_core.specs.declared.event.Event.TheVariants as event
use Rattle.dq_core.specs.declared.event.Reply.TheVariants as reply
use Rattle.dq_core.specs.Pages.{next_page}
use Rattle.dq_core.specs.Answers.{Progress, Answer, then_answer, answer_after, input_answer, input_answers, request_in, piece_answer, verdict_at, progress_of, inputs_added, after_piece}
use Rattle.dq_core.specs.Connections.{Connection, new_connection, with_piece, with_query, connection_in, without, with_connection}
use Rattle.dq_core.specs.Alone.{AloneWorld, AloneTurn, alone_quiet, alone_live, alone_answer, alone_answer_turn, alone_piece, alone_end, alone_pull, alone_turn, alone_after_turn, alone_replies_from}
use Rattle.dq_core.specs.Own.{is_on_connection, replies_at}
use Rattle.dq_core.specs.Histories.{is_above, rises_from}
use Rattle.dq_wires.specs.HeldConnections.{reply_octets}
use Rattle.dq_wires.specs.Cuts.{joined_to, joined_pieces}
use Rattle.dq_wires.proofs.Answering.{octets-chosen}

-- the laws of the crates below
abbrev pub Joins : Type 0
Joins = (limits : Limits) (verdict : Verdict) (records : List Record) (c : Connection) (first second : List ℕ)
    → let front = piece_answer limits verdict records c first in
    piece_answer limits verdict records c (first ++ second)
    ≡ then_answer front (piece_answer limits verdict front.next.records (with_piece c first front.next.query) second)

abbrev pub OfRequest : Type 0
OfRequest = (limits : Limits) (verdict other : Verdict) (records : List Record) (c : Connection) (piece : List ℕ) (request : Request)
    → request_in (inputs c.stream) ≡ Some request
    → piece_answer limits verdict records c piece ≡ piece_answer limits other records c piece

abbrev pub Adds : Type 0
Adds = (stream more : List ℕ) → (added : List Input) × (inputs (stream ++ more) ≡ inputs stream ++ added)

-- connections by rising numbers, from one on and below another
abbrev pub RisesFrom : ℕ → List Connection → ℕ → Type 0
RisesFrom low [] top = low ≤ top
RisesFrom low (c ∷ cs) top = (low ≤ c.number) × RisesFrom (c.number + 1) cs top

same : (n m : ℕ) → (m == n) ≡ true → m ≡ n
same n m h = grind (arith, nat_tests)

differ : (n m : ℕ) → n < m → (m == n) ≡ false
differ n m h = grind (arith, nat_tests)

found : (n : ℕ) (cs : List Connection) (c : Connection) → connection_in n cs ≡ Some c → c.number ≡ n
found n [] c e = cc
found n (d ∷ cs) c e = by (d.number == n) refl (found n cs c) where
  by : (b : Bool) → (d.number == n) ≡ b → (connection_in n cs ≡ Some c → c.number ≡ n) → c.number ≡ n
  by true t later = let this : d ≡ c = (let f = rw t at e in cc) in sym (ap (λ (x : Connection). x.number) this) ∙ same n d.number t
  by false t later = later (rw t at e)

none-below : (n : ℕ) (cs : List Connection) (low top : ℕ) → n < low → RisesFrom low cs top → connection_in n cs ≡ None
none-below n [] low top h r = refl
none-below n (c ∷ cs) low top h r =
    rw (differ n c.number (omega (arith, r.0))) (none-below n cs (c.number + 1) top (omega (arith, r.0)) r.1)

lower : (cs : List Connection) (low less top : ℕ) → less ≤ low → RisesFrom low cs top → RisesFrom less cs top
lower [] low less top h r = omega arith
lower (c ∷ cs) low less top h r = (omega (arith, r.0), r.1)

none-without : (n : ℕ) (cs : List Connection) (low top : ℕ) → RisesFrom low cs top → connection_in n (without n cs) ≡ None
none-without n [] low top r = refl
none-without n (c ∷ cs) low top r = by (c.number == n) refl (none-without n cs (c.number + 1) top r.1) where
  by : (b : Bool) → (c.number == n) ≡ b → connection_in n (without n cs) ≡ None → connection_in n (without n (c ∷ cs)) ≡ None
  by true t later = let e = same n c.number t in rw t (none-below n cs (c.number + 1) top (omega arith) r.1)
  by false t later = rw (t, t) later

rises-without : (n : ℕ) (cs : List Connection) (low top : ℕ) → RisesFrom low cs top → RisesFrom low (without n cs) top
rises-without n [] low top r = r
rises-without n (c ∷ cs) low top r = by (c.number == n) refl (rises-without n cs (c.number + 1) top r.1) where
  by : (b : Bool) → (c.number == n) ≡ b → RisesFrom (c.number + 1) (without n cs) top → RisesFrom low (without n (c ∷ cs)) top
  by true t later = rw t (lower cs (c.number + 1) low top (omega (arith, r.0)) r.1)
  by false t later = rw t (r.0, later)

rises-with : (new : Connection) (cs : List Connection) (low top : ℕ) → RisesFrom low cs top → RisesFrom low (with_connection new cs) top
rises-with new [] low top r = r
rises-with new (c ∷ cs) low top r = by (c.number == new.number) refl (rises-with new cs (c.number + 1) top r.1) where
  by : (b : Bool) → (c.number == new.number) ≡ b → RisesFrom (c.number + 1) (with_connection new cs) top → RisesFrom low (with_connection new (c ∷ cs)) top
  by true t later = let e = same new.number c.number t in rw (t, ← e) r
  by false t later = rw t (r.0, later)

rises-open : (n : ℕ) (cs : List Connection) (low top : ℕ) → top ≤ n → RisesFrom low cs top → RisesFrom low (cs ++ new_connection n ∷ []) (n + 1)
rises-open n [] low top h r = (omega arith, omega arith)
rises-open n (c ∷ cs) low top h r = (r.0, rises-open n cs (c.number + 1) top h r.1)

-- opened numbers rise from one on
abbrev pub Formed : ℕ → List Event → Type 0
Formed top [] = Unit {0}
Formed top (event.Open n ∷ events) = (top ≤ n) × Formed (n + 1) events
Formed top (event ∷ events) = Formed top events

abbrev top_of : Option ℕ → ℕ
top_of None = 0
top_of (Some n) = n + 1

both : (a b : Bool) → (a && b) ≡ true → (a ≡ true) × (b ≡ true)
both true b h = (refl, h)
both false b h = cc

above : (newest : Option ℕ) (n : ℕ) → is_above newest n ≡ true → top_of newest ≤ n
above None n h = omega arith
above (Some m) n h = grind (arith, nat_tests)

pub formed : (newest : Option ℕ) (events : List Event) → rises_from newest events ≡ true → Formed (top_of newest) events
formed newest [] h = tt
formed newest (event.Open n ∷ events) h =
    let p = both (is_above newest n) (rises_from (Some n) events) h in (above newest n p.0, formed (Some n) events p.1)
formed newest (other ∷ events) h = formed newest events h

formed-lower : (top less : ℕ) (events : List Event) → less ≤ top → Formed top events → Formed less events
formed-lower top less [] h f = tt
formed-lower top less (event.Open n ∷ events) h f = (omega (arith, f.0), f.1)
formed-lower top less (other ∷ events) h f = formed-lower top less events h f

-- what is said of events with one and without it is said where it is left out or not
kept-or-not : (P : List Event → Type 0) (e : Event) (events : List Event) (b : Bool) → P (e ∷ events) → P events → P (if b then e ∷ events else events)
kept-or-not P e events true kept not_kept = kept
kept-or-not P e events false kept not_kept = not_kept

-- so they do among the events that pass a test
pub formed-among : (mine : Event → Bool) (top : ℕ) (events : List Event) → Formed top events → Formed top (filter mine events)
formed-among mine top [] f = tt
formed-among mine top (event.Open n ∷ events) f =
    let later = formed-among mine (n + 1) events f.1 in
    kept-or-not (Formed top) (event.Open n) (filter mine events) (mine (event.Open n)) (f.0, later)
    (formed-lower (n + 1) top (filter mine events) (omega (arith, f.0)) later)
formed-among mine top (e ∷ events) f =
    let later = formed-among mine top events f in kept-or-not (Formed top) e (filter mine events) (mine e) later later

-- edits in turn
edited-append : (first later : List (List Edit)) (records : List Record) → edited_all (first ++ later) records ≡ edited_all later (edited_all first records)
edited-append [] later records = refl
edited-append (es ∷ first) later records = edited-append first later _

-- what later inputs go on from are the records with the edits
answer-records : (limits : Limits) (verdict : Verdict) (agreement : Option Agreement) (progress : Progress) (input : Input)
    → (answer_after agreement limits verdict progress input).next.records ≡ edited_all (answer_after agreement limits verdict progress input).changes progress.records
answer-records limits verdict None progress input = refl
answer-records limits verdict (Some agreement) progress (Requested request) = refl
answer-records limits verdict (Some agreement) progress (Sent message) = refl
answer-records limits verdict (Some agreement) progress Released = refl
answer-records limits verdict (Some agreement) progress (PeerAborted source reason) = refl
answer-records limits verdict (Some agreement) progress Stray = refl
answer-records limits verdict (Some agreement) progress (Bad reason) = refl

then-records : (records : List Record) (first later : Answer) → first.next.records ≡ edited_all first.changes records
    → later.next.records ≡ edited_all later.changes first.next.records
    → (then_answer first later).next.records ≡ edited_all (then_answer first later).changes records
then-records records first later a b = by first.close refl where
  by : (close : Bool) → first.close ≡ close → (then_answer first later).next.records ≡ edited_all (then_answer first later).changes records
  by true e = rw e a
  by false e = rw e (b ∙ ap (edited_all later.changes) a ∙ sym (edited-append first.changes later.changes records))

answers-records : (limits : Limits) (verdict : Verdict) (progress : Progress) (xs : List Input)
    → (input_answers limits verdict progress xs).next.records ≡ edited_all (input_answers limits verdict progress xs).changes progress.records
answers-records limits verdict progress [] = refl
answers-records limits verdict progress (x ∷ xs) =
    let first = input_answer limits verdict progress x in
    then-records progress.records first (input_answers limits verdict first.next xs) (answer-records limits verdict progress.agreement progress x)
    (answers-records limits verdict first.next xs)

same-count : (x y : Connection) (l : List Connection) (b c : Bool) → b ≡ c → length (if b then x ∷ l else l) ≡ length (if c then y ∷ l else l)
same-count x y l true true e = refl
same-count x y l false false e = refl
same-count x y l true false e = cc
same-count x y l false true e = cc

-- a connection in place of another: how many pass a test, what is found, and what a further change leaves
count-with : (p : Connection → Bool) (new c : Connection) (cs : List Connection) → connection_in new.number cs ≡ Some c → p c ≡ p new
    → length (filter p (with_connection new cs)) ≡ length (filter p cs)
count-with p new c [] e h = refl
count-with p new c (d ∷ cs) e h = by (d.number == new.number) refl (count-with p new c cs) where
  by : (b : Bool) → (d.number == new.number) ≡ b
      → (connection_in new.number cs ≡ Some c → p c ≡ p new → length (filter p (with_connection new cs)) ≡ length (filter p cs))
      → length (filter p (with_connection new (d ∷ cs))) ≡ length (filter p (d ∷ cs))
  by true t later =
      let this : d ≡ c = (let f = rw t at e in cc) in
      let alike : p new ≡ p d = sym h ∙ ap p (sym this) in rw t (same-count new d (filter p cs) (p new) (p d) alike)
  by false t later =
      let rest = later (rw t at e) h in rw t (counted (p d) rest) where
        counted : (b : Bool) → length (filter p (with_connection new cs)) ≡ length (filter p cs)
            → length (if b then d ∷ filter p (with_connection new cs) else filter p (with_connection new cs))
            ≡ length (if b then d ∷ filter p cs else filter p cs)
        counted true rest = ap (λ n. suc n) rest
        counted false rest = rest

found-with : (new c : Connection) (cs : List Connection) → connection_in new.number cs ≡ Some c → connection_in new.number (with_connection new cs) ≡ Some new
found-with new c [] e = cc
found-with new c (d ∷ cs) e = by (d.number == new.number) refl (found-with new c cs) where
  by : (b : Bool) → (d.number == new.number) ≡ b
      → (connection_in new.number cs ≡ Some c → connection_in new.number (with_connection new cs) ≡ Some new)
      → connection_in new.number (with_connection new (d ∷ cs)) ≡ Some new
  by true t later = let self : (new.number == new.number) ≡ true = grind (arith, nat_tests) in rw (t, self) refl
  by false t later = rw (t, t) (later (rw t at e))

without-with : (new : Connection) (cs : List Connection) → without new.number (with_connection new cs) ≡ without new.number cs
without-with new [] = refl
without-with new (d ∷ cs) = by (d.number == new.number) refl (without-with new cs) where
  by : (b : Bool) → (d.number == new.number) ≡ b → without new.number (with_connection new cs) ≡ without new.number cs
      → without new.number (with_connection new (d ∷ cs)) ≡ without new.number (d ∷ cs)
  by true t later = let self : (new.number == new.number) ≡ true = grind (arith, nat_tests) in rw (t, self) refl
  by false t later = rw (t, t) (ap (λ l. d ∷ l) later)

with-with : (new last : Connection) (cs : List Connection) → last.number ≡ new.number
    → with_connection last (with_connection new cs) ≡ with_connection last cs
with-with new last [] h = refl
with-with new last (d ∷ cs) h = by (d.number == new.number) refl (with-with new last cs h) where
  by : (b : Bool) → (d.number == new.number) ≡ b → with_connection last (with_connection new cs) ≡ with_connection last cs
      → with_connection last (with_connection new (d ∷ cs)) ≡ with_connection last (d ∷ cs)
  by true t later =
      let self : (new.number == last.number) ≡ true = grind (arith, nat_tests) in
      let that : (d.number == last.number) ≡ true = rw h t in rw (t, self, that) refl
  by false t later = let that : (d.number == last.number) ≡ false = rw h t in rw (t, that) (ap (λ l. d ∷ l) later)

-- two answers, where the first closes or not
abbrev answers_together : Answer → Answer → Answer
answers_together first later = record {
  octets = first.octets ++ later.octets;
  close = later.close;
  changes = first.changes ++ later.changes;
  next = later.next;
}

then-closed : (first later : Answer) → first.close ≡ true → then_answer first later ≡ first
then-closed first later e = rw e refl

then-open : (first later : Answer) → first.close ≡ false → then_answer first later ≡ answers_together first later
then-open first later e = rw e refl

closed-piece : (c : Connection) (piece : List ℕ) (a : Answer) (cs : List Connection) → a.close ≡ true → after_piece c piece a cs ≡ without c.number cs
closed-piece c piece a cs e = rw e refl

open-piece : (c : Connection) (piece : List ℕ) (a : Answer) (cs : List Connection) → a.close ≡ false
    → after_piece c piece a cs ≡ with_connection (with_piece c piece a.next.query) cs
open-piece c piece a cs e = rw e refl

abbrev with_records : List Connection → List Record → AloneWorld
with_records cs records = record { connections = cs; records = records }

-- no request yet
none-before : (xs ys : List Input) → request_in (xs ++ ys) ≡ None → request_in xs ≡ None
none-before (Requested request ∷ xs) ys e = cc
none-before other ys e = refl

-- the octets on a connection, of the replies to events from a world on
abbrev pub octets_from : Limits → ℕ → AloneWorld → List Event → List ℕ
octets_from limits n world events = flat_map reply_octets (replies_at (is_on_connection n) events (alone_replies_from limits world events))

-- A turn, and another after it.
module _ (joins : Joins) (of_request : OfRequest) (adds : Adds) (limits : Limits) where
  turn-none : (world : AloneWorld) (m : ℕ) (piece : List ℕ) → connection_in m world.connections ≡ None
      → alone_turn limits world (event.Piece m piece) ≡ alone_quiet reply.Ignored world.connections
  turn-none world m piece e = ap (alone_piece limits world piece) e

  turn-some : (world : AloneWorld) (m : ℕ) (piece : List ℕ) (c : Connection) → connection_in m world.connections ≡ Some c
      → alone_turn limits world (event.Piece m piece) ≡ alone_answer_turn world c piece (alone_answer limits world c piece)
  turn-some world m piece c e = ap (alone_piece limits world piece) e

  -- a turn does what a first one and the one of a further piece do
  abbrev Two : AloneWorld → ℕ → List ℕ → AloneTurn → AloneTurn → Type 0
  Two world m second whole first =
      let mid = alone_after_turn world first in
      let next = alone_turn limits mid (event.Piece m second) in
      (reply_octets whole.reply ≡ reply_octets first.reply ++ reply_octets next.reply) × (alone_after_turn world whole ≡ alone_after_turn mid next)

  move : (world : AloneWorld) (m : ℕ) (second : List ℕ) {t u x y : AloneTurn} → t ≡ x → u ≡ y → Two world m second x y → Two world m second t u
  move world m second e f two = rw (e, f) two

  two-next : (world : AloneWorld) (m : ℕ) (second : List ℕ) (whole first next : AloneTurn)
      → alone_turn limits (alone_after_turn world first) (event.Piece m second) ≡ next
      → reply_octets whole.reply ≡ reply_octets first.reply ++ reply_octets next.reply
      → alone_after_turn world whole ≡ alone_after_turn (alone_after_turn world first) next → Two world m second whole first
  two-next world m second whole first next e octets after = (
    octets ∙ ap (λ (t : AloneTurn). reply_octets first.reply ++ reply_octets t.reply) (sym e),
    after ∙ ap (alone_after_turn (alone_after_turn world first)) (sym e),
  )

  same-live : (new c : Connection) (cs : List Connection) → connection_in new.number cs ≡ Some c → request_in (inputs new.stream) ≡ None
      → request_in (inputs c.stream) ≡ None → alone_live (with_connection new cs) ≡ alone_live cs
  same-live new c cs e a b =
      count-with (λ (d : Connection). is_some (request_in (inputs d.stream))) new c cs e (rw (a, b) refl)

  module _ (world : AloneWorld) (top : ℕ) (rises : RisesFrom 0 world.connections top) (m : ℕ) (a b : List ℕ) (c : Connection)
      (held : connection_in m world.connections ≡ Some c) where
    abbrev now : Verdict
    now = verdict_at limits.associations (alone_live world.connections)

    abbrev front : Answer
    front = piece_answer limits now world.records c a

    abbrev more : Connection
    more = with_piece c a front.next.query

    abbrev later : Answer
    later = piece_answer limits now front.next.records more b

    abbrev whole : AloneTurn
    whole = alone_answer_turn world c (a ++ b) (then_answer front later)

    abbrev first : AloneTurn
    first = alone_answer_turn world c a front

    held-own : connection_in c.number world.connections ≡ Some c
    held-own = ap (λ (n : ℕ). connection_in n world.connections) (found m world.connections c held) ∙ held

    -- the first closes
    two-closed : front.close ≡ true → Two world m b whole first
    two-closed e =
        let is_front = then-closed front later e in
        let gone : connection_in m (after_piece c a front world.connections) ≡ None =
        rw (e, found m world.connections c held) (none-without m world.connections 0 top rises) in
        let alike : after_piece c (a ++ b) front world.connections ≡ after_piece c a front world.connections =
        closed-piece c (a ++ b) front world.connections e ∙ sym (closed-piece c a front world.connections e) in
        two-next world m b whole first (alone_quiet reply.Ignored (after_piece c a front world.connections))
        (turn-none (alone_after_turn world first) m b gone) (ap (λ (x : Answer). x.octets) is_front ∙ sym (append-nil front.octets))
        (ap (λ (x : Answer). alone_after_turn world (alone_answer_turn world c (a ++ b) x)) is_front
        ∙ ap (λ cs. with_records cs (edited_all front.changes world.records)) alike)

    -- the verdict is the same one, or it is not read
    verdict-at : (request : Option Request) → request_in (inputs (c.stream ++ a)) ≡ request → (records : List Record)
        → piece_answer limits (verdict_at limits.associations (alone_live (with_connection more world.connections))) records more b
        ≡ piece_answer limits now records more b
    verdict-at (Some request) e records = of_request limits _ now records more b request e
    verdict-at None e records =
        let before : request_in (inputs c.stream) ≡ None =
        (let added = adds c.stream a in none-before (inputs c.stream) added.0 (rw added.1 at e)) in
        ap (λ (n : ℕ). piece_answer limits (verdict_at limits.associations n) records more b)
        (same-live more c world.connections held-own e before)

    there : front.close ≡ false → after_piece c a front world.connections ≡ with_connection more world.connections
    there e = open-piece c a front world.connections e

    abbrev together : Answer
    together = answers_together front later

    same-connections : front.close ≡ false → (close : Bool) → later.close ≡ close
        → after_piece c (a ++ b) together world.connections ≡ after_piece more b later (after_piece c a front world.connections)
    same-connections e true f =
        closed-piece c (a ++ b) together world.connections f ∙ sym (without-with more world.connections) ∙ ap (without more.number) (sym (there e))
        ∙ sym (closed-piece more b later (after_piece c a front world.connections) f)
    same-connections e false f =
        open-piece c (a ++ b) together world.connections f
        ∙ ap (λ (stream : List ℕ). with_connection (record c { stream = stream; query = later.next.query }) world.connections) (sym (append_assoc c.stream a b))
        ∙ sym (with-with more (with_piece more b later.next.query) world.connections refl)
        ∙ ap (with_connection (with_piece more b later.next.query)) (sym (there e))
        ∙ sym (open-piece more b later (after_piece c a front world.connections) f)

    two-open : front.close ≡ false → Two world m b whole first
    two-open e =
        let mid = alone_after_turn world first in
        let is_both = then-open front later e in
        let found-more : connection_in m mid.connections ≡ Some more =
        ap (connection_in m) (there e) ∙ ap (λ (n : ℕ). connection_in n (with_connection more world.connections)) (sym (found m world.connections c held))
        ∙ found-with more c world.connections held-own in
        let records : mid.records ≡ front.next.records =
        sym (answers-records limits now (progress_of c world.records) (inputs_added c.stream a)) in
        let answered : alone_answer limits mid more b ≡ later =
        ap (λ (cs : List Connection). piece_answer limits (verdict_at limits.associations (alone_live cs)) mid.records more b) (there e)
        ∙ ap (λ (rs : List Record). piece_answer limits (verdict_at limits.associations (alone_live (with_connection more world.connections))) rs
        more b) records
        ∙ verdict-at (request_in (inputs (c.stream ++ a))) refl front.next.records in
        let next : alone_turn limits mid (event.Piece m b) ≡ alone_answer_turn mid more b later =
        turn-some mid m b more found-more ∙ ap (alone_answer_turn mid more b) answered in
        two-next world m b whole first (alone_answer_turn mid more b later) next (ap (λ (x : Answer). x.octets) is_both)
        (ap (λ (x : Answer). alone_after_turn world (alone_answer_turn world c (a ++ b) x)) is_both
        ∙ ap (λ cs. with_records cs (edited_all (front.changes ++ later.changes) world.records)) (same-connections e later.close refl)
        ∙ ap (with_records (after_piece more b later mid.connections)) (edited-append front.changes later.changes world.records))

    two-held : Two world m b (alone_turn limits world (event.Piece m (a ++ b))) (alone_turn limits world (event.Piece m a))
    two-held =
        move world m b (turn-some world m (a ++ b) c held ∙ ap (alone_answer_turn world c (a ++ b)) (joins limits now world.records c a b))
        (turn-some world m a c held) (by front.close refl)
      where
        by : (close : Bool) → front.close ≡ close → Two world m b whole first
        by true e = two-closed e
        by false e = two-open e

  two-turns : (world : AloneWorld) (top : ℕ) → RisesFrom 0 world.connections top → (m : ℕ) (a b : List ℕ)
      → Two world m b (alone_turn limits world (event.Piece m (a ++ b))) (alone_turn limits world (event.Piece m a))
  two-turns world top rises m a b = by (connection_in m world.connections) refl where
    by : (o : Option Connection) → connection_in m world.connections ≡ o
        → Two world m b (alone_turn limits world (event.Piece m (a ++ b))) (alone_turn limits world (event.Piece m a))
    by None e =
        move world m b (turn-none world m (a ++ b) e) (turn-none world m a e)
        (two-next world m b (alone_quiet reply.Ignored world.connections) (alone_quiet reply.Ignored world.connections)
        (alone_quiet reply.Ignored world.connections) (turn-none world m b e) refl refl)
    by (Some c) e = two-held world top rises m a b c e

  octets-cons : (n : ℕ) (world : AloneWorld) (e : Event) (events : List Event)
      → octets_from limits n world (e ∷ events)
      ≡ (if is_on_connection n e then reply_octets (alone_turn limits world e).reply else [])
      ++ octets_from limits n (alone_after_turn world (alone_turn limits world e)) events
  octets-cons n world e events =
      octets-chosen (is_on_connection n e) (alone_turn limits world e).reply
      (replies_at (is_on_connection n) events (alone_replies_from limits (alone_after_turn world (alone_turn limits world e)) events))

  in-two : (b : Bool) (x y z : List ℕ) → (if b then x ++ y else []) ++ z ≡ (if b then x else []) ++ ((if b then y else []) ++ z)
  in-two true x y z = append_assoc x y z
  in-two false x y z = refl

  one-piece : (n : ℕ) (world : AloneWorld) (top : ℕ) → RisesFrom 0 world.connections top → (m : ℕ) (a b : List ℕ) (events : List Event)
      → octets_from limits n world (event.Piece m (a ++ b) ∷ events) ≡ octets_from limits n world (event.Piece m a ∷ event.Piece m b ∷ events)
  one-piece n world top rises m a b events =
      let whole = alone_turn limits world (event.Piece m (a ++ b)) in
      let first = alone_turn limits world (event.Piece m a) in
      let mid = alone_after_turn world first in
      let next = alone_turn limits mid (event.Piece m b) in
      let two = two-turns world top rises m a b in
      octets-cons n world (event.Piece m (a ++ b)) events
      ∙ rw (two.0, two.1) (in-two (m == n) (reply_octets first.reply) (reply_octets next.reply) (octets_from limits n (alone_after_turn mid next) events))
      ∙ ap (λ rest. (if m == n then reply_octets first.reply else []) ++ rest) (sym (octets-cons n mid (event.Piece m b) events))
      ∙ sym (octets-cons n world (event.Piece m a) (event.Piece m b ∷ events))

  joined-first : (n : ℕ) (world : AloneWorld) (top : ℕ) → RisesFrom 0 world.connections top → (m : ℕ) (octets : List ℕ) (events : List Event)
      → octets_from limits n world (joined_to m octets events) ≡ octets_from limits n world (event.Piece m octets ∷ events)
  joined-first n world top rises m octets (event.Piece k more ∷ events) = by (k == m) refl where
    by : (b : Bool) → (k == m) ≡ b
        → octets_from limits n world (joined_to m octets (event.Piece k more ∷ events)) ≡ octets_from limits n world (event.Piece m octets ∷ event.Piece k more ∷ events)
    by true t = let e : k ≡ m = same m k t in rw t (one-piece n world top rises m octets more events ∙ rw e refl)
    by false t = rw t refl
  joined-first n world top rises m octets other = refl

  -- the connections after an event
  rises-piece : (world : AloneWorld) (top : ℕ) → RisesFrom 0 world.connections top → (n : ℕ) (piece : List ℕ) (o : Option Connection)
      → RisesFrom 0 (alone_piece limits world piece o).connections top
  rises-piece world top rises n piece None = rises
  rises-piece world top rises n piece (Some c) = by (alone_answer limits world c piece).close where
    by : (b : Bool) → RisesFrom 0 (if b then without c.number world.connections else with_connection (with_piece c piece (alone_answer limits world c piece).next.query) world.connections) top
    by true = rises-without c.number world.connections 0 top rises
    by false = rises-with (with_piece c piece (alone_answer limits world c piece).next.query) world.connections 0 top rises

  rises-end : (world : AloneWorld) (top : ℕ) → RisesFrom 0 world.connections top → (o : Option Connection) → RisesFrom 0 (alone_end world o).connections top
  rises-end world top rises None = rises
  rises-end world top rises (Some c) = rises-without c.number world.connections 0 top rises

  rises-pull : (world : AloneWorld) (top : ℕ) → RisesFrom 0 world.connections top → (o : Option Connection) → RisesFrom 0 (alone_pull world o).connections top
  rises-pull world top rises None = rises
  rises-pull world top rises (Some c) = rises-with (with_query (next_page c.query).query c) world.connections 0 top rises

  pub joined-octets : (n : ℕ) (world : AloneWorld) (top : ℕ) (events : List Event) → RisesFrom 0 world.connections top → Formed top events
      → octets_from limits n world (joined_pieces events) ≡ octets_from limits n world events
  joined-octets n world top [] rises f = refl
  joined-octets n world top (event.Open m ∷ events) rises f =
      let next = alone_after_turn world (alone_turn limits world (event.Open m)) in
      octets-cons n world (event.Open m) (joined_pieces events)
      ∙ ap (λ rest. (if m == n then [] else []) ++ rest) (joined-octets n next (m + 1) events (rises-open m world.connections 0 top f.0 rises) f.1)
      ∙ sym (octets-cons n world (event.Open m) events)
  joined-octets n world top (event.Piece m piece ∷ events) rises f =
      let t = alone_turn limits world (event.Piece m piece) in
      joined-first n world top rises m piece (joined_pieces events) ∙ octets-cons n world (event.Piece m piece) (joined_pieces events)
      ∙ ap (λ rest. (if m == n then reply_octets t.reply else []) ++ rest)
      (joined-octets n (alone_after_turn world t) top events (rises-piece world top rises m piece (connection_in m world.connections)) f)
      ∙ sym (octets-cons n world (event.Piece m piece) events)
  joined-octets n world top (event.End m ∷ events) rises f =
      let t = alone_turn limits world (event.End m) in
      octets-cons n world (event.End m) (joined_pieces events)
      ∙ ap (λ rest. (if m == n then reply_octets t.reply else []) ++ rest)
      (joined-octets n (alone_after_turn world t) top events (rises-end world top rises (connection_in m world.connections)) f)
      ∙ sym (octets-cons n world (event.End m) events)
  joined-octets n world top (event.Pull m ∷ events) rises f =
      let t = alone_turn limits world (event.Pull m) in
      octets-cons n world (event.Pull m) (joined_pieces events)
      ∙ ap (λ rest. (if m == n then reply_octets t.reply else []) ++ rest)
      (joined-octets n (alone_after_turn world t) top events (rises-pull world top rises (connection_in m world.connections)) f)
      ∙ sym (octets-cons n world (event.Pull m) events)
  joined-octets n world top (event.Schedule inst octets ∷ events) rises f =
      joined-octets n (alone_after_turn world (alone_turn limits world (event.Schedule inst octets))) top events rises f
  joined-octets n world top (event.Withdraw inst id ∷ events) rises f =
      joined-octets n (alone_after_turn world (alone_turn limits world (event.Withdraw inst id))) top events rises f
