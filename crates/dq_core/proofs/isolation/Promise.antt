-- Isolation of whole histories.
use Rattle.std.proofs.Common.{◌≡◌, ℕ, zero, suc, Bool, true, false, if◌then◌else◌, List, [], ◌∷◌, ◌++◌, take, drop, Option, None, ◌⊎◌, inl, inr, refl, sym, ap, ◌∙◌}
use Rattle.std.specs.Prelude.{filter}
use Rattle.std.proofs.lemmas.List.{take-append-drop, append-nil}
use Rattle.std.proofs.lemmas.List.Elements.{filter-append}
use Rattle.dq_core.proofs.isolation.Vocabulary.{Institution, Event, Reply, Row, Limits, limits_of, World, turn, world_after_turn, replies_from, first_world, replies, world_after, operations_next, rows_within, AloneWorld, alone_turn, alone_after_turn, alone_replies_from, alone_world_from, alone_opening, alone_replies, alone_after, changes_next, records_within, owns, is_own_event, own, replies_at, own_among, Begins, Agree, IsPrefix}
use Rattle.dq_tables.specs.Rows.{Record, Edit, of, after_all, edited_all, IsRising}
use Rattle.dq_core.proofs.isolation.Streams.{AddsInputs}
use Rattle.dq_core.proofs.isolation.Isolating.{Lenses, Configured, alike}
use Rattle.dq_core.proofs.isolation.Others.{other, rising-all, own-rows, other-rows, take-map, all-take}
use Rattle.dq_core.proofs.isolation.Isolated.{Are, After, is_mine, are-after}
use Rattle.dq_core.proofs.isolation.Named.{configured}

-- the replies of the device to the own events among the first
abbrev pub among_replies : List Institution → List Row → List Event → Institution → ℕ → List Reply
among_replies institutions rows events i answered = alone_replies (limits_of i) (of i.name rows) (own_among institutions i.name events answered)

-- the replies at the first events are the first replies
pub replies-front : (institutions : List Institution) (mine : Event → Bool) (k : ℕ) (world : World) (events : List Event)
    → replies_at mine events (take k (replies_from institutions world events))
    ≡ replies_at mine (take k events) (replies_from institutions world (take k events))
replies-front institutions mine zero world [] = refl
replies-front institutions mine zero world (e ∷ events) = refl
replies-front institutions mine (suc k) world [] = refl
replies-front institutions mine (suc k) world (e ∷ events) =
    let t = turn institutions world e in
    ap (λ (rs : List Reply). if mine e then t.reply ∷ rs else rs) (replies-front institutions mine k (world_after_turn world t) events)

pub take-nil : {X : Type 0} → (k : ℕ) → take k (let xs : List X = [] in xs) ≡ []
take-nil zero = refl
take-nil (suc k) = refl

-- the rows within an event
module _ (adds : AddsInputs) (lenses : Lenses) (institutions : List Institution) (name : List ℕ) (limits : Limits) (mine : ℕ → Bool)
    (known : Configured institutions name limits) (newest : Option ℕ) (world : World) (alone : AloneWorld) (j : ℕ) where
  next-rows-at : (e : Event) (rest : List Event) → Are institutions name mine newest world alone (e ∷ rest) → (b : Bool) → is_mine name mine e ≡ b
      → of name (after_all (take j (turn institutions world e).operations) world.rows)
      ≡ edited_all (take j (changes_next limits alone (is_mine name mine) (e ∷ rest))) alone.records
  next-rows-at e rest a true m =
      let l = alike adds institutions name limits mine world alone known a.beside newest e rest a.sound m in
      let changes = (alone_turn limits alone e).changes in
      rw (m, l.operations, take-map name j changes, own-rows lenses name (take j changes) world.rows, a.beside.records) refl
  next-rows-at e rest a false m =
      let operations = (turn institutions world e).operations in
      let none = all-take name j operations (other adds institutions name mine world newest e rest a.sound m).operations in
      rw (m, take-nil j) (other-rows lenses name (take j operations) world.rows a.rising none ∙ sym a.beside.records)

  next-rows : (rest : List Event) → Are institutions name mine newest world alone rest
      → of name (after_all (take j (operations_next institutions world rest)) world.rows)
      ≡ edited_all (take j (changes_next limits alone (is_mine name mine) rest)) alone.records
  next-rows [] a = rw (take-nil j, take-nil j) (sym a.beside.records)
  next-rows (e ∷ rest) a = next-rows-at e rest a (is_mine name mine e) refl

module _ (adds : AddsInputs) (lenses : Lenses) (institutions : List Institution) (rows : List Row) (events : List Event) (i : Institution) where
  begin : Begins institutions rows events i
      → Are institutions i.name (owns institutions i.name events) None (first_world rows) (alone_opening (of i.name rows)) events
  begin b = record {
    beside = record { connections = refl; records = refl };
    rising = b.rising;
    sound = record { owned = tt; apart = tt; before = tt; later = λ number _. refl; rises = b.well_formed };
  }

  after : Begins institutions rows events i → (done rest : List Event) → done ++ rest ≡ events
      → After institutions i.name (limits_of i) (owns institutions i.name events) (first_world rows) (alone_opening (of i.name rows)) done rest
  after b done rest e = are-after adds lenses institutions i.name (limits_of i) (owns institutions i.name events)
      (configured institutions i b.own_names b.listed) done rest None (first_world rows) (alone_opening (of i.name rows)) (rw e (begin b))

  -- the institution's own replies among the first, and all of them
  pub isolated_among : (k : ℕ) → Begins institutions rows events i
      → replies_at (is_own_event institutions i.name events) events (take k (replies institutions rows events)) ≡ among_replies institutions rows events i k
  isolated_among k b = replies-front institutions (is_own_event institutions i.name events) k (first_world rows) events
      ∙ (after b (take k events) (drop k events) (take-append-drop k events)).replied

  pub isolated-replies : Begins institutions rows events i
      → replies_at (is_own_event institutions i.name events) events (replies institutions rows events)
      ≡ alone_replies (limits_of i) (of i.name rows) (own institutions i.name events)
  isolated-replies b = (after b events [] (append-nil events)).replied

  -- its records within a history, and after it
  pub isolated_within : (k j : ℕ) → Begins institutions rows events i
      → of i.name (rows_within institutions rows events k j) ≡ records_within (limits_of i) (of i.name rows) (is_own_event institutions i.name events) events k j
  isolated_within k j b =
      let mine = owns institutions i.name events in
      let then_are = after b (take k events) (drop k events) (take-append-drop k events) in
      next-rows adds lenses institutions i.name (limits_of i) mine (configured institutions i b.own_names b.listed) then_are.newest
      (world_after institutions rows (take k events)) (alone_after (limits_of i) (of i.name rows) (filter (is_mine i.name mine) (take k events))) j
      (drop k events) then_are.are

  -- rows within a history are in order
  pub isolated-rising : (k j : ℕ) → Begins institutions rows events i → IsRising (rows_within institutions rows events k j)
  isolated-rising k j b =
      rising-all lenses (take j (operations_next institutions (world_after institutions rows (take k events)) (drop k events)))
      (world_after institutions rows (take k events)).rows (after b (take k events) (drop k events) (take-append-drop k events)).are.rising

  pub isolated_records : Begins institutions rows events i
      → of i.name (world_after institutions rows events).rows ≡ (alone_after (limits_of i) (of i.name rows) (own institutions i.name events)).records
  isolated_records b = sym (after b events [] (append-nil events)).are.beside.records

-- the replies to some first events are the first replies
alone-append : (limits : Limits) (world : AloneWorld) (done rest : List Event) → alone_replies_from limits world (done ++ rest)
    ≡ alone_replies_from limits world done ++ alone_replies_from limits (alone_world_from limits world done) rest
alone-append limits world [] rest = refl
alone-append limits world (e ∷ done) rest =
    let t = alone_turn limits world e in ap (λ (rs : List Reply). t.reply ∷ rs) (alone-append limits (alone_after_turn world t) done rest)

pub own_front : (institutions : List Institution) (rows : List Row) (events : List Event) (i : Institution) (k : ℕ)
    → IsPrefix (among_replies institutions rows events i k) (alone_replies (limits_of i) (of i.name rows) (own institutions i.name events))
own_front institutions rows events i k =
    let mine = is_own_event institutions i.name events in (
      alone_replies_from (limits_of i) (alone_after (limits_of i) (of i.name rows) (own_among institutions i.name events k)) (filter mine (drop k events)),
      sym (alone-append (limits_of i) (alone_opening (of i.name rows)) (filter mine (take k events)) (filter mine (drop k events)))
          ∙ ap (λ (es : List Event). alone_replies (limits_of i) (of i.name rows) es) (sym (filter-append mine (take k events) (drop k events))
          ∙ ap (filter mine) (take-append-drop k events)),
    )

-- of two fronts of one list one is the front of the other
pub fronts : (xs ys a b z : List Reply) → xs ++ a ≡ z → ys ++ b ≡ z → IsPrefix xs ys ⊎ IsPrefix ys xs
fronts [] ys a b z e f = inl (ys, refl)
fronts (x ∷ xs) [] a b z e f = inr (x ∷ xs, refl)
fronts (x ∷ xs) (y ∷ ys) a b z e f =
    let whole : x ∷ (xs ++ a) ≡ y ∷ (ys ++ b) = e ∙ sym f in
    let head : x ≡ y = cc in
    let rest : xs ++ a ≡ ys ++ b = cc in
    elim (fronts xs ys a b (ys ++ b) rest refl) [
      | inl l ↦ inl (l.0, cc)
      | inr r ↦ inr (r.0, cc)
    ]

-- two histories that agree
module _ (adds : AddsInputs) (lenses : Lenses) (institutions others : List Institution) (rows other_rows : List Row) (events other_events : List Event)
    (i j : Institution) where
  pub agreeing_replies : Begins institutions rows events i → Begins others other_rows other_events j
      → Agree institutions others rows other_rows events other_events i j
      → replies_at (is_own_event institutions i.name events) events (replies institutions rows events)
      ≡ replies_at (is_own_event others j.name other_events) other_events (replies others other_rows other_events)
  agreeing_replies a b agree =
      rw (
        isolated-replies adds lenses institutions rows events i a,
        isolated-replies adds lenses others other_rows other_events j b,
        agree.own_events,
        agree.records,
        agree.limits,
      ) refl

  pub agreeing_records : Begins institutions rows events i → Begins others other_rows other_events j
      → Agree institutions others rows other_rows events other_events i j
      → of i.name (world_after institutions rows events).rows ≡ of j.name (world_after others other_rows other_events).rows
  agreeing_records a b agree =
      rw (
        isolated_records adds lenses institutions rows events i a,
        isolated_records adds lenses others other_rows other_events j b,
        agree.own_events,
        agree.records,
        agree.limits,
      ) refl

  pub agreeing_fronts : (k l : ℕ) → Begins institutions rows events i → Begins others other_rows other_events j
      → Agree institutions others rows other_rows events other_events i j
      → let some = replies_at (is_own_event institutions i.name events) events (take k (replies institutions rows events)) in
      let more = replies_at (is_own_event others j.name other_events) other_events (take l (replies others other_rows other_events)) in
      IsPrefix some more ⊎ IsPrefix more some
  agreeing_fronts k l a b agree =
      let p = own_front institutions rows events i k in
      let q = own_front others other_rows other_events j l in
      let same = sym (isolated-replies adds lenses institutions rows events i a) ∙ agreeing_replies a b agree
      ∙ isolated-replies adds lenses others other_rows other_events j b in
      rw (isolated_among adds lenses institutions rows events i k a, isolated_among adds lenses others other_rows other_events j l b)
      (fronts (among_replies institutions rows events i k) (among_replies others other_rows other_events j l) p.0 q.0
      (alone_replies (limits_of j) (of j.name other_rows) (own others j.name other_events)) (p.1 ∙ same) q.1)
