-- The shared server with one institution alone: over the institution's rows it answers own events as the device does.
use Rattle.std.proofs.Common.{◌≡◌, ◌==◌, ℕ, zero, nat_lt, Bool, true, false, if◌then◌else◌, List, [], ◌∷◌, ◌++◌, map, length, take, drop, Option, Some, None, inl, inr, refl, sym, ap, ◌∙◌, arith}
use Rattle.std.specs.Prelude.{filter, find, Contains}
use Rattle.std.specs.List.{AllByRecursion}
use Rattle.std.specs.Str.{bytes_eq}
use Rattle.std.proofs.lemmas.List.{take-append-drop}
use Rattle.std.proofs.lemmas.List.Elements.{filter-append}
use Rattle.std.proofs.lemmas.Bool.{false≢true}
use Rattle.std.proofs.lemmas.Bool.Decides.{nat_tests}
use Rattle.std.proofs.lemmas.Slice.Eq.{bytes_eq-Decides}
use Rattle.std.proofs.Math.Seq.{take-append_seam, drop-append_seam}
use Rattle.dq_core.proofs.isolation.Vocabulary.{Request, inputs, Institution, limits_of, Row, Event, Reply, request_in, is_sound_request, owner_by, owner, is_above, rises_from, World, turn, world_after_turn, replies_from, world_from, first_world, replies, world_after, rows_within, alone_turn, alone_replies, alone_after, changes_next, records_within, octets_of_pieces, stream_of, owns, is_on, is_own_event, own, replies_at, own_among, replies_alone, world_alone, own_replies, own_operations, own_rows_within, Begins, IsPrefix}
use Rattle.dq_config.specs.Routing.{institution_routed}
use Rattle.dq_tables.specs.Rows.{of, rows_named, record_of, IsRising}
use Rattle.dq_core.specs.declared.event.Event.TheVariants as event
use Rattle.dq_core.proofs.isolation.Lists.{at-number}
use Rattle.dq_core.proofs.isolation.Streams.{AddsInputs}
use Rattle.dq_core.proofs.isolation.Isolating.{Lenses, is_of-some}
use Rattle.dq_core.proofs.isolation.Named.{in-at, contains-in, owned-contained}
use Rattle.dq_core.proofs.isolation.Rising.{both-true}
use Rattle.dq_core.proofs.isolation.Promise.{among_replies, replies-front, take-nil, isolated-replies, isolated_records, isolated_among, isolated_within}

-- ---- filters

-- what is said of a list with an item and without it is said where it is left out or not
kept-or-not : {X : Type 0} (P : List X → Type 0) (x : X) (xs : List X) (b : Bool) → (b ≡ true → P (x ∷ xs)) → (b ≡ false → P xs)
    → P (if b then x ∷ xs else xs)
kept-or-not P x xs true kept not_kept = kept refl
kept-or-not P x xs false kept not_kept = not_kept refl

filter-kept : {X : Type 0} (p q : X → Bool) → ((x : X) → q x ≡ true → p x ≡ true) → (xs : List X) → filter p (filter q xs) ≡ filter q xs
filter-kept p q within [] = refl
filter-kept p q within (x ∷ xs) =
    let later = filter-kept p q within xs in
    kept-or-not (λ ys. filter p ys ≡ ys) x (filter q xs) (q x) (λ h. rw (within x h, later) refl) (λ h. later)

each-filtered : {X : Type 0} (P : X → Type 0) (p : X → Bool) (xs : List X) → AllByRecursion P xs → AllByRecursion P (filter p xs)
each-filtered P p [] all = tt
each-filtered P p (x ∷ xs) all =
    let later = each-filtered P p xs all.1 in kept-or-not (AllByRecursion P) x (filter p xs) (p x) (λ h. (all.0, later)) (λ h. later)

rising-filtered : (p : Row → Bool) (rows : List Row) → IsRising rows → IsRising (filter p rows)
unfolding IsRising
rising-filtered p [] r = tt
rising-filtered p (row ∷ rows) r =
    let later = rising-filtered p rows r.1 in
    kept-or-not IsRising row (filter p rows) (p row) (λ h. (each-filtered _ p rows r.0, later)) (λ h. later)

-- what is above a number that is above the newest is above that
above-past : (newest : Option ℕ) (n : ℕ) → is_above newest n ≡ true → (m : ℕ) → nat_lt n m ≡ true → is_above newest m ≡ true
above-past None n a m l = refl
above-past (Some k) n a m l = grind (arith, nat_tests)

-- opened numbers rise among some of the events
rises-filtered : (mine : Event → Bool) (newest lower : Option ℕ) → ((n : ℕ) → is_above newest n ≡ true → is_above lower n ≡ true) → (events : List Event)
    → rises_from newest events ≡ true → rises_from lower (filter mine events) ≡ true
rises-filtered mine newest lower weaker [] h = refl
rises-filtered mine newest lower weaker (event.Open n ∷ events) h =
    let both : (is_above newest n ≡ true) × (rises_from (Some n) events ≡ true) = both-true (is_above newest n) (rises_from (Some n) events) h in
    kept-or-not (λ es. rises_from lower es ≡ true) (event.Open n) (filter mine events) (mine (event.Open n))
    (λ is. rw (weaker n both.0) (rises-filtered mine (Some n) (Some n) (λ m a. a) events both.1))
    (λ is. rises-filtered mine (Some n) lower (λ m a. weaker m (above-past newest n both.0 m a)) events both.1)
rises-filtered mine newest lower weaker (e ∷ events) h =
    let later = rises-filtered mine newest lower weaker events h in
    kept-or-not (λ es. rises_from lower es ≡ true) e (filter mine events) (mine e) (λ is. later) (λ is. later)

-- ---- the streams of connections that pass a test, among the events on such

module _ (numbers : ℕ → Bool) (names : List ℕ → Bool) (n : ℕ) (mine : numbers n ≡ true) where
  abbrev some : List Event → List Event
  some events = filter (is_on numbers names) events

  not-it : (m : ℕ) → numbers m ≡ false → (n == m) ≡ false
  not-it m h = by (n == m) refl where
    by : (b : Bool) → (n == m) ≡ b → (n == m) ≡ false
    by true e = absurd (false≢true (sym h ∙ ap numbers (sym (at-number n m e)) ∙ mine))
    by false e = e

  pieces-kept : (events : List Event) → octets_of_pieces n (some events) ≡ octets_of_pieces n events
  pieces-kept [] = refl
  pieces-kept (event.Piece m piece ∷ events) =
      kept-or-not (λ es. octets_of_pieces n es ≡ octets_of_pieces n (event.Piece m piece ∷ events)) (event.Piece m piece) (some events) (numbers m)
      (λ h. ap (λ rest. if n == m then piece ++ rest else rest) (pieces-kept events)) (λ h. rw (not-it m h) (pieces-kept events))
  pieces-kept (event.End m ∷ events) =
      kept-or-not (λ es. octets_of_pieces n es ≡ octets_of_pieces n (event.End m ∷ events)) (event.End m) (some events) (numbers m)
      (λ h. ap (λ rest. if n == m then [] else rest) (pieces-kept events)) (λ h. rw (not-it m h) (pieces-kept events))
  pieces-kept (e ∷ events) =
      let later = pieces-kept events in
      kept-or-not (λ es. octets_of_pieces n es ≡ octets_of_pieces n events) e (some events) (is_on numbers names e) (λ h. later) (λ h. later)

  stream-kept : (events : List Event) → stream_of n (some events) ≡ stream_of n events
  stream-kept [] = refl
  stream-kept (event.Open m ∷ events) =
      kept-or-not (λ es. stream_of n es ≡ stream_of n (event.Open m ∷ events)) (event.Open m) (some events) (numbers m)
      (λ h. rw (pieces-kept events, stream-kept events) refl) (λ h. rw (not-it m h) (stream-kept events))
  stream-kept (e ∷ events) =
      let later = stream-kept events in
      kept-or-not (λ es. stream_of n es ≡ stream_of n events) e (some events) (is_on numbers names e) (λ h. later) (λ h. later)

-- ---- one institution alone

only-one : (i a : Institution) → Contains (i ∷ []) a → a ≡ i
only-one i a c = elim (in-at a (i ∷ []) c.0 c.1 c.2) [ inl e ↦ e | inr none ↦ absurd none ]

-- what is found passes the test
find-passes : (p : Institution → Bool) (xs : List Institution) (i : Institution) → find p xs ≡ Some i → p i ≡ true
find-passes p [] i e = cc
find-passes p (x ∷ xs) i e = by (p x) refl e (find-passes p xs i) where
  by : (b : Bool) → p x ≡ b → (if b then Some x else find p xs) ≡ Some i → (find p xs ≡ Some i → p i ≡ true) → p i ≡ true
  by true h f later = let same : x ≡ i = cc in ap p (sym same) ∙ h
  by false h f later = later f

routed-alone : (institutions : List Institution) (called calling : List ℕ) (i : Institution) → institution_routed institutions called calling ≡ Some i
    → institution_routed (i ∷ []) called calling ≡ Some i
unfolding institution_routed
routed-alone institutions called calling i e = rw (find-passes _ institutions i e) refl

owned-alone : (institutions : List Institution) (o : Option Request) (i : Institution) → owner_by institutions o ≡ Some i → owner_by (i ∷ []) o ≡ Some i
owned-alone institutions None i e = cc
owned-alone institutions (Some request) i e = by (is_sound_request request) refl e where
  by : (b : Bool) → is_sound_request request ≡ b → (if b then institution_routed institutions request.called request.calling else None) ≡ Some i
      → (if b then institution_routed (i ∷ []) request.called request.calling else None) ≡ Some i
  by true h f = routed-alone institutions request.called request.calling i f
  by false h f = cc

-- the replies at events that all pass a test
replies-all : (p : Event → Bool) (q : Event → Bool) → ((e : Event) → q e ≡ true → p e ≡ true) → (xs : List Event) (institutions : List Institution) (world : World)
    → replies_at p (filter q xs) (replies_from institutions world (filter q xs)) ≡ replies_from institutions world (filter q xs)
replies-all p q within [] institutions world = refl
replies-all p q within (x ∷ xs) institutions world =
    kept-or-not (λ es. replies_at p es (replies_from institutions world es) ≡ replies_from institutions world es) x (filter q xs) (q x)
    (λ h. rw (within x h) (ap (λ (rs : List Reply). (turn institutions world x).reply ∷ rs)
    (replies-all p q within xs institutions (world_after_turn world (turn institutions world x)))))
    (λ h. replies-all p q within xs institutions world)

-- the plain server answers the first events of a history alike
replies-more : (institutions : List Institution) (world : World) (events later : List Event)
    → replies_from institutions world (events ++ later) ≡ replies_from institutions world events ++ replies_from institutions (world_from institutions world events) later
replies-more institutions world [] later = refl
replies-more institutions world (e ∷ events) later =
    let t = turn institutions world e in ap (λ (rs : List Reply). t.reply ∷ rs) (replies-more institutions (world_after_turn world t) events later)

module _ (institutions : List Institution) (rows : List Row) (events : List Event) (i : Institution) where
  abbrev mine : Event → Bool
  mine = is_own_event institutions i.name events

  abbrev here : List Row
  here = rows_named i.name rows

  abbrev mine_here : Event → Bool
  mine_here = is_own_event (i ∷ []) i.name (own institutions i.name events)

  own-parts : (k : ℕ) → own_among institutions i.name events k ++ filter mine (drop k events) ≡ own institutions i.name events
  own-parts k = sym (filter-append mine (take k events) (drop k events)) ∙ ap (filter mine) (take-append-drop k events)

  front-of : (k : ℕ) → take (length (own_among institutions i.name events k)) (own institutions i.name events) ≡ own_among institutions i.name events k
  front-of k = ap (take (length (own_among institutions i.name events k))) (sym (own-parts k)) ∙ take-append_seam (own_among institutions i.name events k) _

  rest-of : (k : ℕ) → drop (length (own_among institutions i.name events k)) (own institutions i.name events) ≡ filter mine (drop k events)
  rest-of k = ap (drop (length (own_among institutions i.name events k))) (sym (own-parts k)) ∙ drop-append_seam (own_among institutions i.name events k) _

  -- of the server alone the replies to the first own events begin those to all
  pub alone_front : (k : ℕ) → IsPrefix (own_replies institutions rows events i k) (replies_alone i rows (own institutions i.name events))
  alone_front k = (
    replies_from (i ∷ []) (world_from (i ∷ []) (first_world here) (own_among institutions i.name events k)) (filter mine (drop k events)),
    sym (replies-more (i ∷ []) (first_world here) (own_among institutions i.name events k) (filter mine (drop k events)))
        ∙ ap (replies_from (i ∷ []) (first_world here)) (own-parts k),
  )

  of-here : of i.name here ≡ of i.name rows
  unfolding of
  of-here = ap (map record_of) (filter-kept (λ (row : Row). bytes_eq row.inst i.name) (λ (row : Row). bytes_eq row.inst i.name) (λ row h. h) rows)

  module _ (adds : AddsInputs) (lenses : Lenses) (b : Begins institutions rows events i) where
    owns-here : (n : ℕ) → owns institutions i.name events n ≡ true → owns (i ∷ []) i.name (own institutions i.name events) n ≡ true
    owns-here n h =
        let whose = is_of-some i.name (owner institutions (stream_of n events)) h in
        let it : whose.0 ≡ i = b.own_names whose.0 i (owned-contained institutions (stream_of n events) whose.0 whose.1) b.listed whose.2 in
        let owned : owner institutions (stream_of n events) ≡ Some i = whose.1 ∙ ap Some it in
        rw (
          stream-kept (owns institutions i.name events) (λ (inst : List ℕ). bytes_eq inst i.name) n h events,
          owned-alone institutions (request_in (inputs (stream_of n events))) i owned,
        ) ((bytes_eq-Decides i.name i.name).1 refl)

    own-here : (e : Event) → mine e ≡ true → mine_here e ≡ true
    own-here (event.Open n) h = owns-here n h
    own-here (event.Piece n piece) h = owns-here n h
    own-here (event.End n) h = owns-here n h
    own-here (event.Pull n) h = owns-here n h
    own-here other h = h

    begins-here : Begins (i ∷ []) here (own institutions i.name events) i
    begins-here = record {
      own_names = λ a c is_a is_c same. only-one i a is_a ∙ sym (only-one i c is_c);
      listed = contains-in i (i ∷ []) (inl refl);
      rising = rising-filtered (λ (row : Row). bytes_eq row.inst i.name) rows b.rising;
      well_formed = rises-filtered mine None None (λ n a. a) events b.well_formed;
    }

    among-here : (k : ℕ) → filter mine_here (own_among institutions i.name events k) ≡ own_among institutions i.name events k
    among-here k = filter-kept mine_here mine own-here (take k events)

    own-front_here : (k : ℕ) → own_among (i ∷ []) i.name (own institutions i.name events) (length (own_among institutions i.name events k))
        ≡ own_among institutions i.name events k
    own-front_here k = ap (filter mine_here) (front-of k) ∙ among-here k

    -- what the server alone replies, to all own events and to the first, is what the device replies
    pub replies-here : replies_alone i rows (own institutions i.name events) ≡ alone_replies (limits_of i) (of i.name rows) (own institutions i.name events)
    replies-here =
        sym (replies-all mine_here mine own-here events (i ∷ []) (first_world here))
        ∙ isolated-replies adds lenses (i ∷ []) here (own institutions i.name events) i begins-here
        ∙ rw (of-here, filter-kept mine_here mine own-here events) refl

    pub among-replies_here : (k : ℕ) → own_replies institutions rows events i k ≡ among_replies institutions rows events i k
    among-replies_here k =
        let es = own institutions i.name events in
        let count = length (own_among institutions i.name events k) in
        sym (replies-all mine_here mine own-here (take k events) (i ∷ []) (first_world here))
        ∙ ap (λ (front : List Event). replies_at mine_here front (replies (i ∷ []) here front)) (sym (front-of k))
        ∙ sym (replies-front (i ∷ []) mine_here count (first_world here) es)
        ∙ isolated_among adds lenses (i ∷ []) here es i count begins-here
        ∙ rw (of-here, own-front_here k) refl

    pub records-here : of i.name (world_alone i rows (own institutions i.name events)).rows
        ≡ (alone_after (limits_of i) (of i.name rows) (own institutions i.name events)).records
    records-here =
        isolated_records adds lenses (i ∷ []) here (own institutions i.name events) i begins-here
        ∙ rw (of-here, filter-kept mine_here mine own-here events) refl

    -- the changes of the next own event
    changes-here : (j : ℕ) (rest : List Event) (records : _)
        → take (own_operations mine rest j) (changes_next (limits_of i) records mine_here (filter mine rest)) ≡ take j (changes_next (limits_of i) records mine rest)
    changes-here j [] records = sym (take-nil j)
    changes-here j (e ∷ rest) records = by (mine e) refl where
      by : (is_mine : Bool) → mine e ≡ is_mine
          → take (if is_mine then j else zero) (changes_next (limits_of i) records mine_here (if is_mine then e ∷ filter mine rest else filter mine rest))
          ≡ take j (if is_mine then (alone_turn (limits_of i) records e).changes else [])
      by true h = rw (own-here e h) refl
      by false h = sym (take-nil j)

    pub within-here : (k j : ℕ) → of i.name (own_rows_within institutions rows events i k j)
        ≡ records_within (limits_of i) (of i.name rows) mine events k j
    within-here k j =
        let es = own institutions i.name events in
        let count = length (own_among institutions i.name events k) in
        let world = alone_after (limits_of i) (of i.name rows) (own_among institutions i.name events k) in
        isolated_within adds lenses (i ∷ []) here es i count (own_operations mine (drop k events) j) begins-here
        ∙ rw (of-here, own-front_here k, rest-of k, changes-here j (drop k events) world) refl

    -- isolation, by the server alone
    pub single_replies : replies_at mine events (replies institutions rows events) ≡ replies_alone i rows (own institutions i.name events)
    single_replies = isolated-replies adds lenses institutions rows events i b ∙ sym replies-here

    pub single_records : of i.name (world_after institutions rows events).rows ≡ of i.name (world_alone i rows (own institutions i.name events)).rows
    single_records = isolated_records adds lenses institutions rows events i b ∙ sym records-here

    pub single_among : (k : ℕ) → replies_at mine events (take k (replies institutions rows events)) ≡ own_replies institutions rows events i k
    single_among k = isolated_among adds lenses institutions rows events i k b ∙ sym (among-replies_here k)

    pub single_within : (k j : ℕ) → of i.name (rows_within institutions rows events k j) ≡ of i.name (own_rows_within institutions rows events i k j)
    single_within k j = isolated_within adds lenses institutions rows events i k j b ∙ sym (within-here k j)
