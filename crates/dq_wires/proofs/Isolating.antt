-- Isolation on the wires: from the replies at an institution's own events to the octets that are written.
use Rattle.std.proofs.Common.{◌≡◌, ◌<◌, ◌⊎◌, ◌==◌, ℕ, Bool, true, false, IsTrue, if◌then◌else◌, List, [], ◌∷◌, ◌++◌, map, length, refl, sym, ◌∙◌, ap, subst, inl, inr, arith, append_assoc}
use Rattle.std.specs.Prelude.{filter}
use Rattle.std.specs.List.{flat_map}
use Rattle.std.proofs.lemmas.List.{map-append}
use Rattle.std.proofs.lemmas.Grind.{flat_map-append}
use Rattle.std.proofs.lemmas.Bool.{cases_order}
use Rattle.std.proofs.lemmas.Bool.Decides.{nat_tests}
use Rattle.std.proofs.Math.Seq.{take-append_seam}
use Rattle.dq_config.specs.declared.config.Institution.{Institution}
use Rattle.dq_tables.specs.declared.row.Row.{Row}
use Rattle.dq_tables.specs.TableStates.{State, IsSettled}
use Rattle.dq_core.specs.declared.event.Event.{Event}
use Rattle.dq_core.specs.declared.event.Event.TheVariants as event
use Rattle.dq_core.specs.declared.event.Reply.{Reply}
use Rattle.dq_core.specs.declared.fault.Fault.{Fault}
use Rattle.dq_core.specs.declared.event.Reply.TheVariants as reply
use Rattle.dq_core.specs.Shared.{World, turn, world_after_turn, replies_from, world_from, first_world, replies, rows_within, world_after}
use Rattle.dq_core.specs.Own.{owns, is_own_event, own, is_on_connection, replies_at}
use Rattle.dq_core.specs.Isolation.{own_among, IsPrefix}
use Rattle.dq_core.specs.Alone.{alone_opening, alone_replies}
use Rattle.dq_core.specs.Histories.{is_well_formed_history}
use Rattle.dq_config.specs.Limits.{limits_of}
use Rattle.dq_tables.specs.Rows.{of}
use Rattle.std.specs.Prelude.{None}
use Rattle.dq_wires.specs.Cuts.{joined_pieces}
use Rattle.dq_wires.proofs.Cutting.{Joins, OfRequest, Adds, Formed, formed, formed-among, octets_from, joined-octets}
use Rattle.dq_core.specs.Runs.{IsRun}
use Rattle.dq_core.specs.Stepping.{IsPartOf, MayLeaveAfter}
use Rattle.dq_core.specs.Renumbering.{KeepsOrder, with_other_number, renumbered_reply}
use Rattle.dq_core.specs.ServerView.{ServerView}
use Rattle.dq_wires.specs.HeldConnections.{reply_octets}
use Rattle.dq_wires.specs.Steps.{Step, events_of, replies_of}
use Rattle.dq_wires.specs.Steps.Step.{Answered, Asked}
use Rattle.dq_wires.specs.ServerSteps.{Fails}
use Rattle.dq_wires.specs.Turns.{Cut}
use Rattle.dq_wires.specs.Serving.{Serves}
use Rattle.dq_wires.specs.Servings.{Act, nothing_held, Served, served_steps, served_done, served_events, written_on, answered_on, IsFrontOf, OneBegins}
use Rattle.dq_wires.proofs.Looking.{comes-serve}
use Rattle.dq_wires.proofs.Answering.{Begun, acts-begun, answers-at, quiet-steps}

abbrev all_octets : List Reply → List ℕ
all_octets given = flat_map reply_octets given

-- replies at events
at-none : (p : Event → Bool) (events : List Event) → replies_at p events [] ≡ []
at-none p [] = refl
at-none p (e ∷ events) = refl

-- what is added to the replies is added to those at the events that pass a test
at-more : (p : Event → Bool) (events : List Event) (some later : List Reply)
    → (rest : List Reply) × (replies_at p events some ++ rest ≡ replies_at p events (some ++ later))
at-more p events [] later = (replies_at p events later, rw (at-none p events) refl)
at-more p [] (r ∷ some) later = ([], refl)
at-more p (e ∷ events) (r ∷ some) later = by (p e) (at-more p events some later) where
  by : (b : Bool) → (rest : List Reply) × (replies_at p events some ++ rest ≡ replies_at p events (some ++ later))
      → (rest : List Reply) × ((if b then r ∷ replies_at p events some else replies_at p events some) ++ rest
      ≡ (if b then r ∷ replies_at p events (some ++ later) else replies_at p events (some ++ later)))
  by true m = (m.0, ap (λ rs. r ∷ rs) m.1)
  by false m = m

-- events that are not answered add nothing
at-steps : (p : Event → Bool) (steps : List Step) (later : List Event)
    → replies_at p (events_of steps ++ later) (replies_of steps) ≡ replies_at p (events_of steps) (replies_of steps)
at-steps p [] later = at-none p later
at-steps p (Answered event reply ∷ steps) later = ap (λ rs. if p event then reply ∷ rs else rs) (at-steps p steps later)
at-steps p (Asked number pending ∷ steps) later = at-steps p steps later

-- Where all events that pass a test pass another, the replies at them are found among those at the others.
at-among : (p mine : Event → Bool) → ((e : Event) → p e ≡ true → mine e ≡ true) → (events : List Event) (given : List Reply)
    → replies_at p (filter mine events) (replies_at mine events given) ≡ replies_at p events given
at-among p mine within [] given = refl
at-among p mine within (e ∷ events) [] = at-none p (filter mine (e ∷ events))
at-among p mine within (e ∷ events) (r ∷ given) = by (mine e) (p e) refl refl (at-among p mine within events given) where
  by : (b c : Bool) → mine e ≡ b → p e ≡ c → replies_at p (filter mine events) (replies_at mine events given) ≡ replies_at p events given
      → replies_at p (if b then e ∷ filter mine events else filter mine events)
      (if b then r ∷ replies_at mine events given else replies_at mine events given)
      ≡ (if c then r ∷ replies_at p events given else replies_at p events given)
  by true c m n later = rw n (ap (λ rs. if c then r ∷ rs else rs) later)
  by false true m n later = let same : true ≡ false = sym (within e n) ∙ m in cc
  by false false m n later = later

-- of images
chosen : {A B : Type 0} (g : A → B) (b : Bool) (x y : A) → (if b then g x else g y) ≡ g (if b then x else y)
chosen g true x y = refl
chosen g false x y = refl

at-map : (g : Event → Event) (h : Reply → Reply) (p q : Event → Bool) → ((e : Event) → q (g e) ≡ p e) → (events : List Event) (given : List Reply)
    → replies_at q (map g events) (map h given) ≡ map h (replies_at p events given)
at-map g h p q same [] given = refl
at-map g h p q same (e ∷ events) [] = refl
at-map g h p q same (e ∷ events) (r ∷ given) =
    rw (same e, at-map g h p q same events given) (chosen (map h) (p e) (r ∷ replies_at p events given) (replies_at p events given))

renumbered-octets : (another : ℕ → ℕ) (given : List Reply) → all_octets (map (renumbered_reply another) given) ≡ all_octets given
renumbered-octets another [] = refl
renumbered-octets another (reply.Octets number octets close ∷ given) = ap (λ rest. octets ++ rest) (renumbered-octets another given)
renumbered-octets another (other ∷ given) = renumbered-octets another given

module _ (another : ℕ → ℕ) (keeps : KeepsOrder another) where
  same-at : (a b : ℕ) → (a ≡ b) ⊎ ((a < b) ⊎ (b < a)) → (another a == another b) ≡ (a == b)
  same-at a b (inl e) = rw e (grind (arith, nat_tests))
  same-at a b (inr (inl l)) = let h : another a < another b = keeps a b l in grind (arith, nat_tests)
  same-at a b (inr (inr l)) = let h : another b < another a = keeps b a l in grind (arith, nat_tests)

  same-on : (n : ℕ) (e : Event) → is_on_connection (another n) (with_other_number another e) ≡ is_on_connection n e
  same-on n (event.Open m) = same-at m n (cases_order m n)
  same-on n (event.Piece m piece) = same-at m n (cases_order m n)
  same-on n (event.End m) = same-at m n (cases_order m n)
  same-on n (event.Pull m) = same-at m n (cases_order m n)
  same-on n other = refl

-- the events on a connection that an institution owns are its own
module _ (institutions : List Institution) (name : List ℕ) (events : List Event) (n : ℕ) (owned : IsTrue (owns institutions name events n)) where
  own-number : (m : ℕ) → (m == n) ≡ true → owns institutions name events m ≡ true
  own-number m e = let same : m ≡ n = grind (arith, nat_tests) in rw same owned

  own-within : (e : Event) → is_on_connection n e ≡ true → is_own_event institutions name events e ≡ true
  own-within (event.Open m) h = own-number m h
  own-within (event.Piece m piece) h = own-number m h
  own-within (event.End m) h = own-number m h
  own-within (event.Pull m) h = own-number m h
  own-within other h = cc

  -- the octets that are answered on it, by the own events under other numbers
  own-octets : (another : ℕ → ℕ) → KeepsOrder another → (given : List Reply)
      → all_octets (replies_at (is_on_connection n) events given)
      ≡ all_octets (replies_at (is_on_connection (another n)) (map (with_other_number another) (own institutions name events))
      (map (renumbered_reply another) (replies_at (is_own_event institutions name events) events given)))
  own-octets another keeps given =
      ap all_octets (sym (at-among (is_on_connection n) (is_own_event institutions name events) own-within events given))
      ∙ sym (renumbered-octets another (replies_at (is_on_connection n) (own institutions name events) (replies_at (is_own_event institutions name events) events given)))
      ∙ ap all_octets (sym (at-map (with_other_number another) (renumbered_reply another) (is_on_connection n) (is_on_connection (another n))
      (same-on another keeps n) (own institutions name events) (replies_at (is_own_event institutions name events) events given)))

-- where the replies begin others, so do the octets of those at events that pass a test
front-octets : (p : Event → Bool) (events : List Event) (some more : List Reply) → IsPrefix some more
    → IsFrontOf (all_octets (replies_at p events some)) (all_octets (replies_at p events more))
front-octets p events some more (later, e) =
    let m = at-more p events some later in
    (all_octets m.0, sym (flat_map-append reply_octets (replies_at p events some) m.0) ∙ ap all_octets m.1 ∙ ap (λ rs. all_octets (replies_at p events rs)) e)

-- of two fronts of one list one begins the other
fronts : (xs ys a b : List ℕ) → xs ++ a ≡ ys ++ b → OneBegins xs ys
fronts [] ys a b e = inl (ys, refl)
fronts (x ∷ xs) [] a b e = inr (x ∷ xs, refl)
fronts (x ∷ xs) (y ∷ ys) a b e =
    let head : x ≡ y = cc in
    let rest : xs ++ a ≡ ys ++ b = cc in
    elim (fronts xs ys a b rest) [
      | inl l ↦ inl (l.0, cc)
      | inr r ↦ inr (r.0, cc)
    ]

-- the plain server answers the first events of a history alike
replies-more : (institutions : List Institution) (world : World) (events later : List Event)
    → replies_from institutions world (events ++ later) ≡ replies_from institutions world events ++ replies_from institutions (world_from institutions world events) later
replies-more institutions world [] later = refl
replies-more institutions world (e ∷ events) later =
    let t = turn institutions world e in ap (λ rs. t.reply ∷ rs) (replies-more institutions (world_after_turn world t) events later)

module _ {Tables : Type 0} (state : Tables → State) {rows : List Row} {first last : ServerView Tables} {acts : List Act} {cut : Cut}
    (served : Served state rows first last acts cut) (honest : (state last.tables).honest) where
  abbrev given : List Reply
  given = replies_of (served_steps acts cut)

  pub served_replies : replies_of (served_steps acts cut) ≡ replies first.institutions rows (served_events acts cut)
  served_replies =
      let serves : Serves state first last (served_steps acts cut) = comes-serve first last (served_steps acts cut) served.steps in
      serves.replied rows [] served.begins honest

  pub served_settles : IsSettled (state first.tables) → IsSettled (state last.tables)
  served_settles settled =
      let serves : Serves state first last (served_steps acts cut) = comes-serve first last (served_steps acts cut) served.steps in
      serves.settles honest settled

  -- a fault at an event after it
  pub served_fails : {new : ServerView Tables} {event : Event} {fault : Fault} → Fails state last new event fault → (state new.tables).honest
      → IsSettled (state first.tables)
      → (let world = world_after first.institutions rows (served_events acts cut) in
      IsPartOf (turn first.institutions world event).operations world.rows (state new.tables).rows (state new.tables).may_leave)
  served_fails {new} {event} {fault} fails kept settled =
      let serves : Serves state first last (served_steps acts cut) = comes-serve first last (served_steps acts cut) served.steps in
      let part = subst (λ (i : List Institution). let world = world_after i rows (served_events acts cut) in
      IsPartOf (turn i world event).operations world.rows (state new.tables).rows (MayLeaveAfter (state last.tables) (state new.tables)))
      serves.institutions (fails.part rows (served_events acts cut) (serves.stands rows [] served.begins honest) kept) in
      record {
        done = part.done;
        later = part.later;
        whole = part.whole;
        made = part.made;
        crash = λ r left. part.crash r (serves.settles honest settled, left);
      }

  pub served_rows : (state last.tables).rows ≡ (world_after first.institutions rows (served_events acts cut)).rows
  served_rows =
      let serves : Serves state first last (served_steps acts cut) = comes-serve first last (served_steps acts cut) served.steps in
      rw (← serves.institutions) (serves.stands rows [] served.begins honest).keeps

  -- a serving is a run of every history that begins with what came
  pub served-run : (later : List Event)
      → IsRun first.institutions rows (served_events acts cut ++ later) given
      (rows_within first.institutions rows (served_events acts cut ++ later) (length given) 0)
  served-run later = record {
    first_replies = rw (replies-more first.institutions (first_world rows) (served_events acts cut) later, ← served_replies)
        (sym (take-append_seam given _));
    operations = 0;
    rows_then = refl;
  }

  -- what is written on a connection begins what is answered on it
  pub served_written : (number : ℕ) → IsFrontOf (written_on number acts cut) (answered_on number acts cut)
  served_written number =
      let begun : Begun number nothing_held (served_steps acts cut) (served_done acts cut) =
      acts-begun number nothing_held acts cut (omega arith) served.are served.fits
      (quiet-steps first.institutions (first_world rows) (served_steps acts cut) served_replies) in
      (begun.0, sym begun.1 ∙ sym (answers-at number (served_steps acts cut)))

  -- by the own events of its owner
  pub served-own : (later : List Event) (name : List ℕ) (number : ℕ) → IsTrue (owns first.institutions name (served_events acts cut ++ later) number)
      → (anew : ℕ → ℕ) → KeepsOrder anew
      → (let events = served_events acts cut ++ later in
      IsFrontOf (written_on number acts cut)
      (all_octets (replies_at (is_on_connection (anew number)) (map (with_other_number anew) (own first.institutions name events))
      (map (renumbered_reply anew) (replies_at (is_own_event first.institutions name events) events given)))))
  served-own later name number owned anew keeps =
      let front = served_written number in (
        front.0,
        front.1 ∙ ap all_octets (sym (at-steps (is_on_connection number) (served_steps acts cut) later))
            ∙ own-octets first.institutions name (served_events acts cut ++ later) number owned anew keeps given,
      )

fronts-join : (xs ys zs : List ℕ) → IsFrontOf xs ys → IsFrontOf ys zs → IsFrontOf xs zs
fronts-join xs ys zs (a, e) (b, f) = (a ++ b, sym (append_assoc xs a b) ∙ ap (λ l. l ++ b) e ∙ f)

-- What is written on a connection in a serving is the front of what its owner's server alone answers on it, however its octets are cut.
module _ (joins : Joins) (of_request : OfRequest) (adds : Adds) {Tables : Type 0} (state : Tables → State) {rows : List Row}
    {first last : ServerView Tables} {acts : List Act} {cut : Cut} (served : Served state rows first last acts cut)
    (honest : (state last.tables).honest) (later : List Event) (i : Institution) (anew : ℕ → ℕ) (order : KeepsOrder anew) where
  abbrev events : List Event
  events = served_events acts cut ++ later

  abbrev own_anew : List Event
  own_anew = map (with_other_number anew) (own first.institutions i.name events)

  abbrev own_given : List Reply
  own_given = replies_at (is_own_event first.institutions i.name events) events (replies_of (served_steps acts cut))

  abbrev own_front : List Reply
  own_front = alone_replies (limits_of i) (of i.name rows) (own_among first.institutions i.name events (length (replies_of (served_steps acts cut))))

  own-formed : IsTrue (is_well_formed_history (map (with_other_number anew) events))
      → own first.institutions i.name (map (with_other_number anew) events) ≡ own_anew → Formed 0 own_anew
  own-formed well same =
      let f : Formed 0 (own first.institutions i.name (map (with_other_number anew) events)) =
      formed-among (is_own_event first.institutions i.name (map (with_other_number anew) events)) 0 (map (with_other_number anew) events)
      (formed None (map (with_other_number anew) events) well) in
      rw same at f

  pub alone-front : IsTrue (is_well_formed_history (map (with_other_number anew) events))
      → own first.institutions i.name (map (with_other_number anew) events) ≡ own_anew
      → alone_replies (limits_of i) (of i.name rows) own_anew
      ≡ map (renumbered_reply anew) (alone_replies (limits_of i) (of i.name rows) (own first.institutions i.name events))
      → own_given ≡ own_front
      → IsPrefix own_front
      (alone_replies (limits_of i) (of i.name rows) (own first.institutions i.name events))
      → (number : ℕ) → IsTrue (owns first.institutions i.name events number)
      → IsFrontOf (written_on number acts cut)
      (octets_from (limits_of i) (anew number) (alone_opening (of i.name rows)) (joined_pieces own_anew))
  alone-front well same_own same_alone same_given prefix number owned =
      let limits = limits_of i in
      let records = of i.name rows in
      let begins : IsPrefix (map (renumbered_reply anew) own_given) (alone_replies limits records own_anew) = (
        map (renumbered_reply anew) prefix.0,
        ap (λ rs. map (renumbered_reply anew) rs ++ map (renumbered_reply anew) prefix.0) same_given
            ∙ sym (map-append (renumbered_reply anew) own_front prefix.0)
            ∙ ap (map (renumbered_reply anew)) prefix.1 ∙ sym same_alone,
      ) in
      let whole = octets_from limits (anew number) (alone_opening records) own_anew in
      rw (joined-octets joins of_request adds limits (anew number) (alone_opening records) 0 own_anew (omega arith) (own-formed well same_own))
      (fronts-join (written_on number acts cut)
      (all_octets (replies_at (is_on_connection (anew number)) own_anew (map (renumbered_reply anew) own_given))) whole
      (served-own state served honest later i.name number owned anew order)
      (front-octets (is_on_connection (anew number)) own_anew (map (renumbered_reply anew) own_given) (alone_replies limits records own_anew) begins))

-- two fronts of one list
pub one-begins : (xs ys u v : List ℕ) → u ≡ v → IsFrontOf xs u → IsFrontOf ys v → OneBegins xs ys
one-begins xs ys u v e (a, f) (b, g) = fronts xs ys a b (f ∙ e ∙ sym g)
