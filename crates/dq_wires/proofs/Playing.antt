-- The events of a capture come about by acts.
use Rattle.std.proofs.Common.{◌≡◌, ◌+◌, ◌==◌, ℕ, not, cond, List, [], ◌∷◌, ◌++◌, length, map, Option, Some, None, Result, Ok, Err, OnOk, refl, sym, ◌∙◌, ap, ap₂, append_assoc}
use Rattle.std.specs.List.{flat_map, prefix_len, position}
use Rattle.std.proofs.lemmas.List.{append-nil, length-map}
use Rattle.std.proofs.lemmas.Grind.{flat_map-append}
use Rattle.std.proofs.Math.Seq.{map-set_same}
use Rattle.std.specs.Prelude.{slice_index_or, slice_set}
use Rattle.dq_tables.specs.declared.row.Row.{Row}
use Rattle.dq_tables.specs.TableStates.{State}
use Rattle.dq_core.specs.declared.event.Event.{Event}
use Rattle.dq_core.specs.declared.event.Event.TheVariants.{Open, Piece, End, Pull, Schedule, Withdraw}
use Rattle.dq_core.specs.declared.event.Reply.{Reply}
use Rattle.dq_core.specs.Histories.{opened_numbers}
use Rattle.dq_core.specs.ServerView.{ServerView, Refines}
use Rattle.dq_wires.specs.declared.calls.Call.{Call}
use Rattle.dq_wires.specs.declared.loopback.looping.CaptureConnection.{CaptureConnection}
use Rattle.dq_wires.specs.declared.loopback.looping.Wanted.{Wanted}
use Rattle.dq_wires.specs.declared.loopback.looping.Wanted.TheVariants as wanted
use Rattle.dq_wires.specs.HeldConnections.{HeldConnection, connection_with}
use Rattle.dq_wires.specs.ServerSteps.{Stepped, Moves}
use Rattle.dq_wires.specs.Turns.{Hold, Turn, TurnsWent}
use Rattle.dq_wires.specs.Turners.{TurnerView, IsOrder}
use Rattle.dq_wires.specs.Servings.{Act, act_calls, act_steps, nothing_held, after_acts, all_turned, Serving}
use Rattle.dq_wires.specs.Servings.Act.{Turned, Ordered}
use Rattle.dq_wires.specs.Looping.{orders_of, ordered_in, capture_number, has_number, IsHeard, IsPlayed, ArePlayed, IsCome, Acted, ActsOn, PlaysOn}
use Rattle.dq_wires.proofs.Logging.{logs-then, logs-none}
use Rattle.dq_wires.proofs.TurnSequences.{runs-then}
use Rattle.dq_wires.proofs.Serving.{acts-more, after-more, turned-are, turned-after, turned-calls, turned-steps, serving_begins, serving-more}

ordered_in-append : (acts more : List Act) → ordered_in (acts ++ more) ≡ ordered_in acts ++ ordered_in more
ordered_in-append [] more = refl
ordered_in-append (Turned t ∷ acts) more = ordered_in-append acts more
ordered_in-append (Ordered event reply ∷ acts) more = ap (λ events. event ∷ events) (ordered_in-append acts more)

ordered_in-turned : (turns : List Turn) → ordered_in (all_turned turns) ≡ []
ordered_in-turned [] = refl
ordered_in-turned (t ∷ turns) = ordered_in-turned turns

opened_numbers-append : (events more : List Event) → opened_numbers (events ++ more) ≡ opened_numbers events ++ opened_numbers more
opened_numbers-append [] more = refl
opened_numbers-append (Open number ∷ events) more = ap (λ numbers. number ∷ numbers) (opened_numbers-append events more)
opened_numbers-append (Piece number octets ∷ events) more = opened_numbers-append events more
opened_numbers-append (End number ∷ events) more = opened_numbers-append events more
opened_numbers-append (Pull number ∷ events) more = opened_numbers-append events more
opened_numbers-append (Schedule inst octets ∷ events) more = opened_numbers-append events more
opened_numbers-append (Withdraw inst id ∷ events) more = opened_numbers-append events more

-- the first event, and one more
first-played : (earlier : List Event) (h : Hold) (event : Event) (own : List Act) → ordered_in own ≡ orders_of (event ∷ [])
    → IsPlayed (opened_numbers earlier) event h (after_acts h own) → ArePlayed earlier h (event ∷ []) own
first-played earlier h event own ordered played = (own, [], sym (append-nil own), ordered, played, refl)

played-more : (earlier : List Event) (h : Hold) (events : List Event) (acts : List Act) (event : Event) (own : List Act)
    → ArePlayed earlier h events acts → ordered_in own ≡ orders_of (event ∷ [])
    → IsPlayed (opened_numbers (earlier ++ events)) event (after_acts h acts) (after_acts (after_acts h acts) own)
    → ArePlayed earlier h (events ++ event ∷ []) (acts ++ own)
played-more earlier h [] acts event own none ordered played =
    rw none (first-played earlier h event own ordered (rw (none, append-nil earlier) at played))
played-more earlier h (first ∷ events) acts event own (begun, later, split, orders, is, rest) ordered played = (
  begun,
  later ++ own,
  rw split (append_assoc begun later own),
  orders,
  is,
  played-more (earlier ++ first ∷ []) (after_acts h begun) events later event own rest ordered
      (rw (append_assoc earlier (first ∷ []) events, ← after-more h begun later, ← split) played),
)

module _ {Tables : Type 0} {state : Tables → State} where
  acted-none : (log : Option (List Call)) (turner : TurnerView Tables) → turner.fault ≡ None → Acted state log log turner turner []
  acted-none log turner working = record { are = tt; leaves = refl; calls = logs-none log; steps = refl; working = working }

  acted-then : {before now after : Option (List Call)} {old mid new : TurnerView Tables} {acts more : List Act}
      → Acted state before now old mid acts → Acted state now after mid new more → Acted state before after old new (acts ++ more)
  acted-then {before} {now} {after} {old} {mid} {new} {acts} {more} one two = record {
    are = acts-more old.hold acts more one.are (rw one.leaves at two.are);
    leaves = two.leaves ∙ ap (λ (h : Hold). after_acts h more) one.leaves ∙ sym (after-more old.hold acts more);
    calls = rw (flat_map-append act_calls acts more)
        (logs-then before now after (flat_map act_calls acts) (flat_map act_calls more) one.calls two.calls);
    steps = rw (flat_map-append act_steps acts more)
        (runs-then (Moves state) old.server mid.server new.server (flat_map act_steps acts) (flat_map act_steps more) one.steps two.steps);
    working = two.working;
  }

  pub acts-none : (log : Option (List Call)) (turner : TurnerView Tables) → turner.fault ≡ None → ActsOn state log log turner turner []
  acts-none log turner working = ([], refl, acted-none log turner working)

  pub acts-turns : {before after : Option (List Call)} {old new : TurnerView Tables} {count : ℕ}
      → TurnsWent (Moves state) before after old.server new.server old.hold new.hold count → new.fault ≡ None → ActsOn state before after old new []
  acts-turns {before} {after} {old} {new} {count} went working = (
    all_turned went.turns,
    ordered_in-turned went.turns,
    record {
      are = turned-are old.hold went.turns went.are;
      leaves = went.leaves ∙ sym (turned-after old.hold went.turns);
      calls = rw (turned-calls went.turns) went.calls;
      steps = rw (turned-steps went.turns) went.steps;
      working = working;
    },
  )

  pub acts-order : {log : Option (List Call)} {old new : TurnerView Tables} {event : Event} {reply : Reply}
      → IsOrder event → Stepped state old.server new.server event reply → new.hold ≡ old.hold → new.fault ≡ None
      → ActsOn state log log old new (event ∷ [])
  acts-order {log} {old} {new} {event} {reply} order goes held working = (
    Ordered event reply ∷ [],
    refl,
    record { are = (order, tt); leaves = held; calls = logs-none log; steps = (new.server, goes, refl); working = working },
  )

  pub acts-then : {before now after : Option (List Call)} {old mid new : TurnerView Tables} {orders later : List Event}
      → ActsOn state before now old mid orders → ActsOn state now after mid new later → ActsOn state before after old new (orders ++ later)
  acts-then {before} {now} {after} {old} {mid} {new} {orders} {later} one two =
      (one.0 ++ two.0, ordered_in-append one.0 two.0 ∙ ap₂ (λ (x y : List Event). x ++ y) one.1 two.1, acted-then one.2 two.2)

  -- a serving that begins with the turner
  pub plays-whole : {Wires : Type 0} (log : Wires → Option (List Call)) (wires left : Wires) (old new : TurnerView Tables) (events : List Event)
      (rows : List Row) → Refines state rows old.server [] → old.hold ≡ nothing_held → PlaysOn state (log wires) (log left) old new events
      → (acts : List Act) × (left : Wires) × (last : ServerView Tables) × (hold : Hold)
      × ArePlayed [] nothing_held events acts × Serving state rows (log wires) (log left) old.server last hold acts
  plays-whole log wires left old new events rows begins held (acts, played, acted) = (
    acts,
    left,
    new.server,
    new.hold,
    rw held at played,
    serving-more state rows (log wires) (log wires) (log left) old.server old.server new.server nothing_held new.hold [] acts
        (serving_begins state rows (log wires) old.server begins) (rw held at acted.are) (rw held at acted.leaves) acted.calls acted.steps,
  )

-- What came about of the events so far.
pub record PlayedSo {Tables : Type 0} (state : Tables → State) (before now : Option (List Call)) (old mid : TurnerView Tables)
    (numbers : List ℕ) (all done left : List Event) : Type 0 where
  pub parts : done ++ left ≡ all
  pub plays : PlaysOn state before now old mid done
  pub opened : numbers ≡ opened_numbers done

module _ {Tables : Type 0} {state : Tables → State} where
  pub plays-none : (log : Option (List Call)) (turner : TurnerView Tables) → turner.fault ≡ None → PlaysOn state log log turner turner []
  plays-none log turner working = ([], refl, acted-none log turner working)

  plays-then : {before now after : Option (List Call)} {old mid new : TurnerView Tables} (done : List Event) (event : Event)
      → PlaysOn state before now old mid done → ActsOn state now after mid new (orders_of (event ∷ []))
      → IsPlayed (opened_numbers done) event mid.hold new.hold → PlaysOn state before after old new (done ++ event ∷ [])
  plays-then {old = old} done event (acts, played, acted) (own, ordered, more) is = (
    acts ++ own,
    played-more [] old.hold done acts event own played ordered (rw (← acted.leaves, ← more.leaves) is),
    acted-then acted more,
  )

  pub played-next : {before now after : Option (List Call)} {old mid new : TurnerView Tables}
      {numbers grown : List ℕ} {all done left later : List Event} {event : Event}
      → PlayedSo state before now old mid numbers all done left → left ≡ event ∷ later
      → ActsOn state now after mid new (orders_of (event ∷ [])) → IsPlayed numbers event mid.hold new.hold
      → grown ≡ numbers ++ opened_numbers (event ∷ []) → PlayedSo state before after old new grown all (done ++ event ∷ []) later
  played-next {done = done} {later = later} {event = event} played e acts is grows = record {
    parts = append_assoc done (event ∷ []) later ∙ rw (← e) played.parts;
    plays = plays-then done event played.plays acts (rw played.opened at is);
    opened = rw (grows, played.opened) (sym (opened_numbers-append done (event ∷ [])));
  }

-- A line with the same number in its place changes no number, whatever came of it.
pub numbers-kept : {A E : Type 0} (r : Result A E) (lines : List CaptureConnection) (at : ℕ) (line was : CaptureConnection)
    → was ≡ slice_index_or lines at was → line.number ≡ was.number
    → OnOk r (map capture_number (slice_set lines at line) ≡ map capture_number lines ++ [])
numbers-kept (Err e) lines at line was stands same = tt
numbers-kept (Ok x) lines at line was stands same =
    map-set_same capture_number lines at line was (same ∙ ap (λ (l : CaptureConnection). l.number) stands) ∙ sym (append-nil (map capture_number lines))

module _ (number : ℕ) where
  front-numbers : (lines : List CaptureConnection)
      → prefix_len (λ (other : ℕ). not (other == number)) (map capture_number lines) ≡ prefix_len (λ (line : CaptureConnection). not (has_number number line)) lines
  front-numbers [] = refl
  front-numbers (line ∷ lines) = ap (λ (n : ℕ). cond (not (line.number == number)) (1 + n) 0) (front-numbers lines)

  -- a line stands where its number does
  line-position : (lines : List CaptureConnection) → position (λ (other : ℕ). other == number) (map capture_number lines) ≡ position (has_number number) lines
  line-position lines = rw (front-numbers lines, length-map lines capture_number) refl

  module _ (lines : List CaptureConnection) (at : Option ℕ) (stands : at ≡ position (has_number number) lines) where
    found : position (λ (other : ℕ). other == number) (map capture_number lines) ≡ at
    found = line-position lines ∙ sym stands

    pub piece-unopened : (octets : List ℕ) (before after : Hold) → at ≡ None → IsPlayed (map capture_number lines) (Piece number octets) before after
    piece-unopened octets before after none = rw (found, none) tt

    pub end-unopened : (before after : Hold) → at ≡ None → IsPlayed (map capture_number lines) (End number) before after
    end-unopened before after none = rw (found, none) tt

    pub piece-played : (octets : List ℕ) (before after : Hold) (i given : ℕ) → at ≡ Some i → given ≡ i + 1
        → IsHeard octets (connection_with given before.held) (connection_with given after.held) → IsPlayed (map capture_number lines) (Piece number octets) before after
    piece-played octets before after i given some is heard = rw (found, some, ← is) heard

    pub end-played : (before after : Hold) (i given : ℕ) → at ≡ Some i → given ≡ i + 1
        → connection_with given after.held ≡ None → IsPlayed (map capture_number lines) (End number) before after
    end-played before after i given some is gone = rw (found, some, ← is) gone
