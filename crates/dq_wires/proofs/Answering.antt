-- What is written in a serving is the front of what was answered, on each connection.
use Rattle.std.proofs.Common.{◌≡◌, ◌≤◌, ◌⊎◌, ◌==◌, ℕ, Bool, true, false, if◌then◌else◌, List, [], ◌∷◌, ◌++◌, map, refl, sym, ◌∙◌, ap, inl, inr, arith, append_assoc}
use Rattle.std.specs.List.{flat_map}
use Rattle.std.proofs.lemmas.List.{append-nil}
use Rattle.std.proofs.lemmas.Grind.{flat_map-append}
use Rattle.dq_config.specs.declared.config.Institution.{Institution}
use Rattle.dq_core.specs.declared.event.Event.{Event}
use Rattle.dq_core.specs.declared.event.Event.TheVariants.{Open, Schedule, Withdraw}
use Rattle.dq_core.specs.declared.event.Reply.{Reply}
use Rattle.dq_core.specs.Own.{is_on_connection, replies_at}
use Rattle.dq_core.specs.Shared.{World, turn, world_after_turn, replies_from}
use Rattle.dq_wires.specs.HeldConnections.{HeldConnection, reply_octets}
use Rattle.dq_wires.specs.Steps.{Step, events_of, replies_of}
use Rattle.dq_wires.specs.Steps.Step.{Answered, Asked}
use Rattle.dq_wires.specs.ConnectionActions.{ConnectionAction, action_steps, Break}
use Rattle.dq_wires.specs.ConnectionActions.ConnectionAction.{WriteFailed, Received, Pulled, PeerLeft}
use Rattle.dq_wires.specs.Turns.{Done, connection_of, done_steps, connections_kept, Hold, Taking, taking_steps, with_taken, Turn, IsTurn, turn_steps, after_turn, Cut, IsMidway, IsCut, cut_steps}
use Rattle.dq_wires.specs.Turns.Taking.{NewConnection}
use Rattle.dq_wires.specs.Turns.Cut.{Midway}
use Rattle.dq_wires.specs.Octets.{answered_in, written_in, lost_in, on, held_on, done_on, RisesTo, IsNumbered}
use Rattle.dq_wires.specs.Turners.{IsOrder}
use Rattle.dq_wires.specs.Servings.{Act, act_steps, act_done, AreActs, after_acts, cut_done, served_steps, served_done}
use Rattle.dq_wires.specs.Servings.Act.{Turned, Ordered}
use Rattle.dq_wires.proofs.Conserving.{rises-taken, turn-numbers}
use Rattle.dq_wires.proofs.Numbered.{IsAbsent, IsGone, nothing-on, absent-done, absent-held, above-absent, round-conserves, taken-held, turn-conserves, gone-taken, gone-turn, gone-done, lost-or-gone_after, done-append, conserved-on, equal}

-- the octets that steps answer on a connection
abbrev pub answer_at : ℕ → Step → List ℕ
answer_at n (Answered event reply) = if is_on_connection n event then reply_octets reply else []
answer_at n (Asked number pending) = []

abbrev pub answers : ℕ → List Step → List ℕ
answers n steps = flat_map (answer_at n) steps

pub octets-chosen : (b : Bool) (r : Reply) (rs : List Reply)
    → flat_map reply_octets (if b then r ∷ rs else rs) ≡ (if b then reply_octets r else []) ++ flat_map reply_octets rs
octets-chosen true r rs = refl
octets-chosen false r rs = refl

pub answers-at : (n : ℕ) (steps : List Step)
    → flat_map reply_octets (replies_at (is_on_connection n) (events_of steps) (replies_of steps)) ≡ answers n steps
answers-at n [] = refl
answers-at n (Answered event reply ∷ steps) =
    octets-chosen (is_on_connection n event) reply (replies_at (is_on_connection n) (events_of steps) (replies_of steps))
    ∙ ap (λ x. (if is_on_connection n event then reply_octets reply else []) ++ x) (answers-at n steps)
answers-at n (Asked number pending ∷ steps) = answers-at n steps

answers-append : (n : ℕ) (first later : List Step) → answers n (first ++ later) ≡ answers n first ++ answers n later
answers-append n first later = flat_map-append (answer_at n) first later

-- An opening is answered with no octets.
abbrev pub IsQuietAt : Event → Reply → Type 0
IsQuietAt (Open number) reply = reply_octets reply ≡ []
IsQuietAt other reply = Unit {0}

abbrev pub IsQuiet : List Step → Type 0
IsQuiet [] = Unit {0}
IsQuiet (Answered event reply ∷ steps) = IsQuietAt event reply × IsQuiet steps
IsQuiet (Asked number pending ∷ steps) = IsQuiet steps

quiet-at : (institutions : List Institution) (world : World) (event : Event) (reply : Reply) → reply ≡ (turn institutions world event).reply
    → IsQuietAt event reply
quiet-at institutions world (Open number) reply e = rw e refl
quiet-at institutions world other reply e = tt

-- as the plain server answers
pub quiet-steps : (institutions : List Institution) (world : World) (steps : List Step)
    → replies_of steps ≡ replies_from institutions world (events_of steps) → IsQuiet steps
quiet-steps institutions world [] e = tt
quiet-steps institutions world (Asked number pending ∷ steps) e = quiet-steps institutions world steps e
quiet-steps institutions world (Answered event reply ∷ steps) e =
    let t = turn institutions world event in
    let head : reply ≡ t.reply = cc in
    let rest : replies_of steps ≡ replies_from institutions (world_after_turn world t) (events_of steps) = cc in
    (quiet-at institutions world event reply head, quiet-steps institutions (world_after_turn world t) steps rest)

quiet-first : (first later : List Step) → IsQuiet (first ++ later) → IsQuiet first
quiet-first [] later q = tt
quiet-first (Answered event reply ∷ first) later q = (q.0, quiet-first first later q.1)
quiet-first (Asked number pending ∷ first) later q = quiet-first first later q

quiet-later : (first later : List Step) → IsQuiet (first ++ later) → IsQuiet later
quiet-later [] later q = q
quiet-later (Answered event reply ∷ first) later q = quiet-later first later q.1
quiet-later (Asked number pending ∷ first) later q = quiet-later first later q

-- the answers at the steps of an action
one-answer : (b : Bool) (octets : List ℕ)
    → (if b then octets else []) ++ (let none : List ℕ = [] in none) ≡ (if b then octets ++ [] else [])
one-answer true octets = refl
one-answer false octets = refl

action-answers : (n : ℕ) (wire : HeldConnection) (action : ConnectionAction)
    → answers n (action_steps wire action) ≡ on n wire.number (flat_map reply_octets (replies_of (action_steps wire action)))
action-answers n wire (WriteFailed reply shut) = one-answer (wire.number == n) (reply_octets reply)
action-answers n wire (Received octets reply) = one-answer (wire.number == n) (reply_octets reply)
action-answers n wire (Pulled reply) = one-answer (wire.number == n) (reply_octets reply)
action-answers n wire (PeerLeft came reply shut) = one-answer (wire.number == n) (reply_octets reply)
action-answers n wire other = sym (nothing-on (wire.number == n))

round-answers : (n : ℕ) (done : List Done) → answers n (flat_map done_steps done) ≡ done_on n answered_in done
round-answers n [] = refl
round-answers n (d ∷ done) =
    answers-append n (done_steps d) (flat_map done_steps done)
    ∙ ap (λ x. x ++ answers n (flat_map done_steps done)) (action-answers n d.wire d.action)
    ∙ ap (λ x. on n d.wire.number (answered_in d) ++ x) (round-answers n done)

taking-answers : (n : ℕ) (taking : Taking) → IsQuiet (taking_steps taking) → answers n (taking_steps taking) ≡ []
taking-answers n (NewConnection place number reply) q = rw (q.0, nothing-on (number == n)) refl
taking-answers n other q = refl

begun-answers : (n : ℕ) (taking : Taking) (done : List Done) → IsQuiet (taking_steps taking ++ flat_map done_steps done)
    → answers n (taking_steps taking ++ flat_map done_steps done) ≡ done_on n answered_in done
begun-answers n taking done q =
    answers-append n (taking_steps taking) (flat_map done_steps done)
    ∙ rw (taking-answers n taking (quiet-first (taking_steps taking) (flat_map done_steps done) q)) (round-answers n done)

-- What was unsent on a connection, and is then answered, begins with what is written.
abbrev pub Begun : ℕ → Hold → List Step → List Done → Type 0
Begun n h steps done = (rest : List ℕ) × (held_on n h.held ++ answers n steps ≡ done_on n written_in done ++ rest)

-- the first of them have rising numbers
rises-front : (first later : List HeldConnection) (low high : ℕ) → RisesTo low high (first ++ later)
    → (m : ℕ) × RisesTo low m first
rises-front [] later low high r = (low, omega arith)
rises-front (w ∷ first) later low high r = let p = rises-front first later w.number high r.1 in (p.0, (r.0, p.1))

-- a number is absent from the first or from the others
one-absent : (n : ℕ) (first later : List HeldConnection) (low high : ℕ) → RisesTo low high (first ++ later) → IsAbsent n first ⊎ IsAbsent n later
one-absent n [] later low high r = inl tt
one-absent n (w ∷ first) later low high r = by (w.number == n) refl (one-absent n first later w.number high r.1) where
  after : (held : List HeldConnection) (from : ℕ) → n ≤ from → RisesTo from high (held ++ later) → IsAbsent n later
  after [] from below r' = above-absent later from high n below r'
  after (v ∷ held) from below r' = after held v.number (omega (arith, r'.0)) r'.1

  by : (b : Bool) → (w.number == n) ≡ b → IsAbsent n first ⊎ IsAbsent n later → IsAbsent n (w ∷ first) ⊎ IsAbsent n later
  by true e so = let m = equal n w.number e in inr (after first w.number (omega (arith, m)) r.1)
  by false e (inl a) = inl (e, a)
  by false e (inr a) = inr a

absent-first : (n : ℕ) (first later : List HeldConnection) → IsAbsent n (first ++ later) → IsAbsent n first
absent-first n [] later a = tt
absent-first n (w ∷ first) later a = (a.0, absent-first n first later a.1)

module _ (n : ℕ) (h : Hold) where
  midway-begun : (taking : Taking) (done : List Done) (wire : HeldConnection) (at : Break) → IsNumbered h → IsMidway h taking done wire at
      → IsQuiet (taking_steps taking ++ flat_map done_steps done) → Begun n h (taking_steps taking ++ flat_map done_steps done) done
  midway-begun taking done wire at numbered fits q =
      let rises : RisesTo 0 (with_taken h taking).newest (map connection_of done ++ wire ∷ fits.others) =
      rw fits.each (rises-taken h taking fits.takes numbered) in
      let front = rises-front (map connection_of done) (wire ∷ fits.others) 0 (with_taken h taking).newest rises in
      let same : held_on n h.held ≡ held_on n (map connection_of done) ++ held_on n (wire ∷ fits.others) =
      sym (taken-held n h taking) ∙ ap (held_on n) (sym fits.each)
      ∙ flat_map-append (λ (w : HeldConnection). on n w.number w.unsent) (map connection_of done) (wire ∷ fits.others) in
      let answered = begun-answers n taking done q in
      elim (one-absent n (map connection_of done) (wire ∷ fits.others) 0 (with_taken h taking).newest rises) [
        | inl none ↦ (held_on n h.held, rw (answered, absent-done n answered_in done none, absent-done n written_in done none) (append-nil (held_on n h.held)))
        | inr none ↦
            let shorter : held_on n h.held ≡ held_on n (map connection_of done) =
            same ∙ rw (absent-held n (wire ∷ fits.others) none) (append-nil (held_on n (map connection_of done))) in
            (done_on n lost_in done ++ held_on n (flat_map connections_kept done), rw (answered, shorter) (round-conserves n done 0 front.0 front.1 fits.due))
      ]

  cut-begun : (cut : Cut) → IsNumbered h → IsCut h cut → IsQuiet (cut_steps cut) → Begun n h (cut_steps cut) (cut_done cut)
  cut-begun (Midway taking done wire at) numbered fits q = midway-begun taking done wire at numbered fits q
  cut-begun other numbered fits q = (held_on n h.held ++ [], refl)

  cut-gone : (cut : Cut) → IsCut h cut → IsGone n h → done_on n written_in (cut_done cut) ≡ []
  cut-gone (Midway taking done wire at) fits gone =
      absent-done n written_in done (absent-first n (map connection_of done) (wire ∷ fits.others) (rw fits.each (gone-taken n h taking fits.takes gone).1))
  cut-gone other fits gone = refl

  turn-begun : (t : Turn) (steps : List Step) (done : List Done) → IsNumbered h → IsTurn h t → IsQuiet (turn_steps t)
      → Begun n (after_turn h t) steps done → (IsGone n (after_turn h t) → done_on n written_in done ≡ [])
      → Begun n h (turn_steps t ++ steps) (t.done ++ done)
  turn-begun t steps done numbered is q later none =
      let either : (done_on n lost_in t.done ≡ []) ⊎ (done_on n written_in done ≡ []) =
      elim (lost-or-gone_after n h t numbered is) [ inl e ↦ inl e | inr gone ↦ inr (none gone) ] in (
        (done_on n lost_in t.done ++ []) ++ later.0,
        rw (answers-append n (turn_steps t) steps, begun-answers n t.taking t.done q, done-append n written_in t.done done)
            (conserved-on (held_on n h.held) (done_on n answered_in t.done) (done_on n written_in t.done) (done_on n lost_in t.done)
            (held_on n (after_turn h t).held) (answers n steps) (done_on n written_in done) [] later.0 (turn-conserves n h t numbered is) later.1 either),
      )

acts-gone : (n : ℕ) (h : Hold) (acts : List Act) (cut : Cut) → AreActs h acts → IsCut (after_acts h acts) cut → IsGone n h
    → done_on n written_in (served_done acts cut) ≡ []
acts-gone n h [] cut are fits gone = cut-gone n h cut fits gone
acts-gone n h (Turned t ∷ acts) cut are fits gone =
    rw (
      append_assoc t.done (flat_map act_done acts) (cut_done cut),
      done-append n written_in t.done (served_done acts cut),
      gone-done n written_in h t are.0 gone,
    )
    (acts-gone n (after_turn h t) acts cut are.1 fits (gone-turn n h t are.0 gone))
acts-gone n h (Ordered event reply ∷ acts) cut are fits gone = acts-gone n h acts cut are.1 fits gone

-- an order is on no connection
order-answer : (n : ℕ) (event : Event) (reply : Reply) → IsOrder event → answer_at n (Answered event reply) ≡ []
order-answer n (Schedule inst octets) reply h = refl
order-answer n (Withdraw inst id) reply h = refl
order-answer n other reply h = absurd h

pub acts-begun : (n : ℕ) (h : Hold) (acts : List Act) (cut : Cut) → IsNumbered h → AreActs h acts → IsCut (after_acts h acts) cut
    → IsQuiet (served_steps acts cut) → Begun n h (served_steps acts cut) (served_done acts cut)
acts-begun n h [] cut numbered are fits q = cut-begun n h cut numbered fits q
acts-begun n h (Turned t ∷ acts) cut numbered are fits q =
    let joined : IsQuiet (turn_steps t ++ served_steps acts cut) = rw (append_assoc (turn_steps t) (flat_map act_steps acts) (cut_steps cut)) at q in
    rw (append_assoc (turn_steps t) (flat_map act_steps acts) (cut_steps cut), append_assoc t.done (flat_map act_done acts) (cut_done cut))
    (turn-begun n h t (served_steps acts cut) (served_done acts cut) numbered are.0 (quiet-first (turn_steps t) (served_steps acts cut) joined)
    (acts-begun n (after_turn h t) acts cut (turn-numbers h t are.0 numbered) are.1 fits (quiet-later (turn_steps t) (served_steps acts cut) joined))
    (acts-gone n (after_turn h t) acts cut are.1 fits))
acts-begun n h (Ordered event reply ∷ acts) cut numbered are fits q =
    rw (order-answer n event reply are.0) (acts-begun n h acts cut numbered are.1 fits q.1)
