-- The octets of one connection, over turns.
use Rattle.std.proofs.Common.{◌≡◌, ◌<◌, ◌≤◌, ◌⊎◌, ◌==◌, ℕ, Bool, true, false, if◌then◌else◌, List, [], ◌∷◌, ◌++◌, map, refl, sym, ◌∙◌, ap, inl, inr, arith, append_assoc}
use Rattle.std.specs.List.{flat_map}
use Rattle.std.proofs.lemmas.List.{append-nil}
use Rattle.std.proofs.lemmas.Grind.{flat_map-append}
use Rattle.std.proofs.lemmas.Bool.Decides.{nat_tests}
use Rattle.dq_wires.specs.HeldConnections.{HeldConnection, new_held}
use Rattle.dq_wires.specs.ConnectionActions.{ConnectionAction, action_after}
use Rattle.dq_wires.specs.ConnectionActions.ConnectionAction.{WriteFailed, LastWriteFailed, PeerLeft}
use Rattle.dq_wires.specs.Turns.{Done, connection_of, connections_kept, AreDue, Hold, Taking, IsTaking, with_taken, Turn, IsTurn, after_turn, AreTurns, after_turns}
use Rattle.dq_wires.specs.Turns.Taking.{NewConnection}
use Rattle.dq_wires.specs.Octets.{answered_in, written_in, lost_in, action_lost, unsent_of, on, held_on, done_on, turns_done, RisesTo, IsNumbered}
use Rattle.dq_wires.proofs.Conserving.{action_conserves, kept-or-not, rises-taken, turn-numbers}

-- no connection has the number
abbrev pub IsAbsent : ℕ → List HeldConnection → Type 0
IsAbsent n [] = Unit {0}
IsAbsent n (w ∷ held) = ((w.number == n) ≡ false) × IsAbsent n held

pub nothing-on : (b : Bool) → (let none : List ℕ = [] in (if b then none else none) ≡ none)
nothing-on true = refl
nothing-on false = refl

pub absent-held : (n : ℕ) (held : List HeldConnection) → IsAbsent n held → held_on n held ≡ []
absent-held n [] a = refl
absent-held n (w ∷ held) a = rw (a.0, absent-held n held a.1) refl

pub absent-done : (n : ℕ) (f : Done → List ℕ) (done : List Done) → IsAbsent n (map connection_of done) → done_on n f done ≡ []
absent-done n f [] a = refl
absent-done n f (d ∷ done) a = rw (a.0, absent-done n f done a.1) refl

absent-past : (n : ℕ) (d : Done) (held : List HeldConnection) → (d.wire.number == n) ≡ false → IsAbsent n held
    → (action_after d.wire d.action ≡ []) ⊎ ((next : HeldConnection) × (action_after d.wire d.action ≡ next ∷ []) × (next.number ≡ d.wire.number))
    → IsAbsent n (action_after d.wire d.action ++ held)
absent-past n d held a h (inl e) = rw e h
absent-past n d held a h (inr (next, e, m)) = rw (e, m) (a, h)

absent-kept : (n : ℕ) (done : List Done) → IsAbsent n (map connection_of done) → IsAbsent n (flat_map connections_kept done)
absent-kept n [] a = tt
absent-kept n (d ∷ done) a = absent-past n d (flat_map connections_kept done) a.0 (absent-kept n done a.1) (kept-or-not d.wire d.action)

absent-more : (n : ℕ) (held : List HeldConnection) (w : HeldConnection) → IsAbsent n held → (w.number == n) ≡ false → IsAbsent n (held ++ w ∷ [])
absent-more n [] w a e = (e, tt)
absent-more n (v ∷ held) w a e = (a.0, absent-more n held w a.1 e)

above : (n m : ℕ) → n < m → (m == n) ≡ false
above n m h = grind (arith, nat_tests)

pub equal : (n m : ℕ) → (m == n) ≡ true → m ≡ n
equal n m h = grind (arith, nat_tests)

pub above-absent : (held : List HeldConnection) (low high n : ℕ) → n ≤ low → RisesTo low high held → IsAbsent n held
above-absent [] low high n below r = tt
above-absent (w ∷ held) low high n below r =
    (above n w.number (omega (arith, r.0)), above-absent held w.number high n (omega (arith, r.0)) r.1)

rises-over : (held : List HeldConnection) (low high : ℕ) → RisesTo low high held → low ≤ high
rises-over [] low high r = r
rises-over (w ∷ held) low high r = omega (arith, r.0, rises-over held w.number high r.1)

-- what is kept of one connection
kept-own : (n : ℕ) (d : Done) → (d.wire.number == n) ≡ true
    → (action_after d.wire d.action ≡ []) ⊎ ((next : HeldConnection) × (action_after d.wire d.action ≡ next ∷ []) × (next.number ≡ d.wire.number))
    → held_on n (connections_kept d) ≡ flat_map unsent_of (connections_kept d)
kept-own n d same (inl e) = rw e refl
kept-own n d same (inr (next, e, m)) = rw (e, m, same) refl

kept-other : (n : ℕ) (d : Done) → (d.wire.number == n) ≡ false
    → (action_after d.wire d.action ≡ []) ⊎ ((next : HeldConnection) × (action_after d.wire d.action ≡ next ∷ []) × (next.number ≡ d.wire.number))
    → held_on n (connections_kept d) ≡ []
kept-other n d other (inl e) = rw e refl
kept-other n d other (inr (next, e, m)) = rw (e, m, other) refl

own-alone : (u a w l k u' a' w' l' k' : List ℕ) → u ++ a ≡ w ++ (l ++ k) → u' ≡ [] → a' ≡ [] → w' ≡ [] → l' ≡ [] → k' ≡ []
    → (u ++ u') ++ (a ++ a') ≡ (w ++ w') ++ ((l ++ l') ++ (k ++ k'))
own-alone u a w l k u' a' w' l' k' e e1 e2 e3 e4 e5 = rw (e1, e2, e3, e4, e5) (simp append-nil e)

-- what a connection had unsent and was answered in its turn is what was written, lost and is unsent
pub round-conserves : (n : ℕ) (done : List Done) (low high : ℕ) → RisesTo low high (map connection_of done) → AreDue done
    → held_on n (map connection_of done) ++ done_on n answered_in done
    ≡ done_on n written_in done ++ (done_on n lost_in done ++ held_on n (flat_map connections_kept done))
round-conserves n [] low high r due = refl
round-conserves n (d ∷ done) low high r due = by (d.wire.number == n) refl (round-conserves n done d.wire.number high r.1 due.1) where
  split : held_on n (connections_kept d ++ flat_map connections_kept done) ≡ held_on n (connections_kept d) ++ held_on n (flat_map connections_kept done)
  split = flat_map-append (λ (w : HeldConnection). on n w.number w.unsent) (connections_kept d) (flat_map connections_kept done)

  by : (b : Bool) → (d.wire.number == n) ≡ b
      → held_on n (map connection_of done) ++ done_on n answered_in done
      ≡ done_on n written_in done ++ (done_on n lost_in done ++ held_on n (flat_map connections_kept done))
      → held_on n (map connection_of (d ∷ done)) ++ done_on n answered_in (d ∷ done)
      ≡ done_on n written_in (d ∷ done) ++ (done_on n lost_in (d ∷ done) ++ held_on n (flat_map connections_kept (d ∷ done)))
  by true e others_conserve =
      let m : d.wire.number ≡ n = equal n d.wire.number e in
      let others : IsAbsent n (map connection_of done) = above-absent (map connection_of done) d.wire.number high n (omega (arith, m)) r.1 in
      rw (split, kept-own n d e (kept-or-not d.wire d.action), e)
      (own-alone d.wire.unsent (answered_in d) (written_in d) (lost_in d) (flat_map unsent_of (connections_kept d))
      (held_on n (map connection_of done)) (done_on n answered_in done) (done_on n written_in done) (done_on n lost_in done) (held_on n (flat_map connections_kept done))
      (action_conserves d.wire d.action due.0) (absent-held n (map connection_of done) others) (absent-done n answered_in done others)
      (absent-done n written_in done others) (absent-done n lost_in done others)
      (absent-held n (flat_map connections_kept done) (absent-kept n done others)))
  by false e others_conserve = rw (split, kept-other n d e (kept-or-not d.wire d.action), e) others_conserve

-- a connection that loses octets is given up
lost-or-kept : (wire : HeldConnection) (action : ConnectionAction) → (action_lost wire action ≡ []) ⊎ (action_after wire action ≡ [])
lost-or-kept wire (WriteFailed reply shut) = inr refl
lost-or-kept wire (LastWriteFailed shut) = inr refl
lost-or-kept wire (PeerLeft came reply shut) = inr refl
lost-or-kept wire other = inl refl

-- nothing was lost on it, or it is not held any more
lost-or-gone : (n : ℕ) (done : List Done) (low high : ℕ) → RisesTo low high (map connection_of done)
    → (done_on n lost_in done ≡ []) ⊎ ((n ≤ high) × IsAbsent n (flat_map connections_kept done))
lost-or-gone n [] low high r = inl refl
lost-or-gone n (d ∷ done) low high r = by (d.wire.number == n) refl (lost-or-gone n done d.wire.number high r.1) where
  by : (b : Bool) → (d.wire.number == n) ≡ b
      → (done_on n lost_in done ≡ []) ⊎ ((n ≤ high) × IsAbsent n (flat_map connections_kept done))
      → (done_on n lost_in (d ∷ done) ≡ []) ⊎ ((n ≤ high) × IsAbsent n (flat_map connections_kept (d ∷ done)))
  by true e so =
      let m : d.wire.number ≡ n = equal n d.wire.number e in
      let others : IsAbsent n (map connection_of done) = above-absent (map connection_of done) d.wire.number high n (omega (arith, m)) r.1 in
      elim (lost-or-kept d.wire d.action) [
        | inl none ↦ inl (rw (e, none, absent-done n lost_in done others) refl)
        | inr gone ↦ inr (omega (arith, m, rises-over (map connection_of done) d.wire.number high r.1), rw gone (absent-kept n done others))
      ]
  by false e (inl none) = inl (rw (e, none) refl)
  by false e (inr gone) = inr (gone.0, absent-past n d (flat_map connections_kept done) e gone.1 (kept-or-not d.wire d.action))

-- one that has just come has nothing unsent
pub taken-held : (n : ℕ) (h : Hold) (taking : Taking) → held_on n (with_taken h taking).held ≡ held_on n h.held
taken-held n h (NewConnection place number reply) =
    flat_map-append (λ (w : HeldConnection). on n w.number w.unsent) h.held (new_held place number ∷ [])
    ∙ rw (nothing-on (number == n)) (append-nil (held_on n h.held))
taken-held n h other = refl

pub turn-conserves : (n : ℕ) (h : Hold) (t : Turn) → IsNumbered h → IsTurn h t
    → held_on n h.held ++ done_on n answered_in t.done
    ≡ done_on n written_in t.done ++ (done_on n lost_in t.done ++ held_on n (after_turn h t).held)
turn-conserves n h t numbered is =
    let taken : IsNumbered (with_taken h t.taking) = rises-taken h t.taking is.takes numbered in
    let same : held_on n h.held ≡ held_on n (map connection_of t.done) = sym (taken-held n h t.taking) ∙ ap (held_on n) (sym is.each) in
    rw same (round-conserves n t.done 0 (with_taken h t.taking).newest (rw is.each taken) is.due)

-- The connection was given up, and its number is not given again.
abbrev pub IsGone : ℕ → Hold → Type 0
IsGone n h = (n ≤ h.newest) × IsAbsent n h.held

pub gone-taken : (n : ℕ) (h : Hold) (taking : Taking) → IsTaking h taking → IsGone n h → IsGone n (with_taken h taking)
gone-taken n h (NewConnection place number reply) takes gone =
    let above-it : n < number = omega (arith, takes.1, gone.0) in
    (omega arith, absent-more n h.held (new_held place number) gone.1 (above n number above-it))
gone-taken n h other takes gone = gone

pub gone-turn : (n : ℕ) (h : Hold) (t : Turn) → IsTurn h t → IsGone n h → IsGone n (after_turn h t)
gone-turn n h t is gone =
    let taken : IsGone n (with_taken h t.taking) = gone-taken n h t.taking is.takes gone in
    (taken.0, absent-kept n t.done (rw is.each taken.1))

pub gone-done : (n : ℕ) (f : Done → List ℕ) (h : Hold) (t : Turn) → IsTurn h t → IsGone n h → done_on n f t.done ≡ []
gone-done n f h t is gone = absent-done n f t.done (rw is.each (gone-taken n h t.taking is.takes gone).1)

pub lost-or-gone_after : (n : ℕ) (h : Hold) (t : Turn) → IsNumbered h → IsTurn h t
    → (done_on n lost_in t.done ≡ []) ⊎ IsGone n (after_turn h t)
lost-or-gone_after n h t numbered is =
    let taken : IsNumbered (with_taken h t.taking) = rises-taken h t.taking is.takes numbered in
    lost-or-gone n t.done 0 (with_taken h t.taking).newest (rw is.each taken)

pub done-append : (n : ℕ) (f : Done → List ℕ) (first later : List Done) → done_on n f (first ++ later) ≡ done_on n f first ++ done_on n f later
done-append n f first later = flat_map-append (λ (d : Done). on n d.wire.number (f d)) first later

gone-turns : (n : ℕ) (f : Done → List ℕ) (h : Hold) (turns : List Turn) → AreTurns h turns → IsGone n h → done_on n f (turns_done turns) ≡ []
gone-turns n f h [] are gone = refl
gone-turns n f h (t ∷ turns) are gone =
    rw (done-append n f t.done (turns_done turns), gone-done n f h t are.0 gone, gone-turns n f (after_turn h t) turns are.1 (gone-turn n h t are.0 gone)) refl

-- what is conserved in a first turn and in the later ones is conserved in all
pub conserved-on : (h a w l k b v m z : List ℕ) → h ++ a ≡ w ++ (l ++ k) → k ++ b ≡ v ++ (m ++ z) → (l ≡ []) ⊎ (v ≡ [])
    → h ++ (a ++ b) ≡ (w ++ v) ++ ((l ++ m) ++ z)
conserved-on h a w l k b v m z e f (inl none) =
    let first : h ++ a ≡ w ++ k = rw none at e in
    sym (append_assoc h a b) ∙ ap (λ x. x ++ b) first ∙ append_assoc w k b ∙ ap (λ x. w ++ x) f ∙ sym (append_assoc w v (m ++ z))
    ∙ rw none refl
conserved-on h a w l k b v m z e f (inr none) =
    let later : k ++ b ≡ m ++ z = rw none at f in
    sym (append_assoc h a b) ∙ ap (λ x. x ++ b) e ∙ append_assoc w (l ++ k) b ∙ ap (λ x. w ++ x) (append_assoc l k b ∙ ap (λ x. l ++ x) later)
    ∙ rw (none, append-nil w) (ap (λ x. w ++ x) (sym (append_assoc l m z)))

pub turns_conserve : (n : ℕ) (h : Hold) (turns : List Turn) → IsNumbered h → AreTurns h turns
    → held_on n h.held ++ done_on n answered_in (turns_done turns)
    ≡ done_on n written_in (turns_done turns)
    ++ (done_on n lost_in (turns_done turns) ++ held_on n (after_turns h turns).held)
turns_conserve n h [] numbered are = append-nil (held_on n h.held)
turns_conserve n h (t ∷ turns) numbered are =
    let next : Hold = after_turn h t in
    let either : (done_on n lost_in t.done ≡ []) ⊎ (done_on n written_in (turns_done turns) ≡ []) =
    elim (lost-or-gone_after n h t numbered are.0) [
      | inl none ↦ inl none
      | inr gone ↦ inr (gone-turns n written_in next turns are.1 gone)
    ] in
    rw (done-append n answered_in t.done (turns_done turns), done-append n written_in t.done (turns_done turns), done-append n lost_in t.done (turns_done turns))
    (conserved-on (held_on n h.held) (done_on n answered_in t.done) (done_on n written_in t.done) (done_on n lost_in t.done) (held_on n next.held)
    (done_on n answered_in (turns_done turns)) (done_on n written_in (turns_done turns)) (done_on n lost_in (turns_done turns))
    (held_on n (after_turns next turns).held) (turn-conserves n h t numbered are.0)
    (turns_conserve n next turns (turn-numbers h t are.0 numbered) are.1) either)
