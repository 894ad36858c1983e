-- What turns conserve.
use Rattle.std.proofs.Common.{◌≡◌, ◌<◌, ◌≤◌, ◌+◌, ◌⊎◌, ◌&&◌, ℕ, suc, nat_lt, Bool, true, false, List, [], ◌∷◌, ◌++◌, length, map, refl, ap, inl, inr, arith, length-append}
use Rattle.std.specs.List.{flat_map}
use Rattle.std.proofs.lemmas.List.{append-nil, take-append-drop}
use Rattle.dq_wires.specs.Limits.{most_wires}
use Rattle.dq_wires.specs.HeldConnections.{HeldConnection, new_held}
use Rattle.dq_wires.specs.ConnectionActions.{ConnectionAction, IsDue, action_after}
use Rattle.dq_wires.specs.ConnectionActions.ConnectionAction.{Sent, WriteFailed, LastWriteFailed, Closed, Received, Pulled, PeerLeft}
use Rattle.dq_wires.specs.Turns.{Done, connection_of, connections_kept, Hold, greatest_number, Taking, IsTaking, with_taken, Turn, IsTurn, after_turn, AreTurns, after_turns}
use Rattle.dq_wires.specs.Turns.Taking.{NewConnection}
use Rattle.dq_wires.specs.Octets.{answered_in, written_in, lost_in, unsent_of, RisesTo, IsNumbered}

pub action_conserves : (wire : HeldConnection) (action : ConnectionAction) → IsDue wire action → (let d : Done = record { wire = wire; action = action } in
    wire.unsent ++ answered_in d ≡ written_in d ++ (lost_in d ++ flat_map unsent_of (connections_kept d)))
action_conserves wire (Sent count) due = simp (append-nil, take-append-drop)
action_conserves wire (WriteFailed reply shut) due = simp append-nil
action_conserves wire (Closed shut) due = rw due.0 refl
action_conserves wire (Received octets reply) due = rw due.0.0 refl
action_conserves wire (Pulled reply) due = rw due.0 refl
action_conserves wire (PeerLeft came reply shut) due = rw due.0.0 refl
action_conserves wire other due = refl

-- a connection is kept under its number, or not at all
pub kept-or-not : (wire : HeldConnection) (action : ConnectionAction) → (action_after wire action ≡ []) ⊎ ((next : HeldConnection) × (action_after wire action ≡ next ∷ []) × (next.number ≡ wire.number))
kept-or-not wire (WriteFailed reply shut) = inl refl
kept-or-not wire (LastWriteFailed shut) = inl refl
kept-or-not wire (Closed shut) = inl refl
kept-or-not wire (PeerLeft came reply shut) = inl refl
kept-or-not wire other = inr (_, refl, refl)

pub rises-lower : (held : List HeldConnection) (low less high : ℕ) → less ≤ low → RisesTo low high held → RisesTo less high held
rises-lower [] low less high e h = omega arith
rises-lower (w ∷ held) low less high e h = (omega (arith, h.0), h.1)

rises-new : (held : List HeldConnection) (low high place : ℕ) → RisesTo low high held → RisesTo low (high + 1) (held ++ new_held place (high + 1) ∷ [])
rises-new [] low high place h = (omega arith, omega arith)
rises-new (w ∷ held) low high place h = (h.0, rises-new held w.number high place h.1)

-- one connection is kept before others, or not
rises-past : (d : Done) (low high : ℕ) → low < d.wire.number → (held : List HeldConnection) → RisesTo d.wire.number high held
    → (action_after d.wire d.action ≡ []) ⊎ ((next : HeldConnection) × (action_after d.wire d.action ≡ next ∷ []) × (next.number ≡ d.wire.number))
    → RisesTo low high (action_after d.wire d.action ++ held)
rises-past d low high above held later (inl e) = rw e (rises-lower held d.wire.number low high (omega arith) later)
rises-past d low high above held later (inr (next, e, n)) = rw (e, n) (above, later)

rises-kept : (done : List Done) (low high : ℕ) → RisesTo low high (map connection_of done) → RisesTo low high (flat_map connections_kept done)
rises-kept [] low high h = h
rises-kept (d ∷ done) low high h = rises-past d low high h.0 (flat_map connections_kept done) (rises-kept done d.wire.number high h.1) (kept-or-not d.wire d.action)

pub rises-taken : (h : Hold) (taking : Taking) → IsTaking h taking → IsNumbered h → IsNumbered (with_taken h taking)
rises-taken h (NewConnection place number reply) takes n = rw takes.1 (rises-new h.held 0 h.newest place n)
rises-taken h other takes n = n

pub turn-numbers : (h : Hold) (t : Turn) → IsTurn h t → IsNumbered h → IsNumbered (after_turn h t)
turn-numbers h t is n =
    let taken : IsNumbered (with_taken h t.taking) = rises-taken h t.taking is.takes n in
    rises-kept t.done 0 (with_taken h t.taking).newest (rw is.each taken)

pub turns_number : (h : Hold) (turns : List Turn) → IsNumbered h → AreTurns h turns → IsNumbered (after_turns h turns)
turns_number h [] n are = n
turns_number h (t ∷ turns) n are = turns_number (after_turn h t) turns (turn-numbers h t are.0 n) are.1

count-past : (d : Done) (held : List HeldConnection) (most : ℕ) → length held ≤ most
    → (action_after d.wire d.action ≡ []) ⊎ ((next : HeldConnection) × (action_after d.wire d.action ≡ next ∷ []) × (next.number ≡ d.wire.number))
    → length (action_after d.wire d.action ++ held) ≤ suc most
count-past d held most fits (inl e) = rw e (omega arith)
count-past d held most fits (inr (next, e, n)) = rw e (omega arith)

count-kept : (done : List Done) → length (flat_map connections_kept done) ≤ length (map connection_of done)
count-kept [] = omega arith
count-kept (d ∷ done) = count-past d (flat_map connections_kept done) (length (map connection_of done)) (count-kept done) (kept-or-not d.wire d.action)

first-true : (a b : Bool) → (a && b) ≡ true → a ≡ true
first-true true b e = refl
first-true false b e = e

taken-fits : (h : Hold) (taking : Taking) → IsTaking h taking → length h.held ≤ most_wires → length (with_taken h taking).held ≤ most_wires
taken-fits h (NewConnection place number reply) takes n =
    let room = first-true (nat_lt (length h.held) most_wires) (nat_lt h.newest greatest_number) takes.0 in grind (arith, length-append h.held (new_held place number ∷ []))
taken-fits h other takes n = n

pub turns_fit : (h : Hold) (turns : List Turn) → length h.held ≤ most_wires → AreTurns h turns → length (after_turns h turns).held ≤ most_wires
turns_fit h [] n are = n
turns_fit h (t ∷ turns) n are =
    let taken : length (with_taken h t.taking).held ≤ most_wires = taken-fits h t.taking are.0.takes n in
    turns_fit (after_turn h t) turns (omega (arith, count-kept t.done, ap length are.0.each, taken)) are.1
