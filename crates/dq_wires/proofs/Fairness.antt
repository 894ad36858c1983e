-- Whose next page is written in a turn.
use Rattle.std.proofs.Common.{◌≡◌, ℕ, zero, suc, ◌+◌, ◌-◌, ◌^◌, ◌<◌, ◌≤◌, ◌&&◌, ◌||◌, nat_lt, Bool, true, false, not, List, [], ◌∷◌, get_or, Any, Option, Some, None, refl, subst, arith}
use Rattle.std.proofs.lemmas.Bool.Decides.{nat_tests}
use Rattle.std.specs.List.{list_any}
use Rattle.std.proofs.lemmas.List.Folds.{Any-from_list_any}
use Rattle.dq_wires.specs.declared.sockets.socket_connection.SocketConnection.{SocketConnection}
use Rattle.dq_wires.specs.declared.sockets.SocketWires.{SocketWires}
use Rattle.dq_wires.specs.SocketTurns.{put_off, goes_on, connection_at, slot_goes_on_before, others_go_on, is_behind}
use Rattle.dq_wires.specs.Sockets.{would_go_on, is_put_off, is_next}

none-beside : (would gone behind : Bool) → gone ≡ true → (would && not (would && (gone || behind))) ≡ false
none-beside true true behind is_gone = refl
none-beside true false behind is_gone = cc
none-beside false gone behind is_gone = refl

-- Once a page was written in a turn, no other is.
pub one-a-turn : (place : ℕ) (wires : SocketWires) → wires.has_gone_on ≡ true → is_next place wires ≡ false
one-a-turn place wires is_gone = none-beside (would_go_on (connection_at place wires.connections.items))
    wires.has_gone_on (is_behind place wires.connections.items) is_gone

none-ahead : (would gone behind : Bool) → (would && not (would && (gone || behind))) ≡ true → behind ≡ false
none-ahead true true behind next = cc
none-ahead true false true next = cc
none-ahead true false false next = refl
none-ahead false gone behind next = cc

first-fails : (a b : Bool) → (a || b) ≡ false → a ≡ false
first-fails true b none = none
first-fails false b none = refl

others-fail : (a b : Bool) → (a || b) ≡ false → b ≡ false
others-fail true b none = cc
others-fail false b none = none

fails-at : (test : Option SocketConnection → Bool) (slots : List (Option SocketConnection)) (at : ℕ) (other : SocketConnection)
    → get_or slots at None ≡ Some other → list_any test slots ≡ false → test (Some other) ≡ false
fails-at test [] at other there none = cc
fails-at test (slot ∷ slots) zero other there none =
    subst (λ (s : Option SocketConnection). test s ≡ false) there (first-fails (test slot) (list_any test slots) none)
fails-at test (slot ∷ slots) (suc at) other there none =
    fails-at test slots at other there (others-fail (test slot) (list_any test slots) none)

not-ahead : (going sending : Bool) (own others : ℕ) → going ≡ true → sending ≡ true
    → (going && sending && nat_lt own others) ≡ false → others ≤ own
not-ahead going sending own others is_going is_sending none = grind (arith, nat_tests)

-- No next page that waits was put off more often than the one that is written.
pub longest-first : (place at : ℕ) (wires : SocketWires) (connection other : SocketConnection)
    → connection_at place wires.connections.items ≡ Some connection → connection_at at wires.connections.items ≡ Some other
    → is_next place wires ≡ true → goes_on other ≡ true → other.is_sending ≡ true
    → other.share.put_off ≤ connection.share.put_off
longest-first place at wires connection other here there next going sending =
    let behind : is_behind place wires.connections.items ≡ false =
    none-ahead (would_go_on (connection_at place wires.connections.items)) wires.has_gone_on (is_behind place wires.connections.items) next in
    let none : others_go_on wires.connections.items (Some connection) ≡ false =
    subst (λ (c : Option SocketConnection). others_go_on wires.connections.items c ≡ false) here behind in
    not-ahead (goes_on other) other.is_sending connection.share.put_off other.share.put_off going sending
    (fails-at (slot_goes_on_before connection) wires.connections.items at other there none)

left-behind : (would gone behind : Bool) → gone ≡ false → (would && (gone || behind)) ≡ true → behind ≡ true
left-behind true true behind is_gone off = cc
left-behind true false behind is_gone off = off
left-behind false gone behind is_gone off = cc

-- What is put off before a page was written in the turn waits for one that was put off more often.
pub put-off-for : (place : ℕ) (wires : SocketWires) (connection : SocketConnection)
    → connection_at place wires.connections.items ≡ Some connection
    → wires.has_gone_on ≡ false → is_put_off place wires ≡ true
    → Any (λ slot. slot_goes_on_before connection slot ≡ true) wires.connections.items
put-off-for place wires connection here gone off =
    let behind : is_behind place wires.connections.items ≡ true =
    left-behind (would_go_on (connection_at place wires.connections.items)) wires.has_gone_on (is_behind place wires.connections.items) gone off in
    let some : others_go_on wires.connections.items (Some connection) ≡ true =
    subst (λ (c : Option SocketConnection). others_go_on wires.connections.items c ≡ true) here behind in
    Any-from_list_any (slot_goes_on_before connection) wires.connections.items some

-- Whoever is put off waits longer than before.
pub grows-older : (connection : SocketConnection) → connection.share.put_off < 2 ^ 64 - 1
    → (put_off connection).share.put_off ≡ connection.share.put_off + 1
grows-older connection below = omega arith
