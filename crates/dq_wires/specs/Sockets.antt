-- Wires over sockets: what is held, and what changes in a turn.
use Rattle.std.specs.Prelude.{◌≡◌, ◌-◌, nat_lt, true, ◌&&◌, ◌||◌, ℕ, Bool, false, not, is_some, if◌then◌else◌, [], map, replicate, Option, Some, None, option_map, Result, Ok}
use Rattle.std.specs.Option.{option_and_then}
use Rattle.std.specs.Time.{instant_nanos}
use Rattle.std.specs.declared.time.Instant.{Instant}
use Rattle.std.specs.declared.net.socket_addr.SocketAddr.{SocketAddr}
use Rattle.dq_wires.specs.declared.calls.ReadTurn.{ReadTurn}
use Rattle.dq_wires.specs.declared.calls.ReadTurn.TheVariants.{Nothing}
use Rattle.dq_wires.specs.declared.calls.WireFault.{WireFault}
use Rattle.dq_wires.specs.declared.given_up.GivenUp.{GivenUp}
use Rattle.dq_wires.specs.declared.sockets.socket.Door.{Door}
use Rattle.dq_wires.specs.declared.sockets.socket.Door.TheVariants as door
use Rattle.dq_wires.specs.declared.sockets.socket_connection.SocketConnection.{SocketConnection}
use Rattle.dq_wires.specs.declared.sockets.SocketWires.{SocketWires}
use Rattle.dq_wires.specs.Limits.{most_wires}
use Rattle.dq_wires.specs.SocketLimits.{end_of}
use Rattle.dq_wires.specs.SocketTurns.{turn_begun, is_waiting, goes_on, passed_over, put_off, connection_at, with_changed, is_preceded, is_behind}

-- No connection has come yet, and none is given up by itself.
pub record IsIdle (wires : SocketWires) : Type 0 where
  pub connections : wires.connections.items ≡ replicate most_wires None
  pub lingering : wires.lingering.sockets.items ≡ []
  pub limits : wires.limits ≡ record { artim = None; quiet = None; peer_connections = None }
  pub turned_away : wires.turned_away ≡ None
  pub failed_accepts : wires.failed_accepts ≡ 0

-- In a turn that begins nothing was done yet, no connection was read, and no answer has gone on.
-- Whether connections were passed over in the turn before is known.
pub record BeginsTurn (old new : SocketWires) : Type 0 where
  pub connections : new.connections.items ≡ map (option_map turn_begun) old.connections.items
  pub others : new ≡ record old {
    is_busy = false;
    has_gone_on = false;
    reading = record { begun = None; is_short = false; was_short = old.reading.is_short };
    connections = new.connections;
  }

-- The system was asked less than a millisecond ago.
abbrev pub is_recent : Instant → Option Instant → Bool
is_recent now None = false
is_recent now (Some before) = nat_lt (instant_nanos now - instant_nanos before) 1_000_000

-- ---- peers and ends

-- Connections over TCP have addresses, and those of the machine itself have none.
abbrev pub is_tcp : Door → Bool
is_tcp (door.Tcp listener) = true
is_tcp (door.Unix listener) = false

abbrev pub peer_of_place : SocketWires → ℕ → Option SocketAddr
peer_of_place wires place =
    option_and_then (λ (c : SocketConnection). c.peer) (connection_at place wires.connections.items)

abbrev pub end_of_place : SocketWires → ℕ → Option GivenUp
end_of_place wires place = option_and_then end_of (connection_at place wires.connections.items)

-- ---- whose answer goes on

abbrev pub would_go_on : Option SocketConnection → Bool
would_go_on None = false
would_go_on (Some connection) = goes_on connection

-- The next page of the connection at a place is left to a later turn: in this one another was written,
-- or another was put off more often.
abbrev pub is_put_off : ℕ → SocketWires → Bool
is_put_off place wires = would_go_on (connection_at place wires.connections.items)
    && (wires.has_gone_on || is_behind place wires.connections.items)

-- It is written in this turn.
abbrev pub is_next : ℕ → SocketWires → Bool
is_next place wires = would_go_on (connection_at place wires.connections.items)
    && not (is_put_off place wires)

-- Octets are offered on the connection at a place. If they go on with its answer, no other goes on in
-- this turn. If they are left to a later one, it is counted how often that was so.
pub record IsOffered (place : ℕ) (old new : SocketWires) (result : Bool) : Type 0 where
  pub later : result ≡ is_put_off place old
  pub connections : new.connections.items ≡
      (if is_put_off place old then with_changed put_off place old.connections.items
      else old.connections.items)
  pub others : new ≡ record old {
    has_gone_on = old.has_gone_on || is_next place old;
    is_busy = is_put_off place old || old.is_busy;
    connections = new.connections;
  }

-- ---- whose read waits

abbrev pub may_be_read_from_afar : Option SocketConnection → Bool
may_be_read_from_afar None = false
may_be_read_from_afar (Some connection) = is_waiting connection && is_some connection.peer

-- The connection at a place leaves its read to another of the same titles. It does so only once reads
-- have taken long, in this turn or in the one before.
abbrev pub leaves_read : Bool → ℕ → SocketWires → Bool
leaves_read is_long place wires = may_be_read_from_afar (connection_at place wires.connections.items)
    && (is_long || wires.reading.is_short || wires.reading.was_short)
    && is_preceded is_long place wires.connections.items

-- It is asked whether it does. Only the clock knows whether reads have taken long.
pub record IsShared (place : ℕ) (old new : SocketWires) (result : Bool) : Type 0 where
  pub is_long : Bool
  pub leaves : result ≡ leaves_read is_long place old
  pub connections : new.connections.items ≡
      (if result then with_changed passed_over place old.connections.items else old.connections.items)
  pub others : new ≡ record old {
    reading = record old.reading {
      begun = new.reading.begun;
      is_short = result || old.reading.is_short;
    };
    is_busy = result || old.is_busy;
    connections = new.connections;
  }

-- A read of the connection at a place. One that leaves it brings nothing now, and from then on reads
-- are shared in this turn and in the next.
pub record TakesTurn (place : ℕ) (old new : SocketWires) (result : Result ReadTurn WireFault) : Type 0 where
  pub is_long : Bool
  pub shared : new.reading.is_short ≡ (leaves_read is_long place old || old.reading.is_short)
  pub waits : leaves_read is_long place old ≡ true → result ≡ Ok Nothing
