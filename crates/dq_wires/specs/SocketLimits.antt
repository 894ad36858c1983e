-- When the server's side gives up a connection over a socket, and why.
use Rattle.std.specs.Prelude.{◌≡◌, ◌⊎◌, ◌+◌, ◌&&◌, ◌||◌, ℕ, zero, suc, min, nat_le, Bool, true, false, if◌then◌else◌, List, length, filter, Option, Some, None, option_map, Result, Ok, Err}
use Rattle.std.specs.Option.{option_or}
use Rattle.std.specs.Str.{bytes_eq}
use Rattle.std.specs.Duration.{as_nanos, max_nanos}
use Rattle.std.specs.Net.Addr.{ipv4_octets, ipv6_segments}
use Rattle.std.specs.Net.Socket.{socket_ip}
use Rattle.std.specs.declared.time.Duration.{Duration}
use Rattle.std.specs.declared.net.ip_addr.IpAddr.{IpAddr}
use Rattle.std.specs.declared.net.ip_addr.IpAddr.TheVariants as ip
use Rattle.std.specs.declared.net.socket_addr.SocketAddr.{SocketAddr}
use Rattle.mio.specs.declared.event.event.Event.{Event}
use Rattle.mio.specs.Event.{is_readable, is_error, is_read_closed}
use Rattle.dq_wires.specs.declared.calls.Progress.{Progress}
use Rattle.dq_wires.specs.declared.calls.ReadTurn.{ReadTurn}
use Rattle.dq_wires.specs.declared.calls.ReadTurn.TheVariants as turn
use Rattle.dq_wires.specs.declared.calls.WireFault.{WireFault}
use Rattle.dq_wires.specs.declared.given_up.GivenUp.{GivenUp}
use Rattle.dq_wires.specs.declared.given_up.Limits.{Limits}
use Rattle.dq_wires.specs.declared.given_up.Reason.{Reason}
use Rattle.dq_wires.specs.declared.given_up.Reason.TheVariants.{Artim, Quiet, PeerConnections}
use Rattle.dq_wires.specs.declared.sockets.socket.Socket.{Socket}
use Rattle.dq_wires.specs.declared.sockets.socket_connection.SocketConnection.{SocketConnection}
use Rattle.dq_wires.specs.declared.sockets.socket_connection.Stage.{Stage}
use Rattle.dq_wires.specs.declared.sockets.socket_connection.Stage.TheVariants as stage
use Rattle.dq_wires.specs.Times.{no_time}
use Rattle.dq_wires.specs.SocketTurns.{heard_from, wrote}

-- ---- a connection as it comes, and as its association goes on

-- Nothing was answered on it, and it may be read and written.
abbrev pub fresh_connection : Socket → Option SocketAddr → SocketConnection
fresh_connection socket peer = record {
  socket = socket;
  peer = peer;
  ready = record { is_readable = true; is_writable = true; is_ending = false };
  share = record { titles = None; is_read = false; passed_over = 0; is_answered = false; put_off = 0 };
  is_sending = false;
  silence = no_time;
  stage = stage.Unasked;
  waited = no_time;
  reason = None;
}

-- The titles are those of the first request. From the last PDU on the ARTIM timer runs anew.
abbrev pub learned : Progress → SocketConnection → SocketConnection
learned progress connection = record connection {
  share = record connection.share { titles = option_or connection.share.titles progress.titles };
  stage = if progress.is_over then stage.Closing else connection.stage;
  waited = if progress.is_over then no_time else connection.waited;
}

-- The stage of a connection on which something is answered. After the last PDU it stays.
abbrev pub answered_stage : Stage → Stage
answered_stage stage.Unasked = stage.Open
answered_stage stage.Overdue = stage.Open
answered_stage stage.Open = stage.Open
answered_stage stage.Closing = stage.Closing

abbrev pub answered : SocketConnection → SocketConnection
answered connection = record connection { stage = answered_stage connection.stage }

-- The system told of an event on its socket. Writing is tried whatever that is, and reading also
-- where the peer sends no more.
abbrev pub woken : Event → SocketConnection → SocketConnection
woken event connection =
    let is_ending = is_read_closed event || is_error event || connection.ready.is_ending in
    record connection {
      ready = record {
        is_readable = is_readable event || is_ending || connection.ready.is_readable;
        is_writable = true;
        is_ending = is_ending;
      };
    }

-- ---- time

-- Time passed since an octet did, and since its stage began.
pub record GrewOld (time : Duration) (old new : SocketConnection) : Type 0 where
  pub others : new ≡ record old { silence = new.silence; waited = new.waited }
  pub silence : as_nanos new.silence ≡ min (as_nanos old.silence + as_nanos time) max_nanos
  pub waited : as_nanos new.waited ≡ min (as_nanos old.waited + as_nanos time) max_nanos

-- There is a limit, and so much time has passed.
abbrev pub has_run_out : Option Duration → Duration → Bool
has_run_out None passed = false
has_run_out (Some limit) passed = nat_le (as_nanos limit) (as_nanos passed)

-- The ARTIM timer runs until something is answered, and again from the last PDU on (PS3.8 section
-- 9.1.5).
abbrev pub runs_artim : Stage → Bool
runs_artim stage.Unasked = true
runs_artim stage.Overdue = true
runs_artim stage.Open = false
runs_artim stage.Closing = true

-- It runs, and has run out.
abbrev pub is_late : Limits → SocketConnection → Bool
is_late limits connection = runs_artim connection.stage && has_run_out limits.artim connection.waited

-- Why a connection is given up on which nothing came or went: the ARTIM timer first, then silence.
abbrev pub reason_to_end : Limits → SocketConnection → Option Reason
reason_to_end limits connection =
    if is_late limits connection then Some Artim
    else if has_run_out limits.quiet connection.silence then Some Quiet
    else None

-- with that reason, if there is one
abbrev pub ended_for : Option Reason → SocketConnection → SocketConnection
ended_for reason connection = record connection { reason = option_or reason connection.reason }

-- ---- reads and writes

-- what the system may have for it changed, and nothing else
abbrev pub KeepsAllBut : SocketConnection → SocketConnection → Type 0
KeepsAllBut old new = new ≡ record old { socket = new.socket; ready = new.ready }

-- A read, by its result. Where something came the connection is late only from the next read on.
abbrev pub IsRead : Limits → SocketConnection → SocketConnection → Result ReadTurn WireFault → Type 0
IsRead limits old new (Ok (turn.Got count)) = KeepsAllBut
    (record (heard_from old) { stage = if is_late limits old then stage.Overdue else old.stage }) new
IsRead limits old new (Ok turn.Nothing) = (reason_to_end limits old ≡ None) × KeepsAllBut old new
IsRead limits old new (Ok turn.Ended) =
    KeepsAllBut old new
    ⊎ KeepsAllBut (ended_for (reason_to_end limits old) old) new
    ⊎ ((old.stage ≡ stage.Overdue) × KeepsAllBut (ended_for (Some Artim) old) new)
IsRead limits old new (Err fault) = KeepsAllBut old new

-- What the system did by itself, before a limit is looked at.
abbrev pub IsReceived : SocketConnection → SocketConnection → Result ReadTurn WireFault → Type 0
IsReceived old new (Ok (turn.Got count)) = KeepsAllBut (heard_from old) new
IsReceived old new (Ok turn.Nothing) = KeepsAllBut old new
IsReceived old new (Ok turn.Ended) = KeepsAllBut old new
IsReceived old new (Err fault) = KeepsAllBut old new

-- Octets were offered to the system. If it took none, it waits to send them or stays as it was.
abbrev pub IsSent : ℕ → SocketConnection → SocketConnection → Result ℕ WireFault → Type 0
IsSent offered old new (Ok zero) =
    KeepsAllBut (record old { is_sending = new.is_sending; silence = new.silence; share = new.share }) new
IsSent offered old new (Ok (suc count)) = KeepsAllBut (wrote (suc count) offered old) new
IsSent offered old new (Err fault) = KeepsAllBut (record old { is_sending = new.is_sending }) new

-- A write, by its result. No octet goes on a connection whose ARTIM timer has run out after the last
-- PDU.
abbrev pub IsWritten : Limits → ℕ → SocketConnection → SocketConnection → Result ℕ WireFault → Type 0
IsWritten limits offered old new (Ok zero) =
    KeepsAllBut (record (answered old) { is_sending = new.is_sending; silence = new.silence; share = new.share }) new
IsWritten limits offered old new (Ok (suc count)) = KeepsAllBut (wrote (suc count) offered (answered old)) new
IsWritten limits offered old new (Err fault) = Unit {0}

-- ---- peers

-- Both addresses are the same, whatever the ports.
abbrev pub is_same_address : IpAddr → IpAddr → Bool
is_same_address (ip.V4 one) (ip.V4 other) = bytes_eq (ipv4_octets one) (ipv4_octets other)
is_same_address (ip.V6 one) (ip.V6 other) = bytes_eq (ipv6_segments one) (ipv6_segments other)
is_same_address one other = false

abbrev pub has_address : Option SocketAddr → SocketAddr → Bool
has_address None peer = false
has_address (Some own) peer = is_same_address (socket_ip own) (socket_ip peer)

-- a connection that was given up
abbrev pub given_up_for : Option SocketAddr → Reason → GivenUp
given_up_for peer reason = record { peer = peer; reason = reason }

-- its end, if it was given up
abbrev pub end_of : SocketConnection → Option GivenUp
end_of connection = option_map (given_up_for connection.peer) connection.reason

-- A slot has a connection of an address.
abbrev pub slot_has_address : SocketAddr → Option SocketConnection → Bool
slot_has_address peer None = false
slot_has_address peer (Some connection) = has_address connection.peer peer

-- The end of a connection that comes: of its address there are as many as may be. Without a limit, or
-- without an address, there may be any number.
abbrev pub crowded_end : Option ℕ → Option SocketAddr → List (Option SocketConnection) → Option GivenUp
crowded_end None peer slots = None
crowded_end (Some most) None slots = None
crowded_end (Some most) (Some peer) slots =
    if nat_le most (length (filter (slot_has_address peer) slots))
    then Some (given_up_for (Some peer) PeerConnections)
    else None
