-- Which connections over sockets are read in a turn, and whose answer goes on in it.
use Rattle.std.specs.Prelude.{◌==◌, ◌+◌, ◌-◌, ◌^◌, ◌&&◌, ◌||◌, ℕ, min, nat_lt, Bool, true, false, not, List, slice_index_or, slice_set, Option, Some, None, option_map}
use Rattle.std.specs.List.{list_any, enumerate_from}
use Rattle.std.specs.Str.{bytes_eq}
use Rattle.dq_value.specs.Title.{without_spaces}
use Rattle.dq_core.specs.declared.notes.Titles.{Titles}
use Rattle.dq_wires.specs.Times.{no_time}
use Rattle.dq_wires.specs.declared.sockets.socket_connection.SocketConnection.{SocketConnection}

-- One more, as far as a `u64` counts.
abbrev pub one_more : ℕ → ℕ
one_more count = min (count + 1) (2 ^ 64 - 1)

-- ---- connections of the same titles

-- the same but for the spaces at their ends (PS3.8 section 9.3.2)
abbrev pub titles_are_alike : Titles → Titles → Bool
titles_are_alike own others = bytes_eq (without_spaces own.called) (without_spaces others.called)
    && bytes_eq (without_spaces own.calling) (without_spaces others.calling)

-- Both requests have the same pair of titles, or neither request has come yet.
abbrev pub have_same_titles : Option Titles → Option Titles → Bool
have_same_titles (Some own) (Some others) = titles_are_alike own others
have_same_titles None None = true
have_same_titles (Some own) None = false
have_same_titles None (Some others) = false

-- Connections of the same titles share the reads of a turn.
abbrev pub are_alike : SocketConnection → SocketConnection → Bool
are_alike own other = have_same_titles own.share.titles other.share.titles

-- ---- whose read waits

-- Octets may be read, and none wait to be sent.
abbrev pub is_waiting : SocketConnection → Bool
is_waiting connection = connection.ready.is_readable && not connection.is_sending

-- The first is read before the other: it waits too, and was passed over more often. Once reads have
-- taken long, one that was read in this turn was enough.
abbrev pub goes_before : Bool → SocketConnection → SocketConnection → Bool
goes_before is_long first other = are_alike first other
    && (is_long && first.share.is_read
    || is_waiting first && nat_lt other.share.passed_over first.share.passed_over)

-- ---- whose answer goes on

-- All that was answered to the octets that came was written, so what is offered next goes on with
-- the answer: it is the next page of a search. The system may take it.
abbrev pub goes_on : SocketConnection → Bool
goes_on connection = connection.share.is_answered && connection.ready.is_writable

-- The first's next page waits, and was put off more often than the other's.
abbrev pub goes_on_before : SocketConnection → SocketConnection → Bool
goes_on_before first other = goes_on first && first.is_sending
    && nat_lt other.share.put_off first.share.put_off

-- ---- what changes on a connection

-- A turn began: it was not read in it yet.
abbrev pub turn_begun : SocketConnection → SocketConnection
turn_begun connection = record connection { share = record connection.share { is_read = false } }

-- It left its read to another.
abbrev pub passed_over : SocketConnection → SocketConnection
passed_over connection = record connection {
  share = record connection.share { passed_over = one_more connection.share.passed_over };
}

-- Its next page was left to a later turn, for which it waits.
abbrev pub put_off : SocketConnection → SocketConnection
put_off connection = record connection {
  share = record connection.share { put_off = one_more connection.share.put_off };
  is_sending = true;
}

-- Octets came: it is nobody's turn before its own, and what is offered next begins an answer.
abbrev pub heard_from : SocketConnection → SocketConnection
heard_from connection = record connection {
  share = record connection.share { is_read = true; passed_over = 0; is_answered = false };
  silence = no_time;
}

-- So many of these octets were written, as many as the system took.
abbrev pub wrote : ℕ → ℕ → SocketConnection → SocketConnection
wrote count offered connection = record connection {
  share = record connection.share { is_answered = not (nat_lt count offered); put_off = 0 };
  is_sending = nat_lt count offered;
  silence = no_time;
}

-- ---- among all connections

-- the connection at a place, if one is held there
abbrev pub connection_at : ℕ → List (Option SocketConnection) → Option SocketConnection
connection_at place slots = slice_index_or slots place None

-- The connection at a place is changed, if one is held there.
abbrev pub with_slot : ℕ → List (Option SocketConnection) → Option SocketConnection → List (Option SocketConnection)
with_slot place slots None = slots
with_slot place slots (Some connection) = slice_set slots place (Some connection)

abbrev pub with_changed : (SocketConnection → SocketConnection) → ℕ → List (Option SocketConnection) → List (Option SocketConnection)
with_changed change place slots = with_slot place slots (option_map change (connection_at place slots))

-- A connection in a slot goes before another.
abbrev pub slot_goes_before : Bool → SocketConnection → Option SocketConnection → Bool
slot_goes_before is_long other None = false
slot_goes_before is_long other (Some first) = goes_before is_long first other

-- At a place from a first one on, but for one, there is a connection that goes before another.
abbrev pub has_precedent : Bool → SocketConnection → ℕ → ℕ → List (Option SocketConnection) → Bool
has_precedent is_long other place at slots = list_any
    (λ (slot : ℕ × Option SocketConnection). not (slot.0 == place) && slot_goes_before is_long other slot.1)
    (enumerate_from at slots)

-- There is another connection to which the one at a place leaves its read.
abbrev pub precedes_some : Bool → ℕ → List (Option SocketConnection) → Option SocketConnection → Bool
precedes_some is_long place slots None = false
precedes_some is_long place slots (Some connection) = has_precedent is_long connection place 0 slots

abbrev pub is_preceded : Bool → ℕ → List (Option SocketConnection) → Bool
is_preceded is_long place slots = precedes_some is_long place slots (connection_at place slots)

-- A connection in a slot has its next page written before another's.
abbrev pub slot_goes_on_before : SocketConnection → Option SocketConnection → Bool
slot_goes_on_before other None = false
slot_goes_on_before other (Some first) = goes_on_before first other

abbrev pub others_go_on : List (Option SocketConnection) → Option SocketConnection → Bool
others_go_on slots None = false
others_go_on slots (Some connection) = list_any (slot_goes_on_before connection) slots

-- Another's next page is written before that of the connection at a place.
abbrev pub is_behind : ℕ → List (Option SocketConnection) → Bool
is_behind place slots = others_go_on slots (connection_at place slots)
