-- Sockets on which nothing more is sent, and which are read on until their peers close them: a close
-- with octets unread makes TCP reset the connection, and the peer then loses what was sent last (RFC
-- 9112 section 9.6).
use Rattle.std.specs.Prelude.{◌≡◌, ◌⊎◌, ◌-◌, ℕ, min, nat_le, nat_lt, Bool, false, if◌then◌else◌, List, [], ◌∷◌, ◌++◌, length, drop}
use Rattle.std.specs.List.{All, items_where_true}
use Rattle.std.specs.Time.{instant_nanos}
use Rattle.std.specs.declared.time.Instant.{Instant}
use Rattle.dq_wires.specs.declared.sockets.lingering.LingeringSocket.{LingeringSocket}

-- so many linger at most
abbrev pub most_lingering : ℕ
most_lingering = 16

-- A socket has lingered for two seconds, or longer.
abbrev pub is_over : Instant → LingeringSocket → Bool
is_over now socket = nat_le 2_000_000_000 (instant_nanos now - instant_nanos socket.since)

-- The oldest goes if they are too many.
abbrev pub without_excess : List LingeringSocket → List LingeringSocket
without_excess sockets = if nat_lt most_lingering (length sockets) then drop 1 sockets else sockets

-- One more lingers, the newest.
abbrev pub with_newest : LingeringSocket → List LingeringSocket → List LingeringSocket
with_newest socket sockets = without_excess (sockets ++ socket ∷ [])

-- Nothing more is sent on a socket: it lingers, or it is closed, and with the others nothing changes.
abbrev pub MayLinger : List LingeringSocket → List LingeringSocket → Type 0
MayLinger old new = (new ≡ old) ⊎ ((socket : LingeringSocket) × (new ≡ with_newest socket old))

-- Each was read once. Those of which more may come stay, in their order, and none that has lingered
-- for as long as it may.
pub record AreRead (now : Instant) (old new : List LingeringSocket) : Type 0 where
  pub stays : List Bool
  pub each : length stays ≡ length old
  pub left : new ≡ items_where_true stays old
  pub time : All (λ socket. is_over now socket ≡ false) new

-- While sockets linger a rest is no longer than four milliseconds, so that they are read: the longest
-- one in nanoseconds, of one that is so long at most.
abbrev pub longest_rest : ℕ → List LingeringSocket → ℕ
longest_rest most [] = most
longest_rest most (socket ∷ others) = min most 4_000_000
