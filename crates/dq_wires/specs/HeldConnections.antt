-- The connections that are held over wires.
use Rattle.std.specs.Prelude.{◌==◌, ◌+◌, ℕ, Bool, false, not, List, [], length, Option, find}
use Rattle.dq_list.specs.Lengths.{is_empty}
use Rattle.dq_core.specs.declared.event.Reply.{Reply}
use Rattle.dq_core.specs.declared.event.Reply.TheVariants as reply

-- A connection that is held: its place among the wires, its number, how many octets were heard on
-- it, the octets that were answered and are not yet written, and whether a reply closed it.
pub record HeldConnection : Type 0 where
  pub place : ℕ
  pub number : ℕ
  pub heard : ℕ
  pub unsent : List ℕ
  pub closed : Bool

-- as it comes
abbrev pub new_held : ℕ → ℕ → HeldConnection
new_held place number =
    record { place = place; number = number; heard = 0; unsent = []; closed = false }

-- Octets were answered that are not yet written.
abbrev pub has_unsent : HeldConnection → Bool
has_unsent wire = not (is_empty wire.unsent)

-- the connection of a number, if it is held
unfoldable pub connection_with : ℕ → List HeldConnection → Option HeldConnection
connection_with number held = find (λ (wire : HeldConnection). wire.number == number) held

-- the connection, once more octets were heard on it
abbrev pub with_heard : HeldConnection → List ℕ → HeldConnection
with_heard wire octets = record wire { heard = wire.heard + length octets }

-- the octets of a reply
abbrev pub reply_octets : Reply → List ℕ
reply_octets (reply.Octets conn octets close) = octets
reply_octets reply.Done = []
reply_octets (reply.Refused number) = []
reply_octets reply.Ignored = []

-- whether a reply closes its connection
abbrev pub closes : Reply → Bool
closes (reply.Octets conn octets close) = close
closes reply.Done = false
closes (reply.Refused number) = false
closes reply.Ignored = false

-- the connection with its answer
abbrev pub with_reply : HeldConnection → Reply → HeldConnection
with_reply wire reply = record wire { unsent = reply_octets reply; closed = closes reply }
