-- An inbox and the stream that it was fed, in pieces of any length. Contracts speak of `InboxAfter`
-- and of its laws alone.
use Rattle.std.specs.Prelude.{◌≡◌, ℕ, List, [], Option, Some, None}
use Rattle.dq_pdu.specs.declared.fault.PduFault.{PduFault}
use Rattle.dq_pdu.specs.declared.inbox.InboxState.{InboxState}
use Rattle.dq_pdu.specs.declared.inbox.InboxState.TheVariants.{Reading, Stopped, Spent}
use Rattle.dq_pdu.specs.Holding.{inbox_holding}

-- an inbox that was fed the stream
pub record InboxAfter (stream : List ℕ) (inbox : InboxState) : Type 0 where
  pub holds : inbox ≡ inbox_holding stream

-- the fault that an inbox was fed
abbrev pub inbox_fault : InboxState → Option PduFault
inbox_fault (Reading rest) = None
inbox_fault (Stopped fault) = Some fault
inbox_fault Spent = None

-- the octets that an inbox holds: a PDU of which the end is still to come
abbrev pub inbox_octets : InboxState → List ℕ
inbox_octets (Reading rest) = rest
inbox_octets (Stopped fault) = []
inbox_octets Spent = []
