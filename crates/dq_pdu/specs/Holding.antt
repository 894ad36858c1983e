-- For the prover alone: what an inbox holds between two pieces. It may change.
use Rattle.std.specs.Prelude.{◌≡◌, ℕ, List, Option, Some, None}
use Rattle.dq_pdu.specs.declared.fault.PduFault.{PduFault}
use Rattle.dq_pdu.specs.declared.pdu_reader.FirstPdu.TheVariants.{Partial}
use Rattle.dq_pdu.specs.declared.inbox.InboxState.{InboxState}
use Rattle.dq_pdu.specs.declared.inbox.InboxState.TheVariants.{Reading, Stopped, Spent}
use Rattle.dq_pdu.specs.PduReader.{first_pdu}
use Rattle.dq_pdu.specs.Stream.{pdus_in}

-- what an inbox holds: the rest after the last PDU, or the fault
abbrev pub held_at : Option PduFault → List ℕ → InboxState
held_at None rest = Reading rest
held_at (Some fault) rest = Stopped fault

abbrev pub inbox_holding : List ℕ → InboxState
inbox_holding stream = held_at (pdus_in stream).fault (pdus_in stream).rest

-- an inbox holds no whole PDU
abbrev pub HoldsPart : InboxState → Type 0
HoldsPart (Reading rest) = first_pdu rest ≡ Partial
HoldsPart (Stopped fault) = Unit {0}
HoldsPart Spent = Unit {0}
