-- The association table (PS3.8 section 9.2): for each state and input the PDU that is answered and
-- the next state. The states are Waiting (Sta2), Open (Sta6) and Closed (Sta13, or Sta1 where the
-- connection is closed at once). Sta3 and Sta8, in which the service user is asked, are passed
-- through within a line: a request and a release are answered at once.
use Rattle.std.specs.Prelude.{ℕ, Bool, true, false, if◌then◌else◌, List, [], Option, Some, None}
use Rattle.dq_pdu.specs.declared.pdu.Pdu.{Pdu}
use Rattle.dq_pdu.specs.declared.pdu.Request.{Request}
use Rattle.dq_pdu.specs.Writing.{is_writable, pdu_octets}
use Rattle.dq_dimse.specs.Received.{Message}
pub use Rattle.dq_assoc.specs.Reasons.{by_user, by_provider, not_specified, unrecognized_pdu, unexpected_pdu, invalid_parameter}
use Rattle.dq_assoc.specs.declared.association.State.{State}
use Rattle.dq_assoc.specs.declared.association.State.TheVariants.{Waiting, Open, Closed}
use Rattle.dq_assoc.specs.declared.association.Verdict.{Verdict}
use Rattle.dq_assoc.specs.declared.association_end.Party.TheVariants.{Peer}
use Rattle.dq_assoc.specs.declared.association_end.AssociationEnd.{AssociationEnd}
use Rattle.dq_assoc.specs.declared.association_end.AssociationEnd.TheVariants.{Rejected, Released as AssociationReleased, Aborted}
use Rattle.dq_assoc.specs.declared.negotiation.Rejection.{Rejection}
use Rattle.dq_assoc.specs.AssociationEnds.{user_abort, provider_abort, pdu_of_end}
use Rattle.dq_assoc.specs.Negotiation.{acceptance_of, rejection}

-- An input to an association: a request, a message, the peer's release, its abort with a source and a reason, one that
-- has no place before a request (stray), or one that breaks the protocol after a request, with the reason of the abort
-- that answers it.
pub data Input : Type 0 where
  Requested : Request → Input
  Sent : Message → Input
  Released : Input
  PeerAborted : ℕ → ℕ → Input
  Stray : Input
  Bad : ℕ → Input

-- The PDU that is answered, the next state, and how the association ends, if it does. In Closed the connection is closed.
pub record Line : Type 0 where
  pub answer : Option Pdu
  pub next : State
  pub end : Option AssociationEnd

abbrev pub goes : Option Pdu → State → Line
goes answer next = record { answer = answer; next = next; end = None }

abbrev pub ends : AssociationEnd → Line
ends end = record { answer = pdu_of_end end; next = Closed; end = Some end }

-- AA-1: what stands in a request's place, and a request whose acceptance no octets spell, is
-- aborted.
abbrev pub stray_line : Line
stray_line = ends user_abort

-- AE-7: a request is accepted
abbrev pub accepted_line : Pdu → Line
accepted_line answer = if is_writable answer then goes (Some answer) Open else stray_line

-- AE-6 and AE-8: or it is rejected
abbrev pub requested_line : Request → Option Rejection → Line
requested_line request None = accepted_line (acceptance_of request)
requested_line request (Some rejection) = ends (Rejected rejection)

-- AA-8: an open association is aborted, with the reason
abbrev pub abort_line : ℕ → Line
abort_line reason = ends (provider_abort reason)

-- the lines of Waiting
abbrev pub waiting_line : Verdict → Input → Line
-- AE-6, then AE-7 or AE-8
waiting_line verdict (Requested request) = requested_line request (rejection request verdict)
-- AA-2
waiting_line verdict (PeerAborted source reason) = ends (Aborted Peer source reason)
-- AA-1
waiting_line verdict Stray = stray_line
waiting_line verdict (Sent message) = stray_line
waiting_line verdict Released = stray_line
waiting_line verdict (Bad reason) = stray_line

-- the lines of Open
abbrev pub open_line : Input → Line
-- DT-2: its service answers the message
open_line (Sent message) = goes None Open
-- AR-2, then AR-4
open_line Released = ends AssociationReleased
-- AA-3
open_line (PeerAborted source reason) = ends (Aborted Peer source reason)
-- AA-8
open_line (Bad reason) = abort_line reason
open_line (Requested request) = abort_line unexpected_pdu
open_line Stray = abort_line unexpected_pdu

-- the whole table
abbrev pub line : State → Verdict → Input → Line
line Waiting verdict input = waiting_line verdict input
line Open verdict input = open_line input
-- AA-6: what still comes is ignored
line Closed verdict input = goes None Closed

-- the octets of an answer
abbrev pub answer_octets : Option Pdu → List ℕ
answer_octets None = []
answer_octets (Some pdu) = pdu_octets pdu

-- whether an input is a message
abbrev pub is_message : Input → Bool
is_message (Sent message) = true
is_message (Requested request) = false
is_message Released = false
is_message (PeerAborted source reason) = false
is_message Stray = false
is_message (Bad reason) = false
