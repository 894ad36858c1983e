-- The role of a PDU in an association (PS3.8 section 9.2): its request, PDVs of its messages, or its end.
use Rattle.std.specs.Prelude.{ℕ, List}
use Rattle.dq_pdu.specs.declared.pdu.Pdu.{Pdu}
use Rattle.dq_pdu.specs.declared.pdu.Pdu.TheVariants.{Request as request_pdu, Accept as accept_pdu, Reject, PData, ReleaseRq, ReleaseRp, Abort}
use Rattle.dq_pdu.specs.declared.pdu.Pdv.{Pdv}
use Rattle.dq_pdu.specs.declared.pdu.Request.{Request}

-- the peer asks for the release, or aborts with a source and a reason, or sends what only an acceptor sends
pub data Ending : Type 0 where
  ReleaseAsked : Ending
  AbortSent : ℕ → ℕ → Ending
  OutOfPlace : Ending

pub data Role : Type 0 where
  Asks : Request → Role
  Carries : List Pdv → Role
  Ends : Ending → Role

-- an acceptor is sent no acceptance, no rejection and no reply to a release
abbrev pub role_of : Pdu → Role
role_of (request_pdu request) = Asks request
role_of (PData values) = Carries values
role_of ReleaseRq = Ends ReleaseAsked
role_of (Abort source reason) = Ends (AbortSent source reason)
role_of (accept_pdu accept) = Ends OutOfPlace
role_of (Reject result source reason) = Ends OutOfPlace
role_of ReleaseRp = Ends OutOfPlace
