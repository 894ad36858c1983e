-- How associations end (PS3.8 section 9.2), and the PDU that tells the peer.
use Rattle.std.specs.Prelude.{ℕ, Option, Some, None}
use Rattle.std.specs.Option.{option_and_then}
use Rattle.dq_pdu.specs.declared.pdu.Pdu.{Pdu}
use Rattle.dq_pdu.specs.declared.pdu.Pdu.TheVariants.{ReleaseRp, Abort}
use Rattle.dq_assoc.specs.declared.association_end.Party.TheVariants.{Peer, Server}
use Rattle.dq_assoc.specs.declared.association_end.AssociationEnd.{AssociationEnd}
use Rattle.dq_assoc.specs.declared.association_end.AssociationEnd.TheVariants.{Rejected, Released, Aborted}
use Rattle.dq_assoc.specs.Negotiation.{rejection_pdu}
use Rattle.dq_assoc.specs.Reasons.{by_user, by_provider, not_specified}

-- AA-1: the abort of what has no place before a request
abbrev pub user_abort : AssociationEnd
user_abort = Aborted Server by_user not_specified

-- AA-8: the abort of an open association, with a reason
abbrev pub provider_abort : ℕ → AssociationEnd
provider_abort reason = Aborted Server by_provider reason

-- the PDU that tells the peer: none after its own abort (AA-2, AA-3)
abbrev pub pdu_of_end : AssociationEnd → Option Pdu
pdu_of_end (Rejected rejection) = Some (rejection_pdu rejection)
pdu_of_end Released = Some ReleaseRp
pdu_of_end (Aborted Peer source reason) = None
pdu_of_end (Aborted Server source reason) = Some (Abort source reason)

-- the last PDU of an association, if it ended
abbrev pub last_pdu : Option AssociationEnd → Option Pdu
last_pdu end = option_and_then pdu_of_end end
