-- What taking one PDU, or the request, says of an association.
use Rattle.std.proofs.Common.{◌≡◌, Bool, true, false, cond, List, ◌++◌, map, Option, Some, None, refl, sym, ap, ◌∙◌}
use Rattle.std.proofs.lemmas.List.{map-append}
use Rattle.dq_pdu.specs.declared.pdu.Pdu.{Pdu}
use Rattle.dq_pdu.specs.declared.pdu.Pdu.TheVariants.{Request as request_pdu, Accept as accept_pdu, Reject, PData, ReleaseRq, ReleaseRp, Abort}
use Rattle.dq_pdu.specs.declared.pdu.Pdv.{Pdv}
use Rattle.dq_pdu.specs.declared.pdu.Request.{Request}
use Rattle.dq_assoc.specs.Roles.{Carries}
use Rattle.dq_assoc.specs.Roles.{role_of}
use Rattle.dq_pdu.specs.Writing.{is_writable}
use Rattle.dq_assoc.specs.Associations.{HeldState}
use Rattle.dq_assoc.specs.Associations as held
use Rattle.dq_assoc.specs.declared.association.State.TheVariants.{Open}
use Rattle.dq_assoc.specs.declared.negotiation.Rejection.{Rejection}
use Rattle.dq_assoc.specs.Negotiation.{acceptance_of}
use Rattle.dq_assoc.specs.Table.{requested_line, goes, stray_line}
use Rattle.dq_assoc.specs.After.{AssociationAfter, is_closed, association_by}
use Rattle.dq_assoc.proofs.FromHere.{association-append}

-- ---- a PDU after the request, or in its place

after-append : (pdus more : List Pdu) (old new : HeldState) → AssociationAfter pdus old → new ≡ association_by old (map role_of more)
    → AssociationAfter (pdus ++ more) new
after-append pdus more old new after x = record {
  stands = x ∙ ap (λ (h : HeldState). association_by h (map role_of more)) after.stands
      ∙ sym (association-append held.Waiting (map role_of pdus) (map role_of more))
      ∙ ap (association_by held.Waiting) (sym (map-append role_of pdus more));
}

pub after-more : (pdus more : List Pdu) (h : HeldState) → AssociationAfter pdus h → AssociationAfter (pdus ++ more) (association_by h (map role_of more))
after-more pdus more h after = after-append pdus more h (association_by h (map role_of more)) after refl

-- ---- the request

writable-open : (b : Bool) (answer : Pdu) → let l = cond b (goes (Some answer) Open) stray_line in is_closed l.next ≡ false → l.next ≡ Open
writable-open true answer e = refl
writable-open false answer e = absurd cc

pub requested-open : (request : Request) (o : Option Rejection) → is_closed (requested_line request o).next ≡ false → (requested_line request o).next ≡ Open
requested-open request None e = writable-open (is_writable (acceptance_of request)) (acceptance_of request) e
requested-open request (Some why) e = absurd cc

-- only P-DATA carries PDVs
pub carries-data : (pdu : Pdu) (pdvs : List Pdv) → role_of pdu ≡ Carries pdvs → pdu ≡ PData pdvs
carries-data (PData others) pdvs e = cc
carries-data (Abort source reason) pdvs e = absurd cc
carries-data (Reject result source reason) pdvs e = absurd cc
carries-data (request_pdu request) pdvs e = absurd cc
carries-data (accept_pdu accept) pdvs e = absurd cc
carries-data ReleaseRq pdvs e = absurd cc
carries-data ReleaseRp pdvs e = absurd cc
