-- PDVs one after the other, as an assembler gathers them.
use Rattle.std.proofs.Common.{◌≡◌, ℕ, List, [], ◌∷◌, ◌++◌, Some, refl, sym, ap, ◌∙◌, append_assoc}
use Rattle.std.proofs.lemmas.List.{append-nil}
use Rattle.dq_pdu.specs.declared.pdu.Pdv.{Pdv}
use Rattle.dq_dimse.specs.Received.{Message}
use Rattle.dq_dimse.specs.declared.fault.DimseFault.{DimseFault}
use Rattle.dq_dimse.specs.Assembling.{PartialMessage, Nothing, CommandPart, DataPart, Spent}
use Rattle.dq_dimse.specs.Assembling.{Gathering, stops_at, after_others, gather, gather_all, gathering_fault}

after_both : (xs ys : List Message) (later : Gathering) → after_others xs (after_others ys later) ≡ after_others (xs ++ ys) later
after_both xs ys later = ap (λ (list : List Message). record { list = list; gathered = later.gathered }) (sym (append_assoc xs ys later.list))

-- PDVs after others go on where those end
pub gather_all-append : (ids : List ℕ) (gathered : PartialMessage) (xs ys : List Pdv)
    → gather_all ids gathered (xs ++ ys) ≡ after_others (gather_all ids gathered xs).list (gather_all ids (gather_all ids gathered xs).gathered ys)
gather_all-append ids gathered [] ys = refl
gather_all-append ids gathered (x ∷ xs) ys =
    let first = gather ids gathered x in
    ap (after_others first.list) (gather_all-append ids first.gathered xs ys)
    ∙ after_both first.list (gather_all ids first.gathered xs).list (gather_all ids (gather_all ids first.gathered xs).gathered ys)

pub gather_one : (ids : List ℕ) (gathered : PartialMessage) (pdv : Pdv) → gather_all ids gathered (pdv ∷ []) ≡ gather ids gathered pdv
gather_one ids gathered pdv =
    ap (λ (list : List Message). record { list = list; gathered = (gather ids gathered pdv).gathered }) (append-nil (gather ids gathered pdv).list)

-- a fault stays
pub fault_stays : (ids : List ℕ) (fault : DimseFault) (ys : List Pdv) → gather_all ids (Spent fault) ys ≡ stops_at fault
fault_stays ids fault [] = refl
fault_stays ids fault (y ∷ ys) = ap (after_others []) (fault_stays ids fault ys)

pub spent_is : (gathered : PartialMessage) (fault : DimseFault) → gathering_fault gathered ≡ Some fault → gathered ≡ Spent fault
spent_is Nothing fault e = absurd cc
spent_is (CommandPart context octets) fault e = absurd cc
spent_is (DataPart message) fault e = absurd cc
spent_is (Spent other) fault e = cc
