-- What the octets that are written for a PDU tell.
use Rattle.std.proofs.Common.{◌≡◌, ℕ, ◌+◌, ◌≤◌, Bool, List, ◌∷◌, ◌++◌, length, Result, sym, ap, subst, ◌∙◌, append_assoc, arith, length-append}
use Rattle.std.specs.Prelude.{OnOk}
use Rattle.std.specs.Int.{w32, to_be_bytes}
use Rattle.std.proofs.lemmas.List.{append-nil}
use Rattle.dq_pdu.specs.declared.pdu.Pdv.{Pdv}
use Rattle.dq_pdu.specs.declared.pdu.Pdu.{Pdu}
use Rattle.dq_pdu.specs.Writing.{pdv, body, pdu_octets, p_data, IsWritable}

pub short_body : (pdu : Pdu) → IsWritable pdu → length (body pdu) ≤ 65536
short_body pdu w =
    let e : length (pdu_octets pdu) ≡ length (w.kind ∷ w.reserved ∷ (w.size ++ w.body)) = ap length w.whole in
    omega (arith, e, length-append w.size w.body, w.sized.wide, w.short)

-- a P-DATA PDU of one PDV: its header, and the PDV
pub one_pdv : (context : ℕ) (command last : Bool) (octets : List ℕ)
    → pdu_octets (p_data context command last octets) ≡ 4 ∷ 0 ∷ to_be_bytes w32 (length octets + 6) ++ pdv
    (record { context = context; command = command; last = last; octets = octets })
one_pdv context command last octets = grind (arith, append-nil)

pub one_pdv_written : {T E : Type 0} (r : Result T E) (out middle written : List ℕ) (context : ℕ) (command last : Bool) (octets : List ℕ)
    → middle ≡ out ++ 4 ∷ 0 ∷ to_be_bytes w32 (length octets + 6)
    → OnOk r (written ≡ middle ++ pdv (record { context = context; command = command; last = last; octets = octets }))
    → OnOk r (written ≡ out ++ pdu_octets (p_data context command last octets))
one_pdv_written r out middle written context command last octets e h =
    let v : Pdv = record { context = context; command = command; last = last; octets = octets } in
    let header = 4 ∷ 0 ∷ to_be_bytes w32 (length octets + 6) in
    let joined : middle ++ pdv v ≡ out ++ (header ++ pdv v) = ap (λ (items : List ℕ). items ++ pdv v) e ∙ append_assoc out header (pdv v) in
    let whole : middle ++ pdv v ≡ out ++ pdu_octets (p_data context command last octets) = joined ∙ ap (λ (items : List ℕ). out ++ items) (sym
    (one_pdv context command last octets)) in
    subst (λ (items : List ℕ). OnOk r (written ≡ items)) whole h
