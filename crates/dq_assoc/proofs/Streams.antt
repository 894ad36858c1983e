-- Associations that were given PDUs, and the inputs of streams.
use Rattle.std.proofs.Common.{◌≡◌, ◌≢◌, ℕ, IsTrue, List, [], ◌∷◌, ◌++◌, map, Option, Some, None, refl, sym, ap, subst, ◌∙◌, arith}
use Rattle.std.proofs.lemmas.List.{append-nil, map-append}
use Rattle.dq_pdu.specs.declared.pdu.Pdu.{Pdu}
use Rattle.dq_pdu.specs.declared.pdu.Pdu.TheVariants.{Request as request_pdu, Accept as accept_pdu, Reject, PData, ReleaseRq, ReleaseRp, Abort}
use Rattle.dq_pdu.specs.declared.pdu.Request.{Request}
use Rattle.dq_assoc.specs.Roles.{Role}
use Rattle.dq_assoc.specs.Roles.{Asks, Carries, Ends}
use Rattle.dq_pdu.specs.declared.fault.PduFault.{PduFault}
use Rattle.dq_assoc.specs.Roles.{role_of}
use Rattle.dq_pdu.specs.Stream.{Pdus, pdus_in, stream_read_on}
use Rattle.dq_dimse.specs.declared.fault.DimseFault.{DimseFault}
use Rattle.dq_dimse.specs.Assembling.{Assembly, assembly_from, spent_by}
use Rattle.dq_assoc.specs.declared.agreement.Agreement.{Agreement}
use Rattle.dq_assoc.specs.Associations.{HeldState}
use Rattle.dq_assoc.specs.Associations as held
use Rattle.dq_assoc.specs.declared.association.State.TheVariants.{Waiting, Open, Closed}
use Rattle.dq_assoc.specs.Negotiation.{agreement_of}
use Rattle.dq_assoc.specs.Table.{Input}
use Rattle.dq_assoc.specs.Inputs.{leading_pdvs, after_leading_pdvs, inputs_of}
use Rattle.dq_assoc.specs.After.{AssociationAfter, state_of, agreement_in, is_sound_association, open_if, open_with, assembly_for, association_by, inputs_by, inputs_from}
use Rattle.dq_assoc.specs.Steps.{fault_inputs}
use Rattle.dq_assoc.proofs.FromHere.{inputs-append}
use Rattle.dq_assoc.proofs.Sound.{sound-by, nothing-added, fault-added}

pub after-inputs : (pdus more : List Pdu) (fault : Option PduFault) (h : HeldState) → AssociationAfter pdus h
    → inputs_of (pdus ++ more) fault ≡ inputs_of pdus None ++ inputs_from h more fault
after-inputs pdus more fault h after =
    ap (λ (roles : List Role). inputs_by held.Waiting roles fault) (map-append role_of pdus more)
    ∙ inputs-append held.Waiting (map role_of pdus) (map role_of more) fault
    ∙ ap (λ (t : HeldState). inputs_of pdus None ++ inputs_from t more fault) (sym after.stands)

pub after-sound : (pdus : List Pdu) (h : HeldState) → AssociationAfter pdus h → IsTrue (is_sound_association h)
after-sound pdus h after = subst (λ (t : HeldState). IsTrue (is_sound_association t)) (sym after.stands) (sound-by held.Waiting (map role_of pdus) refl)

pub after-nothing : (pdus : List Pdu) (h : HeldState) → AssociationAfter pdus h → inputs_from h [] None ≡ []
after-nothing pdus h after = nothing-added h (after-sound pdus h after)

pub after-fault : (pdus : List Pdu) (fault : PduFault) (h : HeldState) → AssociationAfter pdus h → inputs_from h [] (Some fault) ≡ fault_inputs (state_of h) fault
after-fault pdus fault h after = fault-added h fault (after-sound pdus h after)

waits-if : (a : Agreement) (s : Assembly) (f : Option DimseFault) → state_of (open_if f a s) ≡ Waiting → ⊥
waits-if a s None e = absurd cc
waits-if a s (Some d) e = absurd cc

waits-with : (a : Agreement) (s : Assembly) (roles : List Role) → state_of (open_with a s roles) ≡ Waiting → ⊥
waits-with a s [] e = waits-if a s (spent_by s) e
waits-with a s (role ∷ roles) e = absurd cc

waits-not : (role : Role) (roles : List Role) → state_of (association_by held.Waiting (role ∷ roles)) ≡ Waiting → ⊥
waits-not (Asks request) roles e = waits-with (agreement_of request) (assembly_from (assembly_for request) (leading_pdvs roles)) (after_leading_pdvs roles) e
waits-not (Carries pdvs) roles e = absurd cc
waits-not (Ends ending) roles e = absurd cc

pub after-waits : (pdus : List Pdu) (h : HeldState) → AssociationAfter pdus h → state_of h ≡ Waiting → pdus ≡ []
after-waits [] h after e = refl
after-waits (pdu ∷ pdus) h after e = absurd (waits-not (role_of pdu) (map role_of pdus) (ap state_of (sym after.stands) ∙ e))

pub after-begun : (pdu : Pdu) (pdus : List Pdu) (h : HeldState) → AssociationAfter (pdu ∷ pdus) h → state_of h ≢ Waiting
after-begun pdu pdus h after = λ e. waits-not (role_of pdu) (map role_of pdus) (ap state_of (sym after.stands) ∙ e)

-- an association that is open was opened by a request
opens-if : (a : Agreement) (s : Assembly) (f : Option DimseFault) → state_of (open_if f a s) ≡ Open → agreement_in (open_if f a s) ≡ Some a
opens-if a s None e = refl
opens-if a s (Some d) e = absurd cc

opens-with : (a : Agreement) (s : Assembly) (roles : List Role) → state_of (open_with a s roles) ≡ Open → agreement_in (open_with a s roles) ≡ Some a
opens-with a s [] e = opens-if a s (spent_by s) e
opens-with a s (role ∷ roles) e = absurd cc

abbrev Opens : List Pdu → HeldState → Type 0
Opens pdus h = (request : Request) × (later : List Pdu) × (pdus ≡ request_pdu request ∷ later) × (agreement_in h ≡ Some (agreement_of request))

opens-by : (pdus : List Pdu) → let h = association_by held.Waiting (map role_of pdus) in state_of h ≡ Open → Opens pdus h
opens-by [] e = absurd cc
opens-by (request_pdu request ∷ pdus) e = grind (arith, opens-with)
opens-by (accept_pdu accept ∷ pdus) e = absurd cc
opens-by (Reject result source reason ∷ pdus) e = absurd cc
opens-by (PData pdvs ∷ pdus) e = absurd cc
opens-by (ReleaseRq ∷ pdus) e = absurd cc
opens-by (ReleaseRp ∷ pdus) e = absurd cc
opens-by (Abort source reason ∷ pdus) e = absurd cc

pub after-opens : (pdus : List Pdu) (h : HeldState) → AssociationAfter pdus h → state_of h ≡ Open → Opens pdus h
after-opens pdus h after e = subst (Opens pdus) (sym after.stands) (opens-by pdus (ap state_of (sym after.stands) ∙ e))

pub after-ends : (pdus : List Pdu) (fault : Option PduFault) (h : HeldState) → state_of h ≡ Closed → inputs_from h pdus fault ≡ []
after-ends pdus fault held.Waiting e = absurd cc
after-ends pdus fault (held.Open a s) e = absurd cc
after-ends pdus fault (held.Closed agreed) e = refl

-- ---- streams

continued-adds : (fault : Option PduFault) (list : List Pdu) (rest more : List ℕ)
    → let all = stream_read_on fault list rest more in (added : List Input) × (inputs_of all.list all.fault ≡ inputs_of list fault ++ added)
continued-adds None list rest more =
    let others = pdus_in (rest ++ more) in
    let h = association_by held.Waiting (map role_of list) in
    (inputs_from h others.list others.fault, after-inputs list others.list others.fault h (record { stands = refl }))
continued-adds (Some fault) list rest more = ([], sym (append-nil (inputs_of list (Some fault))))

pub stream-adds : (all : Pdus) (fault : Option PduFault) (list : List Pdu) (rest more : List ℕ) → all ≡ stream_read_on fault list rest more
    → (added : List Input) × (inputs_of all.list all.fault ≡ inputs_of list fault ++ added)
stream-adds all fault list rest more e =
    let adds = continued-adds fault list rest more in
    (adds.0, ap (λ (u : Pdus). inputs_of u.list u.fault) e ∙ adds.1)

-- a stream without a fault that goes on
pub stream-further : (first all : Pdus) (pdus : List Pdu) (h : HeldState) → first.fault ≡ None → AssociationAfter first.list h → all.list ≡ first.list ++ pdus
    → inputs_of all.list all.fault ≡ inputs_of first.list first.fault ++ inputs_from h pdus all.fault
stream-further first all pdus h faultless after e = grind (arith, after-inputs)

-- one that has a fault
pub stream-stops : (first all : Pdus) (fault : PduFault) → first.fault ≡ Some fault → all.list ≡ first.list → all.fault ≡ Some fault
    → inputs_of all.list all.fault ≡ inputs_of first.list first.fault
stream-stops first all fault e list f =
    ap (λ (list : List Pdu). inputs_of list all.fault) list ∙ ap (inputs_of first.list) (f ∙ sym e)
