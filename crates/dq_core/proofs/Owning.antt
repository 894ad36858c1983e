-- Who has a connection that is held, by its slot and by its stream, and what PDUs more add.
use Rattle.std.proofs.Common.{◌≡◌, ℕ, Bool, true, false, List, [], ◌∷◌, ◌++◌, length, drop, option_map, Option, Some, None, ◌⊎◌, inl, inr, refl, sym, ap, ◌∙◌, arith}
use Rattle.std.proofs.Math.Seq.{drop-append_seam}
use Rattle.dq_pdu.specs.declared.pdu.Pdu.{Pdu}
use Rattle.dq_pdu.specs.declared.pdu.Pdu.TheVariants.{Request as request_pdu}
use Rattle.dq_pdu.specs.declared.pdu.Request.{Request}
use Rattle.dq_pdu.specs.declared.fault.PduFault.{PduFault}
use Rattle.dq_pdu.specs.Stream.{pdus_in}
use Rattle.dq_assoc.specs.declared.agreement.Agreement.{Agreement}
use Rattle.dq_assoc.specs.Associations.{HeldState}
use Rattle.dq_assoc.specs.Associations as held
use Rattle.dq_assoc.specs.declared.association.State.TheVariants.{Waiting, Open}
use Rattle.dq_assoc.specs.Negotiation.{agreement_of}
use Rattle.dq_assoc.specs.Table.{Input, Requested}
use Rattle.dq_assoc.specs.Inputs.{inputs_of, inputs}
use Rattle.dq_assoc.specs.After.{AssociationAfter, state_of, is_closed, agreement_in, association_from, inputs_from}
use Rattle.dq_assoc.proofs.HeldAssociations.{stands_state, stands_agreement}
use Rattle.dq_config.specs.declared.config.Institution.{Institution}
use Rattle.dq_config.specs.Routing.{institution_routed, institution_named}
use Rattle.dq_core.specs.declared.slot.Slot.{Slot}
use Rattle.dq_core.specs.Answers.{request_in, inputs_added}
use Rattle.dq_core.specs.Connections.{Connection}
use Rattle.dq_core.specs.Owners.{is_sound_request, owner_by, owner, is_institution}
use Rattle.dq_core.specs.Slots.{associated_institution, IsHeld, is_of_institution, routed_first}

-- the laws of the crates below
abbrev pub Waits : Type 0
Waits = (pdus : List Pdu) (association : HeldState) → AssociationAfter pdus association → state_of association ≡ Waiting → pdus ≡ []

abbrev pub Opens : Type 0
Opens = (pdus : List Pdu) (association : HeldState) → AssociationAfter pdus association → state_of association ≡ Open →
    (request : Request) × (later : List Pdu) × (pdus ≡ request_pdu request ∷ later) × (agreement_in association ≡ Some (agreement_of request))

abbrev pub Further : Type 0
Further = (stream more : List ℕ) (pdus : List Pdu) (association : HeldState) → (pdus_in stream).fault ≡ None → AssociationAfter (pdus_in stream).list association
    → (pdus_in (stream ++ more)).list ≡ (pdus_in stream).list ++ pdus
    → inputs (stream ++ more) ≡ inputs stream ++ inputs_from association pdus (pdus_in (stream ++ more)).fault

-- an institution to which titles are routed has its name for its own
abbrev pub AreNamed : List Institution → Type 0
AreNamed institutions = (called calling : List ℕ) (i : Institution) → institution_routed institutions called calling ≡ Some i → institution_named institutions i.name ≡ Some i

-- ---- the inputs of a stream whose PDUs are known

inputs-are : (stream : List ℕ) (pdus : List Pdu) → (pdus_in stream).list ≡ pdus → (pdus_in stream).fault ≡ None → inputs stream ≡ inputs_of pdus None
inputs-are stream pdus e f =
    ap (λ (list : List Pdu). inputs_of list (pdus_in stream).fault) e ∙ ap (λ (fault : Option PduFault). inputs_of pdus fault) f

pub no-inputs_yet : Waits → (stream : List ℕ) (association : HeldState) → (pdus_in stream).fault ≡ None → AssociationAfter (pdus_in stream).list association
    → state_of association ≡ Waiting → inputs stream ≡ []
no-inputs_yet waits stream association f a s = inputs-are stream [] (waits (pdus_in stream).list association a s) f

-- the request of an open association is the stream's
pub agreed : Waits → Opens → (stream : List ℕ) (association : HeldState) → (pdus_in stream).fault ≡ None → AssociationAfter (pdus_in stream).list association
    → is_closed (state_of association) ≡ false → option_map agreement_of (request_in (inputs stream)) ≡ agreement_in association
agreed waits opens stream held.Waiting f a u =
    ap (λ (xs : List Input). option_map agreement_of (request_in xs)) (no-inputs_yet waits stream held.Waiting f a refl)
agreed waits opens stream (held.Open agreement assembly) f a u =
    let o = opens (pdus_in stream).list (held.Open agreement assembly) a refl in
    ap (λ (xs : List Input). option_map agreement_of (request_in xs)) (inputs-are stream (request_pdu o.0 ∷ o.1) o.2 f) ∙ sym o.3
agreed waits opens stream (held.Closed b) f a u = cc

-- what a piece adds follows from the association
pub added : Further → (stream piece : List ℕ) (pdus : List Pdu) (fault : Option PduFault) (association : HeldState) → (pdus_in stream).fault ≡ None
    → AssociationAfter (pdus_in stream).list association → (pdus_in (stream ++ piece)).list ≡ (pdus_in stream).list ++ pdus
    → (pdus_in (stream ++ piece)).fault ≡ fault → inputs (stream ++ piece) ≡ inputs stream ++ inputs_from association pdus fault
added further stream piece pdus fault association f a e g =
    further stream piece pdus association f a e ∙ ap (λ (x : Option PduFault). inputs stream ++ inputs_from association pdus x) g

pub added-is : (stream piece : List ℕ) (xs : List Input) → inputs (stream ++ piece) ≡ inputs stream ++ xs → inputs_added stream piece ≡ xs
added-is stream piece xs e = ap (drop (length (inputs stream))) e ∙ drop-append_seam (inputs stream) xs

-- ---- counts

home-named : (name : List ℕ) (o : Option Institution) (agreement : Agreement) → is_of_institution name (associated_institution o (Some agreement)) ≡ is_institution name o
home-named name None agreement = refl
home-named name (Some i) agreement = refl

pub no-home : (o : Option Institution) → associated_institution o None ≡ None
no-home None = refl
no-home (Some i) = refl

counted-at : Waits → (institutions : List Institution) (name stream : List ℕ) (association : HeldState) (home : Option (List ℕ)) → (pdus_in stream).fault ≡ None
    → AssociationAfter (pdus_in stream).list association → is_closed (state_of association) ≡ false
    → home ≡ associated_institution (owner institutions stream) (agreement_in association) → is_of_institution name home ≡ is_institution name (owner institutions stream)
counted-at waits institutions name stream held.Waiting home f a u e =
    rw (e, no-home (owner institutions stream), no-inputs_yet waits stream held.Waiting f a refl) refl
counted-at waits institutions name stream (held.Open agreement assembly) home f a u e = rw e (home-named name (owner institutions stream) agreement)
counted-at waits institutions name stream (held.Closed b) home f a u e = cc

-- the institution of a slot is the owner of its connection
pub counted-held : Waits → (institutions : List Institution) (name : List ℕ) (slot : Slot) (c : Connection) → IsHeld institutions slot c
    → is_of_institution name slot.institution ≡ is_institution name (owner institutions c.stream)
counted-held waits institutions name slot c h =
    let s = h.stands in
    let first = association_from held.Waiting (pdus_in c.stream).list in
    let stands = s.association.stands in
    counted-at waits institutions name c.stream first slot.institution h.faultless (record { stands = refl })
    (ap is_closed (sym (stands_state slot.association first stands)) ∙ s.not_closed)
    (s.slot_institution ∙ ap (associated_institution (owner institutions c.stream)) (stands_agreement slot.association first stands))

-- ---- owners

-- a home is its owner's, and nobody else's
pub owner-named : (institutions : List Institution) → AreNamed institutions → (o : Option Request) (i : Institution) → owner_by institutions o ≡ Some i
    → institution_named institutions i.name ≡ Some i
owner-named institutions names None i e = cc
owner-named institutions names (Some request) i e = grind (arith, names request.called request.calling i)

-- The owner of a connection after its first PDUs, and the institution that has the titles of its request: the same, or
-- the request is not sound.
abbrev pub IsUnsound : Option Institution → List Input → Type 0
IsUnsound o xs = (o ≡ None) × (request : Request) × (later : List Input) × (xs ≡ Requested request ∷ later) × (is_sound_request request ≡ false)

request-owner : (institutions : List Institution) (request : Request) (later : List Input) (b : Bool) → is_sound_request request ≡ b
    → let o = owner_by institutions (Some request) in
    (o ≡ institution_routed institutions request.called request.calling) ⊎ IsUnsound o (Requested request ∷ later)
request-owner institutions request later true h = inl (rw h refl)
request-owner institutions request later false h = inr (rw h refl, request, later, refl, h)

pub first-owner : (institutions : List Institution) (pdus : List Pdu) (fault : Option PduFault)
    → let o = owner_by institutions (request_in (inputs_of pdus fault)) in
    (o ≡ routed_first institutions pdus) ⊎ IsUnsound o (inputs_of pdus fault)
first-owner institutions [] None = inl refl
first-owner institutions [] (Some fault) = inl refl
first-owner institutions (request_pdu request ∷ pdus) fault = request-owner institutions request _ (is_sound_request request) refl
first-owner institutions (pdu ∷ pdus) fault = inl refl
