-- Associations that are open only while their values are messages, and the state that PDUs leave.
use Rattle.std.proofs.Common.{◌≡◌, true, false, IsTrue, List, [], ◌∷◌, ◌++◌, map, Option, Some, None, refl, sym, ap, subst, ◌∙◌, arith}
use Rattle.std.specs.Prelude.{is_none, is_some}
use Rattle.std.proofs.lemmas.List.{append-nil}
use Rattle.dq_pdu.specs.declared.pdu.Pdv.{Pdv}
use Rattle.dq_assoc.specs.Roles.{Role}
use Rattle.dq_assoc.specs.Roles.{Asks, Carries, Ends}
use Rattle.dq_assoc.specs.Roles.{ReleaseAsked, AbortSent, OutOfPlace}
use Rattle.dq_pdu.specs.declared.fault.PduFault.{PduFault}
use Rattle.dq_dimse.specs.Received.{Message}
use Rattle.dq_dimse.specs.declared.fault.DimseFault.{DimseFault}
use Rattle.dq_dimse.specs.Assembling.{Assembly, messages_from, assembly_from, spent_by}
use Rattle.dq_dimse.proofs.Assemblies.{messages_from-nil, messages_from-fault}
use Rattle.dq_assoc.specs.declared.agreement.Agreement.{Agreement}
use Rattle.dq_assoc.specs.Associations.{HeldState}
use Rattle.dq_assoc.specs.Associations as held
use Rattle.dq_assoc.specs.declared.association.State.TheVariants.{Open}
use Rattle.dq_assoc.specs.declared.association.Verdict.TheVariants.{Accept}
use Rattle.dq_assoc.specs.Negotiation.{agreement_of}
use Rattle.dq_assoc.specs.Table.{Input, Sent, Bad, line}
use Rattle.dq_assoc.specs.Inputs.{leading_pdvs, after_leading_pdvs, reason_of, closing_input, inputs_past, inputs_of_messages}
use Rattle.dq_assoc.specs.After.{state_of, is_sound_association, open_if, open_with, assembly_for, association_by, inputs_by}
use Rattle.dq_assoc.specs.Steps.{with_message, open_outcome, step_of_inputs, fault_inputs, closing, fault_end, pdvs_step}

pub none_is : (o : Option DimseFault) → IsTrue (is_none o) → o ≡ None
none_is None sound = refl
none_is (Some d) sound = absurd cc

sound-if : (a : Agreement) (s : Assembly) (f : Option DimseFault) → spent_by s ≡ f → IsTrue (is_sound_association (open_if f a s))
sound-if a s None e = subst (λ (f : Option DimseFault). IsTrue (is_none f)) (sym e) refl
sound-if a s (Some d) e = refl

sound-with : (a : Agreement) (s : Assembly) (roles : List Role) → IsTrue (is_sound_association (open_with a s roles))
sound-with a s [] = sound-if a s (spent_by s) refl
sound-with a s (role ∷ roles) = refl

closed-if : (a : Agreement) (s : Assembly) (f : Option DimseFault) → is_some f ≡ true → held.Closed (Some a) ≡ open_if f a s
closed-if a s None e = absurd cc
closed-if a s (Some d) e = refl

kept-if : (a : Agreement) (s : Assembly) (f : Option DimseFault) → is_some f ≡ false → held.Open a s ≡ open_if f a s
kept-if a s None e = refl
kept-if a s (Some d) e = absurd cc

-- PDUs leave an association that is sound
pub sound-by : (h : HeldState) (roles : List Role) → IsTrue (is_sound_association h) → IsTrue (is_sound_association (association_by h roles))
sound-by held.Waiting [] sound = refl
sound-by held.Waiting (Asks request ∷ roles) sound = sound-with (agreement_of request) (assembly_from (assembly_for request) (leading_pdvs roles))
    (after_leading_pdvs roles)
sound-by held.Waiting (Carries pdvs ∷ roles) sound = refl
sound-by held.Waiting (Ends ending ∷ roles) sound = refl
sound-by (held.Open a s) roles sound = sound-with a (assembly_from s (leading_pdvs roles)) (after_leading_pdvs roles)
sound-by (held.Closed agreed) roles sound = refl

-- what comes where no values came before it
pub read-nil : (s : Assembly) → IsTrue (is_none (spent_by s)) → (later : List Input) → inputs_of_messages (messages_from s []) later ≡ later
read-nil s sound later = grind (arith, messages_from-nil, none_is)

pub nothing-added : (h : HeldState) → IsTrue (is_sound_association h) → inputs_by h [] None ≡ []
nothing-added held.Waiting sound = refl
nothing-added (held.Open a s) sound = read-nil s sound []
nothing-added (held.Closed agreed) sound = refl

pub fault-added : (h : HeldState) (fault : PduFault) → IsTrue (is_sound_association h) → inputs_by h [] (Some fault) ≡ fault_inputs (state_of h) fault
fault-added held.Waiting fault sound = refl
fault-added (held.Open a s) fault sound = read-nil s sound _
fault-added (held.Closed agreed) fault sound = refl

-- what a fault leads to
pub fault-outcome : (h : HeldState) (fault : PduFault) → IsTrue (is_sound_association h)
    → closing (fault_end (state_of h) fault) ≡ step_of_inputs (state_of h) (inputs_by h [] (Some fault))
fault-outcome held.Waiting fault sound = refl
fault-outcome (held.Open a s) fault sound = ap open_outcome (sym (read-nil s sound (Bad (reason_of fault) ∷ [])))
fault-outcome (held.Closed agreed) fault sound = refl

-- values leave an association open unless they are no messages
pub pdvs-closed : (a : Agreement) (s : Assembly) (pdvs : List Pdv) → is_some (messages_from s pdvs).fault ≡ true
    → let next = assembly_from s pdvs in held.Closed (Some a) ≡ open_if (spent_by next) a next
pdvs-closed a s pdvs e = closed-if a (assembly_from s pdvs) (spent_by (assembly_from s pdvs)) (ap is_some (sym (messages_from-fault s pdvs)) ∙ e)

pub pdvs-open : (a : Agreement) (s : Assembly) (pdvs : List Pdv) → is_some (messages_from s pdvs).fault ≡ false
    → let next = assembly_from s pdvs in held.Open a next ≡ open_if (spent_by next) a next
pdvs-open a s pdvs e = kept-if a (assembly_from s pdvs) (spent_by (assembly_from s pdvs)) (ap is_some (sym (messages_from-fault s pdvs)) ∙ e)

-- the messages of values, and the end where they are none
pub values-outcome : (list : List Message) (f : Option DimseFault)
    → open_outcome (map Sent list ++ inputs_past f []) ≡ pdvs_step (record { list = list; fault = f })
values-outcome [] None = refl
values-outcome [] (Some d) = refl
values-outcome (message ∷ list) f = ap (with_message message) (values-outcome list f)

-- ---- a PDU that an open association takes

pub values-carried : (a : Agreement) (s : Assembly) (pdvs : List Pdv)
    → pdvs_step (messages_from s pdvs) ≡ step_of_inputs Open (inputs_by (held.Open a s) (Carries pdvs ∷ []) None)
values-carried a s pdvs = grind (arith, append-nil, values-outcome)

pub role-closes : (a : Agreement) (s : Assembly) (role : Role) → IsTrue (is_sound_association (held.Open a s)) → ((pdvs : List Pdv) → role ≡ Carries pdvs → ⊥)
    → closing (line Open Accept (closing_input role)).end ≡ step_of_inputs Open (inputs_by (held.Open a s) (role ∷ []) None)
role-closes a s (Asks request) sound not = ap open_outcome (sym (read-nil s sound (closing_input (Asks request) ∷ [])))
role-closes a s (Carries pdvs) sound not = absurd (not pdvs refl)
role-closes a s (Ends ReleaseAsked) sound not = ap open_outcome (sym (read-nil s sound (closing_input (Ends ReleaseAsked) ∷ [])))
role-closes a s (Ends (AbortSent source reason)) sound not = ap open_outcome (sym (read-nil s sound (closing_input (Ends (AbortSent source reason)) ∷ [])))
role-closes a s (Ends OutOfPlace) sound not = ap open_outcome (sym (read-nil s sound (closing_input (Ends OutOfPlace) ∷ [])))

pub role-closed : (a : Agreement) (s : Assembly) (role : Role) → ((pdvs : List Pdv) → role ≡ Carries pdvs → ⊥)
    → held.Closed (Some a) ≡ association_by (held.Open a s) (role ∷ [])
role-closed a s (Asks request) not = refl
role-closed a s (Carries pdvs) not = absurd (not pdvs refl)
role-closed a s (Ends ending) not = refl
