-- PDUs that are taken one by one lead to what their inputs lead to together.
use Rattle.std.proofs.Common.{◌≡◌, ◌≢◌, Bool, true, false, IsTrue, cond, List, [], ◌∷◌, ◌++◌, map, Option, Some, None, refl, sym, ap, ◌∙◌, arith}
use Rattle.dq_pdu.specs.declared.pdu.Pdu.{Pdu}
use Rattle.dq_assoc.specs.Roles.{Role}
use Rattle.dq_assoc.specs.Roles.{Asks, Carries, Ends}
use Rattle.dq_assoc.specs.Roles.{ReleaseAsked, AbortSent, OutOfPlace}
use Rattle.dq_assoc.specs.Roles.{role_of}
use Rattle.dq_dimse.specs.Received.{Message}
use Rattle.dq_dimse.specs.declared.fault.DimseFault.{DimseFault}
use Rattle.dq_dimse.specs.Assembling.{Assembly, assembly_from, spent_by}
use Rattle.dq_dimse.proofs.Assemblies.{messages_from-fault}
use Rattle.dq_assoc.specs.declared.agreement.Agreement.{Agreement}
use Rattle.dq_assoc.specs.Associations.{HeldState}
use Rattle.dq_assoc.specs.Associations as held
use Rattle.dq_assoc.specs.declared.association.State.TheVariants.{Waiting}
use Rattle.dq_assoc.specs.Steps.{AssociationStep}
use Rattle.dq_assoc.specs.Table.{Input, Sent}
use Rattle.dq_assoc.specs.Inputs.{closing_input, inputs_past}
use Rattle.dq_assoc.specs.After.{state_of, is_sound_association, open_if, association_by, inputs_by}
use Rattle.dq_assoc.specs.Steps.{no_step, with_message, open_outcome, step_of_inputs, then_step, joined_step}
use Rattle.dq_assoc.proofs.FromHere.{inputs-cons}
use Rattle.dq_assoc.proofs.Sound.{sound-by, read-nil}

with-then : (b : Bool) (message : Message) (s later : AssociationStep)
    → cond b (with_message message s) (record { messages = message ∷ (s.messages ++ later.messages); octets = s.octets ++ later.octets; close = later.close; end = later.end })
    ≡ with_message message (cond b s (record { messages = s.messages ++ later.messages; octets = s.octets ++ later.octets; close = later.close; end = later.end }))
with-then true message s later = refl
with-then false message s later = refl

-- messages and the end after them, and what comes later
messages-then : (a : Agreement) (s : Assembly) (list : List Message) (f : Option DimseFault) (later : List Input)
    → then_step (open_outcome (map Sent list ++ inputs_past f [])) (step_of_inputs (state_of (open_if f a s)) later)
    ≡ open_outcome ((map Sent list ++ inputs_past f []) ++ later)
messages-then a s [] None later = refl
messages-then a s [] (Some d) later = refl
messages-then a s (message ∷ list) f later = grind (arith, with-then, messages-then a s list f later)

-- one PDU, and the inputs that come later
one-then : (h : HeldState) (role : Role) (later : List Input) → IsTrue (is_sound_association h) → state_of h ≢ Waiting
    → then_step (step_of_inputs (state_of h) (inputs_by h (role ∷ []) None)) (step_of_inputs (state_of (association_by h (role ∷ []))) later)
    ≡ step_of_inputs (state_of h) (inputs_by h (role ∷ []) None ++ later)
one-then held.Waiting role later sound begun = absurd (begun refl)
one-then (held.Open a s) (Carries pdvs) later sound begun = grind (arith, messages_from-fault, messages-then)
one-then (held.Open a s) (Asks request) later sound begun =
    rw (read-nil s sound (closing_input (Asks request) ∷ [])) refl
one-then (held.Open a s) (Ends ReleaseAsked) later sound begun =
    rw (read-nil s sound (closing_input (Ends ReleaseAsked) ∷ [])) refl
one-then (held.Open a s) (Ends (AbortSent source reason)) later sound begun =
    rw (read-nil s sound (closing_input (Ends (AbortSent source reason)) ∷ [])) refl
one-then (held.Open a s) (Ends OutOfPlace) later sound begun =
    rw (read-nil s sound (closing_input (Ends OutOfPlace) ∷ [])) refl
one-then (held.Closed agreed) role later sound begun = refl

none-then : (h : HeldState) → IsTrue (is_sound_association h) → state_of h ≢ Waiting → no_step (state_of h) ≡ step_of_inputs (state_of h) (inputs_by h [] None)
none-then held.Waiting sound begun = absurd (begun refl)
none-then (held.Open a s) sound begun = ap open_outcome (sym (read-nil s sound []))
none-then (held.Closed agreed) sound begun = refl

begun-if : (a : Agreement) (s : Assembly) (f : Option DimseFault) → state_of (open_if f a s) ≢ Waiting
begun-if a s None = λ e. absurd cc
begun-if a s (Some d) = λ e. absurd cc

begun-next : (h : HeldState) (role : Role) → state_of h ≢ Waiting → state_of (association_by h (role ∷ [])) ≢ Waiting
begun-next held.Waiting role begun = absurd (begun refl)
begun-next (held.Open a s) (Carries pdvs) begun = begun-if a (assembly_from s (pdvs ++ [])) (spent_by (assembly_from s (pdvs ++ [])))
begun-next (held.Open a s) (Asks request) begun = λ e. absurd cc
begun-next (held.Open a s) (Ends ending) begun = λ e. absurd cc
begun-next (held.Closed agreed) role begun = λ e. absurd cc

pub one-by-one : (h : HeldState) (pdus : List Pdu) → IsTrue (is_sound_association h) → state_of h ≢ Waiting
    → joined_step h pdus ≡ step_of_inputs (state_of h) (inputs_by h (map role_of pdus) None)
one-by-one h [] sound begun = none-then h sound begun
one-by-one h (pdu ∷ pdus) sound begun =
    let role = role_of pdu in
    let next = association_by h (role ∷ []) in
    ap (then_step (step_of_inputs (state_of h) (inputs_by h (role ∷ []) None))) (one-by-one next pdus (sound-by h (role ∷ []) sound) (begun-next h role begun))
    ∙ one-then h role (inputs_by next (map role_of pdus) None) sound begun
    ∙ ap (step_of_inputs (state_of h)) (sym (inputs-cons h role (map role_of pdus) None))
