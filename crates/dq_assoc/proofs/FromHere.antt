-- What PDUs add to the inputs of an association, and where they leave it.
use Rattle.std.proofs.Common.{◌≡◌, List, [], ◌∷◌, ◌++◌, map, Option, Some, None, refl, sym, ap, ◌∙◌, append_assoc, arith}
use Rattle.std.proofs.lemmas.List.{append-nil, map-append}
use Rattle.dq_pdu.specs.declared.pdu.Pdv.{Pdv}
use Rattle.dq_assoc.specs.Roles.{Role}
use Rattle.dq_assoc.specs.Roles.{Asks, Carries, Ends}
use Rattle.dq_pdu.specs.declared.fault.PduFault.{PduFault}
use Rattle.dq_dimse.specs.Received.{Message}
use Rattle.dq_dimse.specs.declared.fault.DimseFault.{DimseFault}
use Rattle.dq_dimse.specs.Assembling.{Assembly, Messages, messages_from, followed_by, spent_by}
use Rattle.dq_dimse.proofs.Assemblies.{messages_from-nil, messages_from-append, messages_from-spent, messages_from-fault, assembly_from-nil, assembly_from-append, assembly_from-spent}
use Rattle.dq_assoc.specs.declared.agreement.Agreement.{Agreement}
use Rattle.dq_assoc.specs.Associations.{HeldState}
use Rattle.dq_assoc.specs.Associations as held
use Rattle.dq_assoc.specs.Negotiation.{agreement_of}
use Rattle.dq_assoc.specs.Table.{Input, Requested, Sent}
use Rattle.dq_assoc.specs.Inputs.{leading_pdvs, after_leading_pdvs, closing_inputs, inputs_past, inputs_of_messages}
use Rattle.dq_assoc.specs.After.{open_if, open_with, open_from, assembly_for, association_by, inputs_by}

-- messages after others
read-others : (list : List Message) (later : Messages) (end : List Input)
    → inputs_of_messages (followed_by list later) end ≡ map Sent list ++ inputs_of_messages later end
read-others list later end = grind (arith, map-append, append_assoc)

-- after messages an association goes on, or was closed by the fault of its values
go_on : (a : Agreement) (s : Assembly) (f : Option DimseFault) → spent_by s ≡ f → (list : List Message) (roles : List Role) (fault : Option PduFault)
    → map Sent list ++ inputs_of_messages (messages_from s (leading_pdvs roles)) (closing_inputs (after_leading_pdvs roles) fault)
    ≡ (map Sent list ++ inputs_past f []) ++ inputs_by (open_if f a s) roles fault
go_on a s None e list roles fault =
    ap (λ (l : List Input). l ++ inputs_by (held.Open a s) roles fault) (sym (append-nil (map Sent list)))
go_on a s (Some d) e list roles fault = grind (arith, messages_from-spent, append-nil)

-- no PDUs, and those after them
nil-open : (a : Agreement) (s : Assembly) (roles : List Role) (fault : Option PduFault)
    → inputs_by (held.Open a s) roles fault ≡ inputs_by (held.Open a s) [] None ++ inputs_by (association_by (held.Open a s) []) roles fault
nil-open a s roles fault = grind (arith, go_on, messages_from-nil, assembly_from-nil)

inputs-nil : (h : HeldState) (roles : List Role) (fault : Option PduFault)
    → inputs_by h roles fault ≡ inputs_by h [] None ++ inputs_by (association_by h []) roles fault
inputs-nil held.Waiting roles fault = refl
inputs-nil (held.Open a s) roles fault = nil-open a s roles fault
inputs-nil (held.Closed agreed) roles fault = refl

-- a P-DATA PDU, and the PDUs after it
carries : (a : Agreement) (s : Assembly) (pdvs : List Pdv) (roles : List Role) (fault : Option PduFault)
    → inputs_by (held.Open a s) (Carries pdvs ∷ roles) fault
    ≡ inputs_by (held.Open a s) (Carries pdvs ∷ []) None ++ inputs_by (association_by (held.Open a s) (Carries pdvs ∷ [])) roles fault
carries a s pdvs roles fault = grind (arith, messages_from-append, read-others, go_on, messages_from-fault, append-nil)

-- one PDU, and those after it
pub inputs-cons : (h : HeldState) (role : Role) (roles : List Role) (fault : Option PduFault)
    → inputs_by h (role ∷ roles) fault ≡ inputs_by h (role ∷ []) None ++ inputs_by (association_by h (role ∷ [])) roles fault
inputs-cons held.Waiting (Asks request) roles fault =
    ap (λ (l : List Input). Requested request ∷ l) (nil-open (agreement_of request) (assembly_for request) roles fault)
inputs-cons held.Waiting (Carries pdvs) roles fault = refl
inputs-cons held.Waiting (Ends ending) roles fault = refl
inputs-cons (held.Open a s) (Carries pdvs) roles fault = carries a s pdvs roles fault
inputs-cons (held.Open a s) (Asks request) roles fault = sym (append-nil (inputs_by (held.Open a s) (Asks request ∷ []) None))
inputs-cons (held.Open a s) (Ends ending) roles fault = sym (append-nil (inputs_by (held.Open a s) (Ends ending ∷ []) None))
inputs-cons (held.Closed agreed) role roles fault = refl

closed-with : (a : Agreement) (s : Assembly) (d : DimseFault) → spent_by s ≡ Some d → (roles : List Role) → open_with a s roles ≡ held.Closed (Some a)
closed-with a s d e [] = ap (λ (f : Option DimseFault). open_if f a s) e
closed-with a s d e (role ∷ roles) = refl

leave : (a : Agreement) (s : Assembly) (f : Option DimseFault) → spent_by s ≡ f → (roles : List Role)
    → open_from a s roles ≡ association_by (open_if f a s) roles
leave a s None e roles = refl
leave a s (Some d) e roles =
    ap (λ (t : Assembly). open_with a t (after_leading_pdvs roles)) (assembly_from-spent s (leading_pdvs roles) d e) ∙ closed-with a s d e (after_leading_pdvs roles)

association-nil : (h : HeldState) (roles : List Role) → association_by h roles ≡ association_by (association_by h []) roles
association-nil held.Waiting roles = refl
association-nil (held.Open a s) roles =
    leave a s (spent_by s) refl roles ∙ ap (λ (t : Assembly). association_by (open_if (spent_by t) a t) roles) (sym (assembly_from-nil s))
association-nil (held.Closed agreed) roles = refl

-- where one PDU, and those after it, leave an association
pub association-cons : (h : HeldState) (role : Role) (roles : List Role) → association_by h (role ∷ roles) ≡ association_by (association_by h (role ∷ [])) roles
association-cons held.Waiting (Asks request) roles = association-nil (held.Open (agreement_of request) (assembly_for request)) roles
association-cons held.Waiting (Carries pdvs) roles = refl
association-cons held.Waiting (Ends ending) roles = refl
association-cons (held.Open a s) (Carries pdvs) roles = grind (arith, assembly_from-append, leave, append-nil)
association-cons (held.Open a s) (Asks request) roles = refl
association-cons (held.Open a s) (Ends ending) roles = refl
association-cons (held.Closed agreed) role roles = refl

-- PDUs that come in two parts
pub inputs-append : (h : HeldState) (xs ys : List Role) (fault : Option PduFault)
    → inputs_by h (xs ++ ys) fault ≡ inputs_by h xs None ++ inputs_by (association_by h xs) ys fault
inputs-append h [] ys fault = inputs-nil h ys fault
inputs-append h (x ∷ xs) ys fault =
    let next = association_by h (x ∷ []) in
    let first = inputs_by h (x ∷ []) None in
    inputs-cons h x (xs ++ ys) fault
    ∙ ap (λ (l : List Input). first ++ l) (inputs-append next xs ys fault)
    ∙ sym (append_assoc first (inputs_by next xs None) (inputs_by (association_by next xs) ys fault))
    ∙ ap (λ (l : List Input). l ++ inputs_by (association_by next xs) ys fault) (sym (inputs-cons h x xs None))
    ∙ ap (λ (t : HeldState). inputs_by h (x ∷ xs) None ++ inputs_by t ys fault) (sym (association-cons h x xs))

pub association-append : (h : HeldState) (xs ys : List Role) → association_by h (xs ++ ys) ≡ association_by (association_by h xs) ys
association-append h [] ys = association-nil h ys
association-append h (x ∷ xs) ys =
    association-cons h x (xs ++ ys) ∙ association-append (association_by h (x ∷ [])) xs ys
    ∙ ap (λ (t : HeldState). association_by t ys) (sym (association-cons h x xs))
