-- The values that the assembler of an open association was given, and how many octets it holds.
use Rattle.std.proofs.Common.{◌≡◌, ◌≤◌, ℕ, List, [], ◌∷◌, length, map, Option, Some, None, sym, ap, subst, ◌∙◌}
use Rattle.dq_pdu.specs.declared.pdu.Pdu.{Pdu}
use Rattle.dq_pdu.specs.declared.pdu.Pdv.{Pdv}
use Rattle.dq_assoc.specs.Roles.{Role}
use Rattle.dq_assoc.specs.Roles.{Asks, Carries, Ends}
use Rattle.dq_assoc.specs.Roles.{role_of}
use Rattle.dq_dimse.specs.declared.fault.DimseFault.{DimseFault}
use Rattle.dq_dimse.specs.Assembling.{Assembly, new_assembly, assembly_from, spent_by}
use Rattle.dq_dimse.specs.Holding.{Holding, Assembles, WasGivenPdvs, octets_gathered, gathered_limit}
use Rattle.dq_dimse.proofs.HeldOctets.{held_within}
use Rattle.dq_assoc.specs.declared.agreement.Agreement.{Agreement}
use Rattle.dq_assoc.specs.declared.association.Held.TheVariants as code
use Rattle.dq_assoc.specs.Associations as held
use Rattle.dq_assoc.specs.Negotiation.{agreement_of, context_ids}
use Rattle.dq_assoc.specs.Inputs.{leading_pdvs, after_leading_pdvs}
use Rattle.dq_assoc.specs.After.{association_by, assembly_for, open_if, open_with}
use Rattle.dq_assoc.specs.Holding.{WasGivenPdus, accepted_by}
use Rattle.dq_assoc.proofs.HeldAssociations.{ids_same}

opened_if : (fault : Option DimseFault) (a agreement : Agreement) (x assembly : Assembly) → open_if fault a x ≡ held.Open agreement assembly
    → (a ≡ agreement) × (x ≡ assembly)
opened_if None a agreement x assembly e = (cc, cc)
opened_if (Some fault) a agreement x assembly e = absurd cc

opened_with : (roles : List Role) (a agreement : Agreement) (x assembly : Assembly) → open_with a x roles ≡ held.Open agreement assembly
    → (a ≡ agreement) × (x ≡ assembly)
opened_with [] a agreement x assembly e = opened_if (spent_by x) a agreement x assembly e
opened_with (role ∷ roles) a agreement x assembly e = absurd cc

opened_by : (roles : List Role) (agreement : Agreement) (assembly : Assembly) → association_by held.Waiting roles ≡ held.Open agreement assembly
    → (pdvs : List Pdv) × (assembly ≡ assembly_from (new_assembly (context_ids agreement)) pdvs)
opened_by [] agreement assembly e = absurd cc
opened_by (Asks request ∷ roles) agreement assembly e =
    let o = opened_with (after_leading_pdvs roles) (agreement_of request) agreement (assembly_from (assembly_for request) (leading_pdvs roles)) assembly e in
    (leading_pdvs roles, sym o.1 ∙ ap (λ (a : Agreement). assembly_from (new_assembly (context_ids a)) (leading_pdvs roles)) o.0)
opened_by (Carries pdvs ∷ roles) agreement assembly e = absurd cc
opened_by (Ends ending ∷ roles) agreement assembly e = absurd cc

pub values_given : (pdus : List Pdu) (agreement : Agreement) (holding : Holding) → WasGivenPdus pdus (code.Open agreement holding)
    → (pdvs : List Pdv) × WasGivenPdvs (accepted_by agreement) pdvs holding
values_given pdus agreement holding given =
    let s = given.stands in
    let o = opened_by (map role_of pdus) agreement s.0 s.1 in
    let is = o.1 ∙ ap (λ (ids : List ℕ). assembly_from (new_assembly ids) o.0) (ids_same agreement.contexts) in
    (o.0, record { accepted_are = s.3; stands = subst (Assembles holding) is s.2 })

pub held_short : (pdus : List Pdu) (agreement : Agreement) (holding : Holding) → WasGivenPdus pdus (code.Open agreement holding)
    → length (octets_gathered holding.gathered) ≤ gathered_limit holding.gathered
held_short pdus agreement holding given =
    let values = values_given pdus agreement holding given in
    held_within (accepted_by agreement) values.0 holding values.1
