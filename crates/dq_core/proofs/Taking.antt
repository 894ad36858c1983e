-- What the first PDU of a connection leads to.
use Rattle.std.proofs.Common.{◌≡◌, ◌<◌, ℕ, subst, ◌++◌, Bool, true, false, List, [], ◌∷◌, length, get_or, map, Option, Some, None, refl, sym, ap, ◌∙◌, arith}
use Rattle.std.specs.Option.{IsSome}
use Rattle.std.proofs.lemmas.Bool.{false≢true}
use Rattle.dq_pdu.specs.declared.pdu.Pdu.{Pdu}
use Rattle.dq_pdu.specs.declared.pdu.Pdu.TheVariants.{Request as request_pdu}
use Rattle.dq_pdu.specs.declared.pdu.Request.{Request}
use Rattle.dq_pdu.specs.declared.fault.PduFault.{PduFault}
use Rattle.dq_assoc.specs.Roles.{role_of}
use Rattle.dq_dimse.specs.declared.assembler.Accepted.{Accepted}
use Rattle.dq_dimse.specs.declared.command.Message.{Message as HeldMessage}
use Rattle.dq_dimse.specs.Holding.{AllRefine}
use Rattle.dq_dimse.proofs.Assemblies.{assembly_from-nil}
use Rattle.dq_assoc.specs.Associations.{HeldState}
use Rattle.dq_assoc.specs.Associations as held
use Rattle.dq_assoc.specs.declared.association.State.TheVariants.{Waiting, Open}
use Rattle.dq_assoc.specs.Steps.{AssociationStep}
use Rattle.dq_assoc.specs.declared.association.Verdict.{Verdict}
use Rattle.dq_assoc.specs.declared.association.Verdict.TheVariants.{Nowhere}
use Rattle.dq_assoc.specs.Table.{Input, Requested, Line, line, answer_octets}
use Rattle.dq_assoc.specs.declared.agreement.Agreement.{Agreement}
use Rattle.dq_assoc.specs.declared.association.Held.{Held as HeldAssociation}
use Rattle.dq_assoc.specs.declared.association.Held.TheVariants as code
use Rattle.dq_assoc.specs.declared.association.Step.{Step as HeldStep}
use Rattle.dq_assoc.specs.After.{state_of, is_closed, assembly_for, association_from, inputs_from}
use Rattle.dq_assoc.specs.Holding.{IsStep, Stands, WasGivenPdus, accepted_in, held_state}
use Rattle.dq_assoc.specs.Inputs.{inputs_after}
use Rattle.dq_assoc.specs.Negotiation.{agreement_of, context_ids}
use Rattle.dq_assoc.specs.Steps.{step_of, open_outcome, step_of_inputs}
use Rattle.dq_config.specs.declared.config.Institution.{Institution}
use Rattle.dq_core.specs.Effects.{Taken, taken_at_request, taken_inputs}
use Rattle.dq_core.specs.Slots.{IsTaken}
use Rattle.dq_core.proofs.isolation.Requests.{nowhere-closes}

-- a request that is accepted has an owner
pub accepted-owned : (owner : Option Institution) (verdict : Verdict) (r : Request) → (owner ≡ None → verdict ≡ Nowhere)
    → is_closed (line Waiting verdict (Requested r)).next ≡ false → IsSome owner
accepted-owned (Some i) verdict r f e = refl
accepted-owned None verdict r f e =
    absurd (false≢true (sym e ∙ ap (λ (v : Verdict). is_closed (line Waiting v (Requested r)).next) (f refl) ∙ nowhere-closes r))

-- what stands in a request's place closes, and nothing comes after it
pub record Misplaced (verdict : Verdict) (association : HeldState) (pdus : List Pdu) (fault : Option PduFault) (step : AssociationStep) : Type 0 where
  pub taken_is : taken_inputs verdict Waiting (inputs_from association pdus fault) ≡ record { opening = []; step = step }
  pub messages_are : step.messages ≡ []
  pub closes : step.close ≡ true

at-first : (verdict : Verdict) (p : Pdu) (ps : List Pdu) (fault : Option PduFault) → ((r : Request) → p ≡ request_pdu r → ⊥)
    → Misplaced verdict held.Waiting (p ∷ ps) fault (step_of_inputs Waiting (inputs_from held.Waiting (p ∷ []) None))
at-first verdict (request_pdu r) ps fault n = absurd (n r refl)
at-first verdict p ps fault n = record { taken_is = refl; messages_are = refl; closes = refl }

pub misplaced : (verdict : Verdict) (a : HeldState) (pdus : List Pdu) (p : Pdu) (fault : Option PduFault) (step : AssociationStep) → state_of a ≡ Waiting
    → 0 < length pdus → p ≡ get_or pdus 0 p → ((r : Request) → p ≡ request_pdu r → ⊥)
    → step ≡ step_of_inputs (state_of a) (inputs_from a (p ∷ []) None) → Misplaced verdict a pdus fault step
misplaced verdict held.Waiting (q ∷ qs) p fault step w l e n s = rw (s, e) (at-first verdict q qs fault (rw e at n))
misplaced verdict held.Waiting [] p fault step w l e n s = absurd (omega arith)
misplaced verdict a pdus p fault step w l e n s = absurd (cc)

-- ---- what is held of an association

abbrev pub InParts : Type 0
InParts = (pdus more : List Pdu) (association : HeldState)
    → association_from association (pdus ++ more) ≡ association_from (association_from association pdus) more

pub given_more : InParts → (before more pdus : List Pdu) (h : HeldAssociation) → more ≡ pdus
    → Stands h (association_from (association_from held.Waiting before) more) → WasGivenPdus (before ++ pdus) h
given_more law before more pdus h e s = record {
  stands = subst (Stands h) (ap (association_from (association_from held.Waiting before)) e ∙ sym (law before pdus held.Waiting)) s;
}

pub waiting_stands : (h : HeldAssociation) → held_state h ≡ Waiting → Stands h held.Waiting
waiting_stands code.Waiting e = refl
waiting_stands (code.Open agreement holding) e = absurd cc
waiting_stands (code.Closed agreement) e = absurd cc

-- nothing came, or what came stands in a request's place
pub taken_alone : (accepted : Option Agreement) (verdict : Verdict) (association : HeldState) (pdus : List Pdu) (fault : Option PduFault) (opening : List ℕ)
    (held_step : HeldStep) (step : AssociationStep) → opening ≡ []
    → taken_inputs verdict Waiting (inputs_from association pdus fault) ≡ record { opening = []; step = step } → IsStep (accepted_in accepted) held_step step
    → IsTaken accepted (record { opening = opening; step = held_step }) (taken_inputs verdict Waiting (inputs_from association pdus fault))
taken_alone accepted verdict association pdus fault opening held_step step e is stands =
    subst (IsTaken accepted (record { opening = opening; step = held_step })) (sym is) (record { opening = e; step = stands })

-- ---- a request

-- what stands for no message is none
pub none_held : (accepted : List Accepted) (helds : List HeldMessage) → AllRefine accepted helds [] → helds ≡ []
none_held accepted [] stand = refl
none_held accepted (held ∷ helds) stand = absurd stand

refused-line : (l : Line) (later : List Input) → is_closed l.next ≡ true → taken_at_request l later ≡ record { opening = []; step = step_of l }
refused-line l later e = rw e refl

opened-line : (l : Line) (later : List Input) → is_closed l.next ≡ false
    → taken_at_request l later ≡ record { opening = answer_octets l.answer; step = open_outcome later }
opened-line l later e = rw e refl

-- the association whose request was accepted
opened-first : (request : Request)
    → association_from held.Waiting (request_pdu request ∷ []) ≡ held.Open (agreement_of request) (assembly_for request)
opened-first request = rw (assembly_from-nil (assembly_for request)) refl

module _ (verdict : Verdict) (request : Request) (pdus : List Pdu) (fault : Option PduFault) where
  abbrev first_line : Line
  first_line = line Waiting verdict (Requested request)

  abbrev later_inputs : List Input
  later_inputs = inputs_after (context_ids (agreement_of request)) (map role_of pdus) fault

  abbrev all_taken : Taken
  all_taken = taken_inputs verdict Waiting (inputs_from held.Waiting (request_pdu request ∷ pdus) fault)

  -- one that is refused closes, and nothing comes after it
  pub taken_refused : (agreement : Option Agreement) (opening : List ℕ) (first : HeldStep) → opening ≡ []
      → ((accepted : List Accepted) → IsStep accepted first (step_of first_line)) → first.close ≡ true
      → IsTaken agreement (record { opening = opening; step = first }) all_taken
  taken_refused agreement opening first e is closes =
      subst (IsTaken agreement (record { opening = opening; step = first })) (sym (refused-line first_line later_inputs (sym (is []).close ∙ closes)))
      (record { opening = e; step = is (accepted_in agreement) })

  -- one that is accepted, and what comes after it
  pub taken_accepted : (old new : Option Agreement) (first later : HeldStep) (items : List Pdu) → new ≡ old → items ≡ pdus
      → IsStep [] first (step_of first_line) → first.close ≡ false
      → IsStep (accepted_in old) later (step_of_inputs Open (inputs_from (association_from held.Waiting (request_pdu request ∷ [])) items fault))
      → IsTaken new (record { opening = first.octets; step = later }) all_taken
  taken_accepted old new first later items same e is opens goes_on =
      let opened_on = subst (λ (h : HeldState). IsStep (accepted_in old) later (step_of_inputs Open (inputs_from h items fault))) (opened-first request) goes_on in
      let all_of = subst (λ (ps : List Pdu). IsStep (accepted_in old) later
      (step_of_inputs Open (inputs_from (held.Open (agreement_of request) (assembly_for request)) ps fault))) e opened_on in
      subst (IsTaken new (record { opening = first.octets; step = later })) (sym (opened-line first_line later_inputs (sym is.close ∙ opens)))
      (record {
        opening = is.octets;
        step = subst (λ (a : Option Agreement). IsStep (accepted_in a) later (open_outcome later_inputs)) (sym same) all_of;
      })

-- ---- no PDU

pub nothing_stands : (accepted : List Accepted) (close : Bool) (first : HeldStep) → first ≡ record { messages = []; octets = []; close = close; end = None }
    → IsStep accepted first (record { messages = []; octets = []; close = close; end = None })
nothing_stands accepted close first e = rw e (record { messages = tt; octets = refl; close = refl; end = refl })

pub taken_none : (agreement : Option Agreement) (verdict : Verdict) (pdus : List Pdu) (fault : Option PduFault) (opening : List ℕ) (first : HeldStep)
    → pdus ≡ [] → opening ≡ [] → IsStep (accepted_in agreement) first (step_of_inputs Waiting (inputs_from held.Waiting [] fault))
    → IsTaken agreement (record { opening = opening; step = first }) (taken_inputs verdict Waiting (inputs_from held.Waiting pdus fault))
taken_none agreement verdict pdus None opening first none e is = rw none (record { opening = e; step = is })
taken_none agreement verdict pdus (Some fault) opening first none e is = rw none (record { opening = e; step = is })
