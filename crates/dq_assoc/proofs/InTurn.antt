-- PDUs that an open association takes in turn, and what they have led to so far.
use Rattle.std.proofs.Common.{◌≡◌, true, false, IsTrue, List, [], ◌∷◌, ◌++◌, map, Option, None, Result, Ok, Err, IfOk, refl, sym, ap, subst, ◌∙◌, append_assoc, arith}
use Rattle.std.proofs.lemmas.List.{map-append}
use Rattle.std.specs.declared.alloc.AllocError.{AllocError}
use Rattle.dq_pdu.specs.declared.pdu.Pdu.{Pdu}
use Rattle.dq_pdu.specs.declared.fault.PduFault.{PduFault}
use Rattle.dq_assoc.specs.Roles.{role_of}
use Rattle.dq_dimse.specs.declared.assembler.Accepted.{Accepted}
use Rattle.dq_dimse.specs.declared.command.Message.{Message as HeldMessage}
use Rattle.dq_dimse.specs.declared.fault.DimseFault.{DimseFault}
use Rattle.dq_dimse.specs.Assembling.{Assembly, spent_by}
use Rattle.dq_dimse.specs.Holding.{AllRefine}
use Rattle.dq_dimse.specs.Received.{Message}
use Rattle.dq_dimse.proofs.Assemblies.{assembly_from-nil}
use Rattle.dq_dimse.proofs.Holdings.{stand_append}
use Rattle.dq_assoc.specs.declared.agreement.Agreement.{Agreement}
use Rattle.dq_assoc.specs.declared.association.Held.{Held as HeldAssociation}
use Rattle.dq_assoc.specs.declared.association.Held.TheVariants as code
use Rattle.dq_assoc.specs.declared.association.State.TheVariants.{Open}
use Rattle.dq_assoc.specs.declared.association.Step.{Step as HeldStep}
use Rattle.dq_assoc.specs.Associations.{HeldState}
use Rattle.dq_assoc.specs.Associations as held
use Rattle.dq_assoc.specs.Table.{Input, Requested, Sent, Released, PeerAborted, Stray, Bad}
use Rattle.dq_assoc.specs.After.{state_of, is_closed, is_sound_association, open_if, association_by, association_from, inputs_from}
use Rattle.dq_assoc.specs.Holding.{Stands, IsStep, accepted_in, held_agreement, held_state, is_unspent}
use Rattle.dq_assoc.specs.Steps.{AssociationStep, with_message, after_messages, open_outcome, step_of_inputs}
use Rattle.dq_assoc.proofs.FromHere.{inputs-cons, association-append}
use Rattle.dq_assoc.proofs.Sound.{none_is}
use Rattle.dq_assoc.proofs.HeldAssociations.{after_stands, stands_sound, stands_state}

-- inputs that don't close are messages, and what comes later comes after these
unclosed : (first later : List Input) → (open_outcome first).close ≡ false
    → open_outcome (first ++ later) ≡ after_messages (open_outcome first).messages (open_outcome later)
unclosed [] later e = refl
unclosed (Sent message ∷ first) later e = ap (with_message message) (unclosed first later e)
unclosed (Requested request ∷ first) later e = absurd cc
unclosed (Released ∷ first) later e = absurd cc
unclosed (PeerAborted source reason ∷ first) later e = absurd cc
unclosed (Stray ∷ first) later e = absurd cc
unclosed (Bad reason ∷ first) later e = absurd cc

after-both : (list more : List Message) (step : AssociationStep) → after_messages (list ++ more) step ≡ after_messages list (after_messages more step)
after-both list more step =
    ap (λ (messages : List Message). record step { messages = messages }) (append_assoc list more step.messages)

-- inputs that close end what comes after them
closes : (first later : List Input) → (open_outcome first).close ≡ true → open_outcome (first ++ later) ≡ open_outcome first
closes [] later e = absurd cc
closes (Sent message ∷ first) later e = ap (with_message message) (closes first later e)
closes (Requested request ∷ first) later e = refl
closes (Released ∷ first) later e = refl
closes (PeerAborted source reason ∷ first) later e = refl
closes (Stray ∷ first) later e = refl
closes (Bad reason ∷ first) later e = refl

unopened : (a : Agreement) (s : Assembly) → spent_by s ≡ None → open_if (spent_by s) a s ≡ held.Open a s
unopened a s e = ap (λ (f : Option DimseFault). open_if f a s) e

-- no PDUs leave an association as it is
stays : (h : HeldState) → IsTrue (is_sound_association h) → association_from h [] ≡ h
stays held.Waiting sound = refl
stays (held.Open a s) sound =
    ap (λ (t : Assembly). open_if (spent_by t) a t) (assembly_from-nil s) ∙ unopened a s (none_is (spent_by s) sound)
stays (held.Closed agreed) sound = refl

-- PDUs that were taken, their messages, and the PDUs that are left
pub record HasTaken (accepted : List Accepted) (helds : List HeldMessage) (now : HeldAssociation) (fault : Option PduFault) (left done all : List Pdu)
    (first : HeldState) : Type 0 where
  pub list : List Message
  pub association : HeldState
  pub stand : AllRefine accepted helds list
  pub stands : Stands now association
  pub is : association ≡ association_from first done
  pub leads : after_messages list (open_outcome (inputs_from association left fault)) ≡ open_outcome (inputs_from first all fault)

pub record TookSome (old now : HeldAssociation) (helds : List HeldMessage) (fault : Option PduFault) (all done left : List Pdu) : Type 0 where
  pub is_open : held_state now ≡ Open
  pub parts : all ≡ done ++ left
  pub agrees : held_agreement now ≡ held_agreement old
  pub takes : (a : HeldState) → Stands old a → HasTaken (accepted_in (held_agreement old)) helds now fault left done all a

pub took_none : (old : HeldAssociation) (helds : List HeldMessage) (fault : Option PduFault) (all left : List Pdu) → held_state old ≡ Open
    → IsTrue (is_unspent old) → helds ≡ [] → left ≡ all → TookSome old old helds fault all [] left
took_none old helds fault all left opens unspent e l = record {
  is_open = opens;
  parts = sym l;
  agrees = refl;
  takes = λ a h. record {
    list = [];
    association = a;
    stand = subst (λ (hs : List HeldMessage). AllRefine (accepted_in (held_agreement old)) hs []) (sym e) tt;
    stands = h;
    is = sym (stays a (stands_sound old a h unspent));
    leads = ap (λ (pdus : List Pdu). open_outcome (inputs_from a pdus fault)) l;
  };
}

-- a PDU that was taken
pub record TookOne (now new : HeldAssociation) (pdu : Pdu) (step : HeldStep) : Type 0 where
  pub leads : (a : HeldState) → Stands now a
      → IsStep (accepted_in (held_agreement now)) step (step_of_inputs (state_of a) (inputs_from a (pdu ∷ []) None))
  pub closes : step.close ≡ is_closed (held_state new)
  pub next : (a : HeldState) → Stands now a → Stands new (association_from a (pdu ∷ []))
  pub agrees : held_agreement new ≡ held_agreement now

stays_open : (now new : HeldAssociation) → held_state now ≡ Open → is_closed (held_state new) ≡ false → held_agreement new ≡ held_agreement now
    → held_state new ≡ Open
stays_open code.Waiting new o u e = absurd cc
stays_open (code.Open a s) code.Waiting o u e = absurd cc
stays_open (code.Open a s) (code.Open b t) o u e = refl
stays_open (code.Open a s) (code.Closed agreed) o u e = absurd cc
stays_open (code.Closed agreed) new o u e = absurd cc

-- what one PDU more leads to
one_leads : (now new : HeldAssociation) (pdu : Pdu) (step : HeldStep) (old_agreement : Option Agreement) (a : HeldState) → held_state now ≡ Open
    → held_agreement now ≡ old_agreement → TookOne now new pdu step → Stands now a
    → IsStep (accepted_in old_agreement) step (open_outcome (inputs_from a (pdu ∷ []) None))
one_leads now new pdu step agreement a opens agrees t h = grind (arith, stands_state)

pub took_more : (old now new : HeldAssociation) (helds longer : List HeldMessage) (fault : Option PduFault) (all done left later : List Pdu) (pdu : Pdu)
    (step : HeldStep) → TookSome old now helds fault all done left → left ≡ pdu ∷ later → TookOne now new pdu step → step.close ≡ false
    → longer ≡ helds ++ step.messages → TookSome old new longer fault all (done ++ pdu ∷ []) later
took_more old now new helds longer fault all done left later pdu step so l t c e = record {
  is_open = stays_open now new so.is_open (sym t.closes ∙ c) t.agrees;
  parts = so.parts ∙ ap (λ (pdus : List Pdu). done ++ pdus) l ∙ sym (append_assoc done (pdu ∷ []) later);
  agrees = t.agrees ∙ so.agrees;
  takes = λ a h.
      let k = so.takes a h in
      let here = k.association in
      let first = inputs_from here (pdu ∷ []) None in
      let next = association_from here (pdu ∷ []) in
      let is = one_leads now new pdu step (held_agreement old) here so.is_open so.agrees t k.stands in
      record {
        list = k.list ++ (open_outcome first).messages;
        association = next;
        stand = subst (λ (hs : List HeldMessage). AllRefine (accepted_in (held_agreement old)) hs (k.list ++ (open_outcome first).messages)) (sym e)
            (stand_append (accepted_in (held_agreement old)) helds step.messages k.list (open_outcome first).messages k.stand is.messages);
        stands = t.next here k.stands;
        is = ap (λ (x : HeldState). association_from x (pdu ∷ [])) k.is ∙ sym (association-append a (map role_of done) (map role_of (pdu ∷ [])))
            ∙ ap (association_by a) (sym (map-append role_of done (pdu ∷ [])));
        leads = after-both k.list (open_outcome first).messages (open_outcome (inputs_from next later fault))
            ∙ ap (after_messages k.list) (sym (unclosed first (inputs_from next later fault) (sym is.close ∙ c)))
            ∙ ap (λ (inputs : List Input). after_messages k.list (open_outcome inputs))
            (sym (inputs-cons here (role_of pdu) (map role_of later) fault))
            ∙ ap (λ (pdus : List Pdu). after_messages k.list (open_outcome (inputs_from here pdus fault))) (sym l)
            ∙ k.leads;
      };
}

-- one that closes
pub took_last : (old now new : HeldAssociation) (helds : List HeldMessage) (fault : Option PduFault) (all done left later : List Pdu) (pdu : Pdu)
    (step : HeldStep) (result : Result HeldStep AllocError) → TookSome old now helds fault all done left → left ≡ pdu ∷ later → TookOne now new pdu step
    → step.close ≡ true
    → IfOk result (λ (held : HeldStep). held ≡ record step { messages = helds ++ step.messages })
    → (a : HeldState) → Stands old a → IfOk result (λ (held : HeldStep). IsStep (accepted_in (held_agreement old)) held (open_outcome (inputs_from a all fault)))
took_last old now new helds fault all done left later pdu step (Ok held) so l t c e a h =
    grind (arith, one_leads, closes, inputs-cons, after_stands)
took_last old now new helds fault all done left later pdu step (Err error) so l t c e a h = tt
