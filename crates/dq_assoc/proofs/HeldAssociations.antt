-- What the code holds of an association, and the association that it stands for.
use Rattle.std.proofs.Common.{◌≡◌, ℕ, Bool, true, false, IsTrue, ◌+◌, ◌<◌, List, [], ◌∷◌, ◌++◌, length, get_or, drop, map, Option, Some, None, Result, Ok, Err, IfOk, OnOk, refl, sym, ap, subst, ◌∙◌, arith}
use Rattle.std.specs.Prelude.{is_none, is_some, option_map}
use Rattle.std.proofs.lemmas.List.{append-nil}
use Rattle.std.specs.declared.alloc.AllocError.{AllocError}
use Rattle.dq_pdu.specs.declared.fault.PduFault.{PduFault}
use Rattle.dq_pdu.specs.declared.pdu.Pdu.TheVariants.{Request as request_pdu}
use Rattle.dq_pdu.specs.declared.pdu.Pdv.{Pdv}
use Rattle.dq_pdu.specs.declared.pdu.Request.{Request}
use Rattle.dq_assoc.specs.Roles.{Role}
use Rattle.dq_assoc.specs.Roles.{Carries}
use Rattle.dq_dimse.specs.declared.fault.DimseFault.{DimseFault}
use Rattle.dq_dimse.specs.declared.command.Message.{Message as HeldMessage}
use Rattle.dq_dimse.specs.Received.{Message}
use Rattle.dq_dimse.specs.declared.assembler.Accepted.{Accepted}
use Rattle.dq_dimse.specs.Assembling.{Assembly, Messages, spent_by, new_assembly, assembly_from, messages_from}
use Rattle.dq_dimse.specs.Holding.{Holding, AddsMessage, Assembles, AllRefine, spent_with, accepted_ids as ids_accepted, WasGivenPdvs}
use Rattle.dq_dimse.proofs.Assemblies.{assembly_from-nil}
use Rattle.dq_dimse.proofs.Holdings.{assembles_fault, stand_append}
use Rattle.dq_assoc.specs.declared.agreement.AcceptedContext.{AcceptedContext}
use Rattle.dq_assoc.specs.declared.agreement.Agreement.{Agreement}
use Rattle.dq_assoc.specs.declared.association.Held.{Held as HeldAssociation}
use Rattle.dq_assoc.specs.declared.association.Held.TheVariants as code
use Rattle.dq_assoc.specs.declared.association.Step.{Step as HeldStep}
use Rattle.dq_assoc.specs.declared.association.State.{State}
use Rattle.dq_assoc.specs.declared.association.State.TheVariants as state
use Rattle.dq_assoc.specs.declared.association.Verdict.TheVariants as verdict
use Rattle.dq_assoc.specs.Associations.{HeldState}
use Rattle.dq_assoc.specs.Associations as held
use Rattle.dq_assoc.specs.Negotiation.{agreement_of, context_ids}
use Rattle.dq_assoc.specs.After.{state_of, is_closed, agreement_in, is_sound_association, association_at, association_by, assembly_for, open_if, inputs_by, inputs_from}
use Rattle.dq_assoc.specs.Inputs.{closing_input}
use Rattle.dq_assoc.specs.declared.association_end.AssociationEnd.{AssociationEnd}
use Rattle.dq_assoc.specs.declared.negotiation.Rejection.{Rejection}
use Rattle.dq_assoc.specs.AssociationEnds.{last_pdu}
use Rattle.dq_assoc.specs.Table.{line, requested_line, answer_octets}
use Rattle.dq_assoc.specs.Holding.{Stands, IsStep, accepted_by, accepted_in, assembler_context, held_state, held_agreement, is_unspent, WasGivenPdus}
use Rattle.dq_assoc.specs.Steps.{AssociationStep, pdvs_step, invalid_abort, step_of, step_of_inputs, open_outcome, after_messages, closing, fault_end}
use Rattle.dq_assoc.proofs.Sound.{nothing-added, fault-outcome, values-carried, role-closes, role-closed}
use Rattle.dq_assoc.proofs.OnePdu.{requested-open}
use Rattle.dq_assoc.proofs.Values.{ReadSo, none-read, one-read, fault-read, all-read}

pub stands_state : (h : HeldAssociation) (a : HeldState) → Stands h a → held_state h ≡ state_of a
stands_state code.Waiting a s = ap state_of (sym s)
stands_state (code.Open agreement holding) a s = ap state_of (sym s.1)
stands_state (code.Closed agreement) a s = ap state_of (sym s)

pub stands_agreement : (h : HeldAssociation) (a : HeldState) → Stands h a → held_agreement h ≡ agreement_in a
stands_agreement code.Waiting a s = ap agreement_in (sym s)
stands_agreement (code.Open agreement holding) a s = ap agreement_in (sym s.1)
stands_agreement (code.Closed agreement) a s = ap agreement_in (sym s)

pub stands_sound : (h : HeldAssociation) (a : HeldState) → Stands h a → IsTrue (is_unspent h) → IsTrue (is_sound_association a)
stands_sound code.Waiting a s unspent = subst (λ (x : HeldState). IsTrue (is_sound_association x)) (sym s) refl
stands_sound (code.Open agreement holding) a s unspent =
    subst (λ (x : HeldState). IsTrue (is_sound_association x)) (sym s.1) (subst (λ o. IsTrue (is_none o)) (sym (assembles_fault holding s.0 s.2)) unspent)
stands_sound (code.Closed agreement) a s unspent = subst (λ (x : HeldState). IsTrue (is_sound_association x)) (sym s) refl

pub ids_same : (contexts : List AcceptedContext) → map (λ (c : AcceptedContext). c.id) contexts ≡ ids_accepted (map assembler_context contexts)
ids_same [] = refl
ids_same (c ∷ cs) = ap (λ (ids : List ℕ). c.id ∷ ids) (ids_same cs)

-- an assembler for what was agreed on
pub opened_stands : (agreement : Agreement) (accepted : List Accepted) (holding : Holding) → accepted ≡ accepted_by agreement
    → WasGivenPdvs accepted [] holding → Stands (code.Open agreement holding) (held.Open agreement (new_assembly (context_ids agreement)))
opened_stands agreement accepted holding e given =
    let is : assembly_from (new_assembly (ids_accepted accepted)) [] ≡ new_assembly (context_ids agreement) =
    assembly_from-nil (new_assembly (ids_accepted accepted)) ∙ ap (λ (xs : List Accepted). new_assembly (ids_accepted xs)) e
    ∙ ap new_assembly (sym (ids_same agreement.contexts)) in
    (new_assembly (context_ids agreement), refl, subst (Assembles holding) is given.stands, given.accepted_are ∙ e)

-- a step without messages
pub bare_step : (held : HeldStep) (step : AssociationStep) (accepted : List Accepted) → held.messages ≡ [] → step.messages ≡ [] → held.octets ≡ step.octets
    → held.close ≡ step.close → held.end ≡ step.end → IsStep accepted held step
bare_step held step accepted e f octets close end = record {
  messages = subst (λ ms. AllRefine accepted held.messages ms) (sym f) (subst (λ hs. AllRefine accepted hs []) (sym e) tt);
  octets = octets;
  close = close;
  end = end;
}

-- ---- steps

abbrev IsClosing : Result HeldStep AllocError → List HeldMessage → Option AssociationEnd → Type 0
IsClosing result list end =
    IfOk result (λ (step : HeldStep). step ≡ record { messages = list; octets = answer_octets (last_pdu end); close = true; end = end })

abbrev Leads : Result HeldStep AllocError → AssociationStep → Type 0
Leads result step = IfOk result (λ (held : HeldStep). (accepted : List Accepted) → IsStep accepted held step)

-- a step that closes by an end
pub closing_leads : (result : Result HeldStep AllocError) (list : List HeldMessage) (end other : Option AssociationEnd) (step : AssociationStep)
    → IsClosing result list end → list ≡ [] → end ≡ other → closing other ≡ step → Leads result step
closing_leads (Ok held) list end other step is e f to = grind (arith, bare_step)
closing_leads (Err error) list end other step is e f to = tt

pub fault_leads : (result : Result HeldStep AllocError) (list : List HeldMessage) (end : Option AssociationEnd) (h : HeldState) (fault : PduFault)
    → IsClosing result list end → list ≡ [] → end ≡ fault_end (state_of h) fault → IsTrue (is_sound_association h) → Leads result (step_of_inputs (state_of h) (inputs_by h [] (Some fault)))
fault_leads result list end h fault is e f sound =
    closing_leads result list end (fault_end (state_of h) fault) (step_of_inputs (state_of h) (inputs_by h [] (Some fault))) is e f (fault-outcome h fault sound)

-- messages, and a step after them
pub after_stands : (accepted : List Accepted) (helds : List HeldMessage) (before : List Message) (held : HeldStep) (step : AssociationStep)
    → AllRefine accepted helds before → IsStep accepted held step
    → IsStep accepted (record held { messages = helds ++ held.messages }) (after_messages before step)
after_stands accepted helds before held step h is = record {
  messages = stand_append accepted helds held.messages before step.messages h is.messages;
  octets = is.octets;
  close = is.close;
  end = is.end;
}

pub after_some : (accepted : List Accepted) (helds : List HeldMessage) (before : List Message) (result : Result HeldStep AllocError) (last : HeldStep) (step : AssociationStep)
    → IfOk result (λ (held : HeldStep). held ≡ record last { messages = helds ++ last.messages })
    → AllRefine accepted helds before → IsStep accepted last step → IfOk result (λ (held : HeldStep). IsStep accepted held (after_messages before step))
after_some accepted helds before (Ok held) last step e h is =
    subst (λ (x : HeldStep). IsStep accepted x (after_messages before step)) (sym e) (after_stands accepted helds before last step h is)
after_some accepted helds before (Err error) last step e h is = tt

-- messages, and nothing after them
pub after_none : (accepted : List Accepted) (helds all : List HeldMessage) (before : List Message) (octets : List ℕ) (h : HeldState) (fault : Option PduFault)
    → IsTrue (is_sound_association h) → fault ≡ None → all ≡ helds → octets ≡ [] → AllRefine accepted helds before
    → IsStep accepted (record { messages = all; octets = octets; close = false; end = None }) (after_messages before (open_outcome (inputs_from h [] fault)))
after_none accepted helds all before octets h fault sound f e o stand =
    let nothing : inputs_from h [] fault ≡ [] = ap (λ (g : Option PduFault). inputs_from h [] g) f ∙ nothing-added h sound in
    subst (λ inputs. IsStep accepted (record { messages = all; octets = octets; close = false; end = None }) (after_messages before (open_outcome inputs))) (sym nothing)
    (record {
      messages = subst (λ (ms : List Message). AllRefine accepted all ms) (sym (append-nil before))
          (subst (λ (hs : List HeldMessage). AllRefine accepted hs before) (sym e) stand);
      octets = o;
      close = refl;
      end = refl;
    })

-- ---- the request

pub accepted_given : (result : Result HeldStep AllocError) (request : Request) (rejected : Option Rejection) (new : HeldAssociation)
    → let l = requested_line request rejected in
    IfOk result (λ (step : HeldStep). (accepted : List Accepted) → IsStep accepted step (step_of l))
    → OnOk result (Stands new (association_at l.next request))
    → IfOk result (λ (step : HeldStep). step.close ≡ false → WasGivenPdus (request_pdu request ∷ []) new)
accepted_given (Ok step) request rejected new e x = λ unclosed.
    let l = requested_line request rejected in
    let is_open : l.next ≡ state.Open = requested-open request rejected (sym (e []).close ∙ unclosed) in
    let here : Stands new (held.Open (agreement_of request) (assembly_for request)) =
    subst (λ (s : State). Stands new (association_at s request)) is_open x in
    record {
      stands = subst (Stands new)
          (ap (λ (s : Assembly). open_if (spent_by s) (agreement_of request) s) (sym (assembly_from-nil (assembly_for request)))) here;
    }
accepted_given (Err error) request rejected new e x = tt

-- ---- values

-- a message that a value completes
pub took_message : (accepted : List Accepted) (helds new : List HeldMessage) (before : List Message) (found : Option HeldMessage) (held : HeldMessage) (read : Messages)
    → found ≡ Some held → AddsMessage accepted (Ok found) [] read → AllRefine accepted helds before → new ≡ helds ++ held ∷ []
    → AllRefine accepted new (before ++ read.list)
took_message accepted helds new before None held read e adds stand is = absurd cc
took_message accepted helds new before (Some other) held read e adds stand is = grind (arith, stand_append)

-- what was read so far stands for what the definitions read
pub record HasRead (accepted : List Accepted) (helds : List HeldMessage) (now : Holding) (left : List Pdv) (first : Assembly) (all : List Pdv) : Type 0 where
  pub list : List Message
  pub assembly : Assembly
  pub stand : AllRefine accepted helds list
  pub assembles : Assembles now assembly
  pub so : ReadSo list assembly left first all

pub record Reads (initial : Holding) (helds : List HeldMessage) (now : Holding) (left all : List Pdv) : Type 0 where
  pub unspent : spent_with now ≡ None
  pub keeps : now.accepted ≡ initial.accepted
  pub reads : (a : Assembly) → Assembles initial a → HasRead now.accepted helds now left a all

pub none_reads : (initial : Holding) (helds : List HeldMessage) (all : List Pdv) → helds ≡ [] → spent_with initial ≡ None → Reads initial helds initial all all
none_reads initial helds all e unspent = record {
  unspent = unspent;
  keeps = refl;
  reads = λ a h. record {
    list = [];
    assembly = a;
    stand = subst (λ (hs : List HeldMessage). AllRefine initial.accepted hs []) (sym e) tt;
    assembles = h;
    so = none-read [] a all refl (assembles_fault initial a h ∙ unspent);
  };
}

-- what a value that was taken did
pub record TookValue (old new : Holding) (helds longer : List HeldMessage) (pdv : Pdv) (is_faulty : Bool) : Type 0 where
  pub messages : (a : Assembly) (before : List Message) → Assembles old a → AllRefine old.accepted helds before
      → AllRefine old.accepted longer (before ++ (messages_from a (pdv ∷ [])).list)
  pub fault : (a : Assembly) → Assembles old a → is_faulty ≡ is_some (messages_from a (pdv ∷ [])).fault
  pub next : (a : Assembly) → Assembles old a → is_faulty ≡ false → Assembles new (assembly_from a (pdv ∷ []))
  pub unspent : is_faulty ≡ false → spent_with new ≡ None
  pub keeps : new.accepted ≡ old.accepted

pub one_reads : (initial now new : Holding) (helds longer : List HeldMessage) (all : List Pdv) (i : ℕ) (pdv : Pdv) (is_faulty : Bool)
    → Reads initial helds now (drop i all) all → i < length all → pdv ≡ get_or all i pdv → TookValue now new helds longer pdv is_faulty
    → is_faulty ≡ false → Reads initial longer new (drop (i + 1) all) all
one_reads initial now new helds longer all i pdv is_faulty so lt is t e = record {
  unspent = t.unspent e;
  keeps = t.keeps ∙ so.keeps;
  reads = λ a h.
      let r = so.reads a h in
      let read = messages_from r.assembly (pdv ∷ []) in
      record {
        list = r.list ++ read.list;
        assembly = assembly_from r.assembly (pdv ∷ []);
        stand = subst (λ (xs : List Accepted). AllRefine xs longer (r.list ++ read.list)) (sym t.keeps)
            (t.messages r.assembly r.list r.assembles r.stand);
        assembles = t.next r.assembly r.assembles e;
        so = one-read r.list (r.list ++ read.list) r.assembly (assembly_from r.assembly (pdv ∷ [])) a all all i pdv r.so lt is refl
            (sym e ∙ t.fault r.assembly r.assembles) refl;
      };
}

-- a value that is faulty
pub record ReadsFault (initial : Holding) (longer : List HeldMessage) (all : List Pdv) : Type 0 where
  pub messages : (a : Assembly) → Assembles initial a → AllRefine initial.accepted longer (messages_from a all).list
  pub fault : (a : Assembly) → Assembles initial a → true ≡ is_some (messages_from a all).fault

pub fault_reads : (initial now new : Holding) (helds longer : List HeldMessage) (all : List Pdv) (i : ℕ) (pdv : Pdv) (is_faulty : Bool)
    → Reads initial helds now (drop i all) all → i < length all → pdv ≡ get_or all i pdv → TookValue now new helds longer pdv is_faulty
    → is_faulty ≡ true → ReadsFault initial longer all
fault_reads initial now new helds longer all i pdv is_faulty so lt is t e =
    let ends = λ (a : Assembly) (h : Assembles initial a).
    let r = so.reads a h in
    fault-read r.list (r.list ++ (messages_from r.assembly (pdv ∷ [])).list) r.assembly a all all i pdv r.so lt is refl
    (sym e ∙ t.fault r.assembly r.assembles) in
    record {
      messages = λ a h.
          let r = so.reads a h in
          subst (λ (ms : List Message). AllRefine initial.accepted longer ms) (ends a h).messages_are
          (subst (λ (xs : List Accepted). AllRefine xs longer (r.list ++ (messages_from r.assembly (pdv ∷ [])).list)) so.keeps
          (t.messages r.assembly r.list r.assembles r.stand));
      fault = λ a h. (ends a h).fault_is;
    }

-- all values
pub record ReadsAll (initial : Holding) (helds : List HeldMessage) (now : Holding) (all : List Pdv) : Type 0 where
  pub messages : (a : Assembly) → Assembles initial a → AllRefine initial.accepted helds (messages_from a all).list
  pub fault : (a : Assembly) → Assembles initial a → false ≡ is_some (messages_from a all).fault
  pub next : (a : Assembly) → Assembles initial a → Assembles now (assembly_from a all)

pub all_reads : (initial now : Holding) (helds : List HeldMessage) (left all : List Pdv) → Reads initial helds now left all → left ≡ []
    → ReadsAll initial helds now all
all_reads initial now helds left all so e =
    let ends = λ (a : Assembly) (h : Assembles initial a).
    let r = so.reads a h in all-read r.list r.assembly a left all r.so e in
    record {
      messages = λ a h. subst (λ (ms : List Message). AllRefine initial.accepted helds ms) (ends a h).messages_are
          (subst (λ (xs : List Accepted). AllRefine xs helds (so.reads a h).list) so.keeps (so.reads a h).stand);
      fault = λ a h. (ends a h).fault_is;
      next = λ a h. subst (Assembles now) (ends a h).next_is (so.reads a h).assembles;
    }

pub on_ok : (result : Result HeldStep AllocError) (x y : HeldState) → x ≡ y → OnOk result (x ≡ y)
on_ok (Ok step) x y e = e
on_ok (Err error) x y e = tt

-- ---- P-DATA

unfaulty : (f : Option DimseFault) → is_some f ≡ false → f ≡ None
unfaulty None e = refl
unfaulty (Some fault) e = absurd cc

pub pdvs_read : (accepted : List Accepted) (helds : List HeldMessage) (octets : List ℕ) (read : Messages) → AllRefine accepted helds read.list
    → octets ≡ [] → is_some read.fault ≡ false → IsStep accepted (record { messages = helds; octets = octets; close = false; end = None }) (pdvs_step read)
pdvs_read accepted helds octets read stand e f = record {
  messages = stand;
  octets = e ∙ ap (λ (d : Option DimseFault). answer_octets (last_pdu (option_map invalid_abort d))) (sym (unfaulty read.fault f));
  close = sym f;
  end = ap (λ (d : Option DimseFault). option_map invalid_abort d) (sym (unfaulty read.fault f));
}

abbrev StepsTo : Result HeldStep AllocError → List Accepted → AssociationStep → Type 0
StepsTo result accepted step = IfOk result (λ (held : HeldStep). IsStep accepted held step)

pub carried_step : (result : Result HeldStep AllocError) (old : HeldAssociation) (agreement : Agreement) (holding : Holding) (role : Role) (pdvs slice : List Pdv)
    (association : HeldState) → code.Open agreement holding ≡ old → role ≡ Carries pdvs → slice ≡ pdvs → Stands old association
    → ((a : Assembly) → Assembles holding a → StepsTo result holding.accepted (pdvs_step (messages_from a slice)))
    → StepsTo result (accepted_in (held_agreement old)) (step_of_inputs (state_of association) (inputs_by association (role ∷ []) None))
carried_step result old agreement holding role pdvs slice association e r v stands steps =
    let s = subst (λ (x : HeldAssociation). Stands x association) (sym e) stands in
    let leads : pdvs_step (messages_from s.0 slice) ≡ step_of_inputs (state_of association) (inputs_by association (role ∷ []) None) =
    ap (λ (pdvs : List Pdv). pdvs_step (messages_from s.0 pdvs)) v ∙ values-carried agreement s.0 pdvs
    ∙ ap (λ (x : Role). step_of_inputs state.Open (inputs_by (held.Open agreement s.0) (x ∷ []) None)) (sym r)
    ∙ ap (λ (h : HeldState). step_of_inputs (state_of h) (inputs_by h (role ∷ []) None)) (sym s.1) in
    subst (StepsTo result (accepted_in (held_agreement old))) leads
    (subst (λ (xs : List Accepted). StepsTo result xs (pdvs_step (messages_from s.0 slice)))
    (s.3 ∙ ap (λ (x : HeldAssociation). accepted_in (held_agreement x)) e) (steps s.0 s.2))

-- a PDU that closes an open association
pub role_leads : (result : Result HeldStep AllocError) (old : HeldAssociation) (agreement : Agreement) (holding : Holding) (role : Role) (association : HeldState)
    (list : List HeldMessage) (end : Option AssociationEnd) → code.Open agreement holding ≡ old → Stands old association → IsTrue (is_unspent old)
    → ((pdvs : List Pdv) → role ≡ Carries pdvs → ⊥) → list ≡ [] → end ≡ (line state.Open verdict.Accept (closing_input role)).end
    → IsClosing result list end → Leads result (step_of_inputs (state_of association) (inputs_by association (role ∷ []) None))
role_leads result old agreement holding role association list end e stands unspent other none is closes =
    let s = subst (λ (x : HeldAssociation). Stands x association) (sym e) stands in
    let sound = subst (λ (h : HeldState). IsTrue (is_sound_association h)) s.1 (stands_sound old association stands unspent) in
    closing_leads result list end (line state.Open verdict.Accept (closing_input role)).end _ closes none is
    (role-closes agreement s.0 role sound other ∙ ap (λ (h : HeldState). step_of_inputs (state_of h) (inputs_by h (role ∷ []) None)) (sym s.1))

pub role_next : (old : HeldAssociation) (agreement : Agreement) (holding : Holding) (role : Role) (association : HeldState) → code.Open agreement holding ≡ old
    → Stands old association → ((pdvs : List Pdv) → role ≡ Carries pdvs → ⊥) → Stands (code.Closed (Some agreement)) (association_by association (role ∷ []))
role_next old agreement holding role association e stands other = grind (arith, role-closed)

-- what a PDU that closes an open association did
pub record ClosedBy (result : Result HeldStep AllocError) (old new : HeldAssociation) (role : Role) : Type 0 where
  pub step : (a : HeldState) → Stands old a → StepsTo result (accepted_in (held_agreement old)) (step_of_inputs (state_of a) (inputs_by a (role ∷ []) None))
  pub close : IfOk result (λ (step : HeldStep). step.close ≡ is_closed (held_state new))
  pub exact : (a : HeldState) → Stands old a → OnOk result (Stands new (association_by a (role ∷ [])))
  pub agreement : OnOk result (held_agreement new ≡ held_agreement old)

steps_to : (result : Result HeldStep AllocError) (accepted : List Accepted) (step : AssociationStep) → Leads result step → StepsTo result accepted step
steps_to (Ok held) accepted step leads = leads accepted
steps_to (Err error) accepted step leads = tt

on_ok_stands : (result : Result HeldStep AllocError) (new : HeldAssociation) (a : HeldState) → Stands new a → OnOk result (Stands new a)
on_ok_stands (Ok step) new a h = h
on_ok_stands (Err error) new a h = tt

on_ok_agreement : (result : Result HeldStep AllocError) (x y : Option Agreement) → x ≡ y → OnOk result (x ≡ y)
on_ok_agreement (Ok step) x y e = e
on_ok_agreement (Err error) x y e = tt

close_is : (result : Result HeldStep AllocError) (list : List HeldMessage) (end : Option AssociationEnd) (new : HeldAssociation) → IsClosing result list end
    → is_closed (held_state new) ≡ true → IfOk result (λ (step : HeldStep). step.close ≡ is_closed (held_state new))
close_is (Ok step) list end new is e = ap (λ (s : HeldStep). s.close) is ∙ sym e
close_is (Err error) list end new is e = tt

pub closed_default : (result : Result HeldStep AllocError) (old new : HeldAssociation) (agreement : Agreement) (holding : Holding) (role : Role)
    (list : List HeldMessage) (end : Option AssociationEnd) → code.Open agreement holding ≡ old → new ≡ code.Closed (Some agreement) → IsTrue (is_unspent old)
    → ((pdvs : List Pdv) → role ≡ Carries pdvs → ⊥) → list ≡ [] → end ≡ (line state.Open verdict.Accept (closing_input role)).end
    → IsClosing result list end → ClosedBy result old new role
closed_default result old new agreement holding role list end e closed unspent other none is closes = record {
  step = λ a h. steps_to result (accepted_in (held_agreement old)) _
      (role_leads result old agreement holding role a list end e h unspent other none is closes);
  close = close_is result list end new closes (ap (λ (x : HeldAssociation). is_closed (held_state x)) closed);
  exact = λ a h. on_ok_stands result new (association_by a (role ∷ []))
      (subst (λ (x : HeldAssociation). Stands x (association_by a (role ∷ []))) (sym closed) (role_next old agreement holding role a e h other));
  agreement = on_ok_agreement result (held_agreement new) (held_agreement old) (ap held_agreement closed ∙ ap held_agreement e);
}
