use Rattle.std.proofs.Common.{◌≡◌, ◌<◌, false, List, [], ◌∷◌, length, Option, None, inl, refl, sym, subst, ◌∙◌, arith}
use Rattle.std.proofs.lemmas.Bool.{false≢true}
use Rattle.std.proofs.lemmas.Bool.Decides.{nat_tests}
use Rattle.std.proofs.lemmas.List.{nil_from_length}
use Rattle.dq_pdu.specs.declared.pdu.Pdu.{Pdu}
use Rattle.dq_dimse.specs.Received.{Message}
use Rattle.dq_dimse.specs.Holding.{AllRefine}
use Rattle.dq_assoc.specs.declared.agreement.Agreement.{Agreement}
use Rattle.dq_assoc.specs.declared.association.State.TheVariants.{Waiting}
use Rattle.dq_assoc.specs.After.{inputs_from}
use Rattle.dq_assoc.specs.Associations as held
use Rattle.dq_assoc.specs.Holding.{IsStep, accepted_in, held_agreement}
use Rattle.dq_assoc.specs.Steps.{step_of_inputs}
use Rattle.dq_core.specs.Effects.{taken_inputs}
use Rattle.dq_core.specs.Slots.{IsTaken}
use Rattle.dq_core.proofs.Taking.{misplaced, none_held, nothing_stands, taken_alone, taken_none, waiting_stands}
use Rattle.dq_core.proofs.slot.Slot.begin.Goals as goal
use Rattle.dq_core.proofs.slot.Slot.begin.Goals.{in-None, in-Some+in_ok-step-in-Some}

pub returns-then-is_empty-clause-taken : goal.returns-then-is_empty-clause-taken
returns-then-is_empty-clause-taken c =
    let agreement = held_agreement c.match-fed.self.association in
    let zero : length c.into_inner-pdus.result.items ≡ 0 = grind (arith, nat_tests) in
    let none = sym c.into_inner-pdus.ensures ∙ nil_from_length c.into_inner-pdus.result.items zero in
    let is : IsStep (accepted_in agreement) c.match-fed.step (step_of_inputs Waiting (inputs_from held.Waiting [] c.args.fed.fault)) =
    elim c.match-fed.branch [
      | in-None w ↦ rw w.in-None.is (nothing_stands (accepted_in agreement) false c.match-fed.step (w.step-is ∙ w.nothing-step.ensures))
      | in-Some+in_ok-step-in-Some w ↦ rw (w.in-Some.is, w.step-is)
          (w.in_ok-step-in-Some.ensures.step held.Waiting (waiting_stands c.args.self.now.association c.requires) (accepted_in agreement))
    ] in
    taken_none agreement c.args.called.verdict c.args.fed.pdus c.args.fed.fault c.empty.result c.match-fed.step none c.empty.ensures is

pub returns-in_ok-take-in_default : goal.returns-in_ok-take-in_default
returns-in_ok-take-in_default c =
    let pdus = c.into_inner-pdus.result.items in
    let verdict = c.args.called.verdict in
    let fault = c.args.fed.fault in
    let some : 0 < length pdus = grind (arith, nat_tests) in
    let first = c.in_ok-take-in_default.field-0 in
    let pure = step_of_inputs Waiting (inputs_from held.Waiting (c.remove.result ∷ []) None) in
    let m = misplaced verdict held.Waiting pdus c.remove.result fault pure refl some c.remove.ensures.value c.in_default.not-Request refl in
    let is = c.in_ok-take-in_default.ensures.step held.Waiting (waiting_stands c.args.self.now.association c.requires) in
    let agreement = held_agreement c.take.new.self in
    let stands : IsStep (accepted_in agreement) first pure =
    subst (λ (a : Option Agreement). IsStep (accepted_in a) first pure) (sym c.in_ok-take-in_default.ensures.agreement) is in
    let opening = c.empty-in_default.result in
    record {
      taken = subst (λ (ps : List Pdu). IsTaken agreement (record { opening = opening; step = first }) (taken_inputs verdict Waiting (inputs_from held.Waiting ps fault)))
          c.into_inner-pdus.ensures
          (taken_alone agreement verdict held.Waiting pdus fault opening first pure c.empty-in_default.ensures m.taken_is stands);
      agreement = inl (none_held (accepted_in agreement) first.messages
          (subst (λ (ms : List Message). AllRefine (accepted_in agreement) first.messages ms) m.messages_are stands.messages));
      stands = λ s n e. absurd (false≢true (sym e ∙ stands.close ∙ m.closes));
      keeps = (refl, refl, refl);
    }
