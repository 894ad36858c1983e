use Rattle.std.proofs.Common.{◌∷◌, [], inl, sym, ap, ◌∙◌}
use Rattle.std.specs.Option.{option_copied}
use Rattle.dq_pdu.specs.declared.pdu.Pdu.TheVariants as pdu
use Rattle.dq_assoc.specs.Associations as held
use Rattle.dq_assoc.specs.After.{association_from}
use Rattle.dq_assoc.specs.Holding.{held_agreement}
use Rattle.dq_core.specs.Slots.{associated_institution}
use Rattle.dq_core.proofs.Taking.{accepted-owned, given_more, none_held, taken_accepted, taken_refused}
use Rattle.dq_core.proofs.slot.Slot.accept.Goals as goal

pub returns-clause-stands : goal.returns-clause-stands
returns-clause-stands c = λ before stands e.
    let owner = option_copied c.args.called.institution in
    let opens = c.if-answer.false in
    let first = pdu.Request c.args.request ∷ [] in
    let taken = c.in_ok-step.ensures.next (association_from held.Waiting first) (c.in_ok-answer.ensures.after opens).stands e in
    let line_is = sym (c.in_ok-answer.ensures.step []).close ∙ opens in (
      taken.0,
      record {
        association = given_more c.pdus_in_parts.ensures.association first c.into_inner-pdus.result.items c.args.rest.pdus c.take_all.new.self
            c.into_inner-pdus.ensures taken.1;
        not_closed = sym c.in_ok-step.ensures.close ∙ e;
        slot_institution = c.in_ok-self.ensures ∙ ap (associated_institution owner) (c.agreement.ensures ∙ sym c.in_ok-step.ensures.agreement);
        owned = λ agreement is. accepted-owned owner c.args.called.verdict c.args.request stands line_is;
      },
    )

pub returns-then-answer-clause-taken : goal.returns-then-answer-clause-taken
returns-then-answer-clause-taken c =
    taken_refused c.args.called.verdict c.args.request c.args.rest.pdus c.args.rest.fault (held_agreement c.accept.new.self) c.empty.result
    c.in_ok-answer.answer c.empty.ensures c.in_ok-answer.ensures.step c.if-answer.true

pub returns-then-answer-clause-agreement : goal.returns-then-answer-clause-agreement
returns-then-answer-clause-agreement c = inl (none_held [] c.in_ok-answer.answer.messages (c.in_ok-answer.ensures.step []).messages)

pub returns-clause-taken : goal.returns-clause-taken
returns-clause-taken c =
    let opens = c.if-answer.false in
    let after = c.in_ok-answer.ensures.after opens in
    taken_accepted c.args.called.verdict c.args.request c.args.rest.pdus c.args.rest.fault (held_agreement c.accept.new.self) (held_agreement c.take_all.new.self)
    c.in_ok-answer.answer c.in_ok-step.step c.into_inner-pdus.result.items c.in_ok-step.ensures.agreement c.into_inner-pdus.ensures
    (c.in_ok-answer.ensures.step []) opens
    (c.in_ok-step.ensures.step (association_from held.Waiting (pdu.Request c.args.request ∷ [])) after.stands)
