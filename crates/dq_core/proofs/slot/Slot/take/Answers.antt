use Rattle.std.proofs.Common.{◌≡◌, [], ap, refl, sym, ◌∙◌}
use Rattle.std.specs.Option.{option_copied}
use Rattle.dq_assoc.specs.Associations as held
use Rattle.dq_assoc.specs.declared.association.State.TheVariants.{Waiting, Open}
use Rattle.dq_assoc.specs.After.{state_of, association_from}
use Rattle.dq_assoc.proofs.HeldAssociations.{stands_state}
use Rattle.dq_core.specs.Slots.{associated_institution}
use Rattle.dq_core.proofs.Taking.{given_more}
use Rattle.dq_core.proofs.slot.Slot.take.Goals as goal

pub returns-in_ok-take_all-in-Open-clause-stands : goal.returns-in_ok-take_all-in-Open-clause-stands
returns-in_ok-take_all-in-Open-clause-stands c = λ before s n e.
    let owner = option_copied c.args.called.institution in
    let taken = c.in_ok-take_all-in-Open.ensures.next (association_from held.Waiting before) s.association.stands e in
    let agreed = c.in_ok-take_all-in-Open.ensures.agreement in (
      taken.0,
      record {
        association = given_more c.pdus_in_parts.ensures.association before c.into_inner.result.items c.args.fed.pdus c.take_all.new.self c.into_inner.ensures taken.1;
        not_closed = sym c.in_ok-take_all-in-Open.ensures.close ∙ e;
        slot_institution = s.slot_institution ∙ ap (associated_institution owner) (sym agreed);
        owned = λ a is. s.owned a (sym agreed ∙ is);
      },
    )

pub returns-in-Waiting-clause-stands : goal.returns-in-Waiting-clause-stands
returns-in-Waiting-clause-stands c = λ before s nowhere.
    let waits : state_of (association_from held.Waiting before) ≡ Waiting =
    sym (stands_state _ _ s.association.stands) ∙ (sym c.state.ensures ∙ c.in-Waiting.is) in
    let none : before ≡ [] = c.an_association_after_pdus.ensures.waits before _ (record { stands = refl }) waits in
    rw none (c.begin.ensures.stands (rw none at s) nowhere)

pub returns-in_ok-take_all-in-Open-clause-taken : goal.returns-in_ok-take_all-in-Open-clause-taken
returns-in_ok-take_all-in-Open-clause-taken c = λ association stands.
    let opens : state_of association ≡ Open = sym (stands_state _ association stands) ∙ (sym c.state.ensures ∙ c.in-Open.is) in
    let took = c.in_ok-take_all-in-Open.ensures in
    rw (opens, took.agreement, ← c.into_inner.ensures) (record { opening = c.empty.ensures; step = took.step association stands })
