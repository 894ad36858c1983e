use Rattle.std.proofs.Common.{Some, None, sym, ap, ◌∙◌}
use Rattle.std.specs.Option.{option_copied}
use Rattle.dq_core.proofs.Turning.{vacant, pending-none, pending-some, search-none, search-at}
use Rattle.dq_core.proofs.connections.Connections.is_pending.Goals as goal

pub returns-in_default-clause-stands : goal.returns-in_default-clause-stands
returns-in_default-clause-stands c = λ rows connections h.
    pending-none c.args.self.now.config rows c.args.number c.args.self.now connections h (sym c.place_of.ensures ∙ c.in_default.is)

pub returns-in-Some-get-clause-stands : goal.returns-in-Some-get-clause-stands
returns-in-Some-get-clause-stands c = λ rows connections h.
    c.is_some.ensures
    ∙ pending-some c.args.self.now.config rows c.args.number c.in-Some.place c.args.self.now c.in-Some-get.slot.now connections h
    (sym c.place_of.ensures ∙ c.in-Some.is) (sym c.get.ensures ∙ ap option_copied c.in-Some-get.is)

pub returns-in-None-clause-stands : goal.returns-in-None-clause-stands
returns-in-None-clause-stands c = λ rows connections h.
    absurd (vacant c.args.self.now.config rows c.args.number c.in-Some.place c.args.self.now connections h
    (sym c.place_of.ensures ∙ c.in-Some.is) (sym c.get.ensures ∙ ap option_copied c.in-None.is))

pub returns-in_default-clause-told : goal.returns-in_default-clause-told
returns-in_default-clause-told c = sym (search-none c.args.number c.args.self.now (sym c.place_of.ensures ∙ c.in_default.is))

pub returns-in-Some-get-clause-told : goal.returns-in-Some-get-clause-told
returns-in-Some-get-clause-told c =
    c.is_some.ensures ∙ sym (search-at c.args.number c.in-Some.place c.args.self.now (Some c.in-Some-get.slot.now)
    (sym c.place_of.ensures ∙ c.in-Some.is) (sym c.get.ensures ∙ ap option_copied c.in-Some-get.is))

pub returns-in-None-clause-told : goal.returns-in-None-clause-told
returns-in-None-clause-told c =
    sym (search-at c.args.number c.in-Some.place c.args.self.now None
    (sym c.place_of.ensures ∙ c.in-Some.is) (sym c.get.ensures ∙ ap option_copied c.in-None.is))
