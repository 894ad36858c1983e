use Rattle.std.proofs.Common.{refl, sym, ap, ◌∙◌}
use Rattle.dq_core.specs.Slots.{without_association}
use Rattle.dq_core.proofs.Turning.{ends-none, ends-found}
use Rattle.dq_core.proofs.connections.Connections.end.Goals as goal

pub returns-in_default-clause-turned : goal.returns-in_default-clause-turned
returns-in_default-clause-turned c = λ world h.
    ends-none c.args.self.now.config world c.args.number c.args.self.now h (sym c.place_of.ensures ∙ c.in_default.is)

pub returns-clause-turned : goal.returns-clause-turned
returns-clause-turned c = λ world h.
    let now = c.args.self.now in
    let counted = ap (λ tally. tally.counts.items) c.remove.ensures.tally ∙ c.end_association.ensures
    ∙ ap (without_association now.config now.tally.counts.items) c.get.ensures in
    ends-found now.config world c.args.number c.an_association_after_pdus.ensures.waits now c.remove.new.self c.in-Some.place h
    (sym c.place_of.ensures ∙ c.in-Some.is) c.remove.ensures.slots c.remove.ensures.places c.remove.ensures.ordered c.remove.ensures.newest c.remove.ensures.additions
    (λ slot there none. counted ∙ rw (there, none) refl) (λ slot name there some. counted ∙ rw (there, some) refl)
