use Rattle.std.proofs.Common.{is_some, ap, ◌∙◌}
use Rattle.dq_core.proofs.Slotted.{is-held}
use Rattle.dq_core.proofs.connections.Connections.is_held.Goals as goal

pub returns-clause-stands : goal.returns-clause-stands
returns-clause-stands c = λ rows connections h.
    c.is_some.ensures
    ∙ is-held c.args.self.now.config rows c.args.self.now.additions.logs.items c.args.number c.args.self.now.slots c.args.self.now.places.entries connections c.place_of.result h.at c.place_of.ensures

pub returns-clause-told : goal.returns-clause-told
returns-clause-told c = c.is_some.ensures ∙ ap is_some c.place_of.ensures
