use Rattle.std.proofs.Common.{Some, refl}
use Rattle.dq_core.proofs.Turning.{opens}
use Rattle.dq_core.proofs.connections.Connections.open.Goals as goal

pub returns-clause-turned : goal.returns-clause-turned
returns-clause-turned c = λ world h.
    let now = c.args.self.now in
    opens now.config world c.args.number now
    (record { config = now.config; slots = c.insert.new.self; places = c.insert-2.new.self; spares = c.slot_for-slot.new.spares; tally = now.tally; additions = now.additions; newest = Some c.args.number })
    c.in_ok-place.place c.slot_for-slot.result h c.requires c.slot_for-slot.ensures.number c.slot_for-slot.ensures.inbox c.slot_for-slot.ensures.stands c.slot_for-slot.ensures.query
    c.in_ok-place.ensures.was_vacant c.in_ok-place.ensures.updates c.in_ok-insert.ensures.entries c.insert-2.ensures.ordered refl refl refl
