use Rattle.dq_tables.specs.Sound.{IsSound}
use Rattle.dq_tables.proofs.Soundness.{removed_sound}
use Rattle.dq_tables.proofs.plain.PlainTables.remove_entry.Goals as goal

pub invariant_of-self : goal.invariant_of-self
invariant_of-self c =
    let self = c.args.self.now in
    let sound : IsSound self.kept.items = record { rising = self.rising; own = self.own; held = self.held } in
    let kept = removed_sound self.kept.items c.remove.new.rows.items c.args.institution.now c.args.key.now sound c.remove.ensures in
    record { rising = kept.rising; own = kept.own; held = kept.held }
