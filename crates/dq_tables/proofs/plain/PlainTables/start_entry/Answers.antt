use Rattle.std.proofs.Common.{sym, subst}
use Rattle.dq_tables.specs.Sound.{IsSound}
use Rattle.dq_tables.proofs.Soundness.{start_sound}
use Rattle.dq_tables.proofs.plain.PlainTables.start_entry.Goals as goal

pub invariant_of-self : goal.invariant_of-self
invariant_of-self c =
    let self = c.args.self.now in
    let sound : IsSound self.kept.items = record { rising = self.rising; own = self.own; held = self.held } in
    let kept = subst IsSound (sym c.start.ensures.done) (start_sound c.args.institution.now c.args.key.now self.kept.items sound) in
    record { rising = kept.rising; own = kept.own; held = kept.held }
