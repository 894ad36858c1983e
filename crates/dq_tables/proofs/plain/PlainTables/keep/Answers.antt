use Rattle.dq_tables.specs.Sound.{IsSound}
use Rattle.dq_tables.proofs.Soundness.{kept_sound}
use Rattle.dq_tables.proofs.plain.PlainTables.keep.Goals as goal

pub invariant_of-self-2 : goal.invariant_of-self-2
invariant_of-self-2 c =
    let self = c.args.self.now in
    let sound : IsSound self.kept.items = record { rising = self.rising; own = self.own; held = self.held } in
    let kept = kept_sound self.kept.items c.reserve.new.self.items c.put.new.rows.items c.args.row.now c.in_ok-row.row sound c.requires.own c.requires.held
    c.in_ok-row.ensures c.in_ok-reserve.ensures.items c.put.ensures.done in
    record { rising = kept.rising; own = kept.own; held = kept.held }
