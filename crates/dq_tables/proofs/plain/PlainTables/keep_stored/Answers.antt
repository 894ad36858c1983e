use Rattle.std.proofs.Common.{sym, subst}
use Rattle.dq_tables.specs.Sound.{IsSound}
use Rattle.dq_tables.proofs.Soundness.{stored_sound, stored_done}
use Rattle.dq_tables.proofs.plain.PlainTables.keep_stored.Goals as goal

pub invariant_of-self-2 : goal.invariant_of-self-2
invariant_of-self-2 c =
    let self = c.args.self.now in
    let sound : IsSound self.kept.items = record { rising = self.rising; own = self.own; held = self.held } in
    let done = stored_done self.kept.items c.reserve.new.self.items c.put_if.new.rows.items c.put_if-2.new.rows.items c.put.new.rows.items
    c.args.study.now c.args.series.now c.in_ok-study.study c.in_ok-series.series c.args.image.now c.in_ok-image.image
    c.in_ok-study.ensures c.in_ok-series.ensures c.in_ok-image.ensures c.requires c.in_ok-reserve.ensures.items
    c.put_if.ensures.done c.put_if-2.ensures.done c.put.ensures.done in
    let kept = subst IsSound (sym done) (stored_sound self.kept.items c.args.study.now c.args.series.now c.args.image.now sound c.requires) in
    record { rising = kept.rising; own = kept.own; held = kept.held }
