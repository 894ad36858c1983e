use Rattle.std.proofs.Common.{List, sym, subst}
use Rattle.std.proofs.Math.Logic.{∥∥₁_map}
use Rattle.dq_tables.specs.declared.row.Row.{Row}
use Rattle.dq_counts.specs.Counts.{AreRight}
use Rattle.dq_counts.proofs.RememberedCounts.{same_right}
use Rattle.dq_counts.proofs.counted_tables.CountedTablesTables.apply.Goals as goal

pub invariant_of-self : goal.invariant_of-self
invariant_of-self g c = let it = c.in_err-apply.ensures in record { right = same_right _ _ c.args.self.now.counts it.goes.was_honest it.same c.args.self.now.right }

pub invariant_of-self-2 : goal.invariant_of-self-2
invariant_of-self-2 g c = record {
  right = ∥∥₁_map c.args.self.now.right (λ right honest.
      let it = c.in_ok-apply.ensures in
      let was = it.goes.was_honest honest in
      let sound = g.met.T.Tables.sound c.args.self.now.tables was in
      subst (λ (rows : List Row). AreRight rows c.follow.new.self) (sym (it.done honest)) (c.follow.ensures _ sound.rising (c.requires was) (right was)));
}
