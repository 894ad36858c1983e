use Rattle.std.proofs.Common.{List, sym, subst}
use Rattle.std.proofs.Math.Logic.{∥∥₁_map}
use Rattle.dq_tables.specs.declared.row.Row.{Row}
use Rattle.dq_counts.specs.Counts.{AreRight}
use Rattle.dq_counts.proofs.counted_tables.CountedTablesTables.count.Goals as goal

pub invariant_of-self-2 : goal.invariant_of-self-2
invariant_of-self-2 g c = record {
  right = ∥∥₁_map c.args.self.now.right (λ right honest.
      let it = c.in_ok-number.ensures in
      subst (λ (rows : List Row). AreRight rows c.note.new.self) (sym (it.reads.same honest)) (c.note.ensures _ (it.found honest) (right (it.reads.goes.was_honest honest))));
}
