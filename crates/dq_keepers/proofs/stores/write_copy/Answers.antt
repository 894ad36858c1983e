use Rattle.std.proofs.Math.Logic.{∥∥₁_elim, ∥∥₁_map}
use Rattle.sqlite.specs.Files.{file_state}
use Rattle.dq_counts.proofs.RememberedCounts.{same_right}
use Rattle.dq_keepers.proofs.Closed.{filled_alone}
use Rattle.dq_keepers.proofs.stores.write_copy.Goals as goal

pub invariant_of-tables : goal.invariant_of-tables
invariant_of-tables g c = let it = c.copy_to.ensures in record { right = same_right _ _ c.args.tables.now.counts it.honest (λ _. it.rows) c.args.tables.now.right }

pub returns-in-Ok-close_copy-clause-copied : goal.returns-in-Ok-close_copy-clause-copied
returns-in-Ok-close_copy-clause-copied g c = λ honest clean image may.
    let it = c.in-Ok-close_copy.ensures clean in
    let made = c.in-Ok.ensures.made honest it.was_clean in
    let held = it.left image may in
    ∥∥₁_elim held.both squash₁ (λ both. ∥∥₁_map held.alone (λ alone. filled_alone (file_state c.in-Ok.filled) _ image made both alone))
