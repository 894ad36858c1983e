use Rattle.dq_core.proofs.Noting.{none_added, one_added}
use Rattle.dq_core.proofs.notes.Notes.add.Goals as goal

pub loop-noted-init : goal.loop-noted-init
loop-noted-init c = none_added c.args.number c.args.self.now.list.items

pub loop-noted-preserved : goal.loop-noted-preserved
loop-noted-preserved c =
    rw (rw c.if-is_err.ensures.negation at c.push.ensures.items)
    (one_added c.args.number c.args.self.now.list.items c.loop-noted.self.list.items c.in-Some.noted c.loop-noted.invariant)
