use Rattle.std.proofs.Common.{◌∙◌}
use Rattle.dq_tables.proofs.Edits.{removes, removes_nothing}
use Rattle.dq_tables.proofs.put.remove.Goals as goal

pub returns-in-Ok : goal.returns-in-Ok
returns-in-Ok c =
    c.remove.ensures.items ∙ removes c.args.rows.now.items c.args.kind c.args.institution.now c.args.key.now c.in-Ok.at
    (rw c.deref.ensures.value at c.in-Ok.ensures)

pub returns-in_default : goal.returns-in_default
returns-in_default c =
    let free = c.in_default.ensures in
    removes_nothing c.args.rows.now.items c.args.kind c.args.institution.now c.args.key.now _ (rw c.deref.ensures.value at free)
