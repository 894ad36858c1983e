use Rattle.std.proofs.Common.{◌∙◌, sym, subst}
use Rattle.dq_tables.proofs.Edits.{replaces, inserts}
use Rattle.dq_tables.specs.Rows.{IsRising, Put, record_of}
use Rattle.dq_tables.proofs.Lens.{rising_edit}
use Rattle.dq_tables.proofs.put.put.Goals as goal

pub returns-in-Ok-clause-done : goal.returns-in-Ok-clause-done
returns-in-Ok-clause-done c =
    replaces c.args.rows.now.items c.args.row c.in-Ok.at (rw (c.deref.ensures.value, c.as_slice.ensures, c.as_slice-2.ensures) at c.in-Ok.ensures)

pub returns-in-Err-clause-done : goal.returns-in-Err-clause-done
returns-in-Err-clause-done c =
    let free = c.in-Err.ensures {u = tt} in
    let placed = rw c.unwrap.ensures at c.insert.ensures.items in
    placed ∙ inserts c.args.rows.now.items c.args.row c.in-Err.at (rw (c.deref.ensures.value, c.as_slice.ensures, c.as_slice-2.ensures) at free)

pub returns-in-Ok-clause-rising : goal.returns-in-Ok-clause-rising
returns-in-Ok-clause-rising c =
    subst IsRising (sym (returns-in-Ok-clause-done c)) (rising_edit c.args.row.inst (Put (record_of c.args.row)) c.args.rows.now.items c.requires.rising)

pub returns-in-Err-clause-rising : goal.returns-in-Err-clause-rising
returns-in-Err-clause-rising c =
    subst IsRising (sym (returns-in-Err-clause-done c)) (rising_edit c.args.row.inst (Put (record_of c.args.row)) c.args.rows.now.items c.requires.rising)
