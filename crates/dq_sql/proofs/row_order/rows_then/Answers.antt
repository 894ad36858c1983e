use Rattle.std.proofs.Common.{Err, ap}
use Rattle.dq_sql.proofs.Judgements.{still_none, row_none, row_more}
use Rattle.dq_sql.proofs.row_order.rows_then.Goals as goal

pub returns-in_default : goal.returns-in_default
returns-in_default c seen judged = still_none seen c.args.found.now (rw c.in_default.is at judged)

pub returns-in-Ok : goal.returns-in-Ok
returns-in-Ok c seen judged =
    row_more seen c.args.found.now c.in-Some.rows.items c.put_found.new.rows.items (rw c.in-Some.is at judged)
    c.in-Ok.ensures.good c.in-Ok.ensures.added c.in-Ok.ensures.rising c.in-Ok.ensures.octets

pub returns-in-Err-BadRows : goal.returns-in-Err-BadRows
returns-in-Err-BadRows c seen judged =
    let good = rw c.in-Some.is at judged in
    row_none seen c.args.found.now c.in-Some.rows.items good.0 (c.in-Err-BadRows.ensures.bad (ap Err c.in-Err-BadRows.field-0-is))
