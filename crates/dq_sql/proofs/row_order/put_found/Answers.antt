use Rattle.std.proofs.Common.{rules, ◌≡◌, false, is_some}
use Rattle.dq_tables.specs.Lookups.{row_at}
use Rattle.dq_sql.specs.Tie.{row_of_cells}
use Rattle.dq_sql.proofs.RowOrder.{put_adds, octets_added}
use Rattle.dq_sql.proofs.row_order.put_found.Goals as goal

pub returns-clause-octets : goal.returns-clause-octets
returns-clause-octets c held =
    let row = c.in_ok-row.row in
    let rows = c.args.rows.now.items in
    let same = c.in_ok-row.ensures.good.0 in
    let free : is_some (row_at row.kind row.inst row.key rows) ≡ false = search rules in
    octets_added row (row_of_cells c.args.found.now) rows c.put.new.rows.items same c.in_ok-row.ensures.octets
    (put_adds row (row_of_cells c.args.found.now) rows c.reserve.new.self.items c.put.new.rows.items same c.in_ok-reserve.ensures.items c.requires free c.put.ensures.done) held
