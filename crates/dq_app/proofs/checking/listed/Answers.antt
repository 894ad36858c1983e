use Rattle.std.proofs.Common.{◌≡◌, List}
use Rattle.dq_tables.specs.declared.row.Row.{Row}
use Rattle.dq_app.specs.Checks.{counted_check_text}
use Rattle.dq_app.proofs.Storing.{over_found}
use Rattle.dq_app.proofs.checking.listed.Goals as goal

pub returns-in_ok-list_over-in-Some-clause-lines : goal.returns-in_ok-list_over-in-Some-clause-lines
returns-in_ok-list_over-in-Some-clause-lines g c =
    let made = c.in_ok-list_over-in-Some in
    let IsSo : List Row → Type 0 = λ (rows : List Row). made.field-0.items ≡ counted_check_text rows c.args.institutions.now in
    rw c.in-Some.is (over_found g.Rt.File.Tables.state (g.Rt.Stores.stored c.args.rt.now) IsSo _ _ made.ensures.lines c.in_ok-tables-in-Some.ensures.rows)
