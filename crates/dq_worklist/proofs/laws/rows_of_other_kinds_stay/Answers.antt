use Rattle.std.proofs.Common.{◌≡◌, true, refl}
use Rattle.std.specs.List.{AllByRecursion}
use Rattle.dq_tables.specs.declared.row.Row.{Row}
use Rattle.dq_tables.specs.Rows.{row_of}
use Rattle.dq_worklist.specs.Orders.{entry_of}
use Rattle.dq_worklist.specs.Views.{order_of}
use Rattle.dq_worklist.proofs.StaysSound.{scheduled_stays, withdrawn_stays, each_put, each_left}
use Rattle.dq_worklist.proofs.laws.rows_of_other_kinds_stay.Goals as goal

pub returns-clause-scheduled : goal.returns-clause-scheduled
returns-clause-scheduled c = λ holds asked h limits rows octets all.
    let Each = λ (row : Row). holds row ≡ true in
    scheduled_stays (AllByRecursion Each) h rows all limits octets (λ d read id own free.
    let entry = entry_of (order_of d id) in
    each_put Each h rows all entry (asked (row_of h entry) refl))

pub returns-clause-withdrawn : goal.returns-clause-withdrawn
returns-clause-withdrawn c = λ holds h rows id all.
    let Each = λ (row : Row). holds row ≡ true in
    withdrawn_stays (AllByRecursion Each) h rows all id (λ has. each_left Each h rows all id)
