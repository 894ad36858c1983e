use Rattle.std.specs.List.{AllByRecursion}
use Rattle.dq_dataset.specs.declared.header.Syntax.TheVariants.{Explicit}
use Rattle.dq_dataset.specs.Facts.{IsDataSet}
use Rattle.dq_tables.specs.declared.row.Row.{Row}
use Rattle.dq_tables.specs.Records.{data_set_of}
use Rattle.dq_worklist.specs.Orders.{entry_of}
use Rattle.dq_worklist.specs.Views.{order_of}
use Rattle.dq_worklist.proofs.Orders.{short_order}
use Rattle.dq_worklist.proofs.StaysSound.{read_within, scheduled_stays, withdrawn_stays, each_put, each_left}
use Rattle.dq_worklist.proofs.laws.rows_hold_data_sets.Goals as goal

pub returns-clause-scheduled : goal.returns-clause-scheduled
unfolding data_set_of
returns-clause-scheduled c = λ h limits rows octets are_octets all.
    let Each = λ (row : Row). IsDataSet (data_set_of row.octets) in
    scheduled_stays (AllByRecursion Each) h rows all limits octets (λ d read id own free.
    let within = read_within octets d read in
    let spelled = c.spelling_law.ensures.spelled Explicit octets d are_octets within.1 in
    let facts = c.spelling_law.ensures.facts Explicit octets d spelled in
    let back = c.written_law.ensures.read_back Explicit d facts (short_order octets d spelled within.0).lengths tt in
    each_put Each h rows all (entry_of (order_of d id)) (rw back facts))

pub returns-clause-withdrawn : goal.returns-clause-withdrawn
returns-clause-withdrawn c = λ h rows id all.
    let Each = λ (row : Row). IsDataSet (data_set_of row.octets) in
    withdrawn_stays (AllByRecursion Each) h rows all id (λ has. each_left Each h rows all id)
