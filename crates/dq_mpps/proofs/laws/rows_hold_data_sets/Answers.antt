use Rattle.std.proofs.Common.{Some}
use Rattle.std.specs.List.{AllByRecursion}
use Rattle.dq_dataset.specs.declared.header.Syntax.TheVariants.{Explicit}
use Rattle.dq_dataset.specs.Editing.{merged_data_set}
use Rattle.dq_dataset.specs.Facts.{IsDataSet}
use Rattle.dq_tables.specs.declared.row.Row.{Row}
use Rattle.dq_tables.specs.Records.{data_set_of}
use Rattle.dq_tables.specs.Rows.{Put, of, after_edit}
use Rattle.dq_tables.specs.StartedEntries.{entries_named}
use Rattle.dq_tables.proofs.Lens.{rising_edit}
use Rattle.dq_mpps.specs.Steps.{step_record}
use Rattle.dq_mpps.specs.NSet.{kept_data_set}
use Rattle.dq_mpps.proofs.StaysSound.{short_octets, short_step, created_stays, changed_stays, each_put, each_found, each_started}
use Rattle.dq_mpps.proofs.laws.rows_hold_data_sets.Goals as goal

pub returns-clause-created : goal.returns-clause-created
unfolding data_set_of
returns-clause-created c = λ h limits rows message syntax are_octets rising all.
    let Each = λ (row : Row). IsDataSet (data_set_of row.octets) in
    created_stays (AllByRecursion Each) h rows all message syntax limits (λ d short read named free.
    let step = step_record message.command.sop_instance d in
    let spelled = c.spelling_law.ensures.spelled syntax message.octets d are_octets read in
    let facts = c.spelling_law.ensures.facts syntax message.octets d spelled in
    let lengths = c.spelling_law.ensures.lengths syntax Explicit message.octets d spelled (short_octets message short) in
    each_started Each (λ row kind it. it) h (entries_named (of h rows) d) (after_edit h (Put step) rows) (rising_edit h (Put step) rows rising)
    (each_put Each h step rows all (rw (c.written_law.ensures.read_back Explicit d facts lengths tt) facts)))

pub returns-clause-changed : goal.returns-clause-changed
unfolding data_set_of
returns-clause-changed c = λ h rows message syntax are_octets all.
    let Each = λ (row : Row). IsDataSet (data_set_of row.octets) in
    changed_stays (AllByRecursion Each) h rows all message syntax (λ d read r there short.
    let uid = message.command.sop_instance in
    let step = merged_data_set (kept_data_set (Some r)) d in
    let sent = c.spelling_law.ensures.facts syntax message.octets d (c.spelling_law.ensures.spelled syntax message.octets d are_octets read) in
    let facts = c.editing_law.ensures.merged (kept_data_set (Some r)) d (each_found Each h uid rows r all there) sent in
    each_put Each h (step_record uid step) rows all (rw (c.written_law.ensures.read_back Explicit step facts (short_step step short) tt) facts))
