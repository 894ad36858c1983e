use Rattle.std.proofs.Common.{◌≡◌, true, Some}
use Rattle.std.specs.List.{AllByRecursion}
use Rattle.dq_dataset.specs.Editing.{merged_data_set}
use Rattle.dq_tables.specs.declared.row.Row.{Row}
use Rattle.dq_tables.specs.Rows.{Put, of, after_edit}
use Rattle.dq_tables.specs.StartedEntries.{entries_named}
use Rattle.dq_tables.proofs.Lens.{rising_edit}
use Rattle.dq_mpps.specs.Steps.{step_record}
use Rattle.dq_mpps.specs.NSet.{kept_data_set, is_short_step}
use Rattle.dq_mpps.proofs.StaysSound.{short_message, short_new, short_changed, created_stays, changed_stays, each_put, each_started}
use Rattle.dq_mpps.proofs.laws.kept_steps_are_short.Goals as goal

pub returns-clause-created : goal.returns-clause-created
returns-clause-created c = λ h limits rows message syntax are_octets rising all.
    let Each = λ (row : Row). is_short_step row ≡ true in
    created_stays (AllByRecursion Each) h rows all message syntax limits (λ d short read named free.
    let step = step_record message.command.sop_instance d in
    let spelled = c.spelling_law.ensures.spelled syntax message.octets d are_octets read in
    each_started Each (λ row kind it. it) h (entries_named (of h rows) d) (after_edit h (Put step) rows) (rising_edit h (Put step) rows rising)
    (each_put Each h step rows all (short_new syntax message.octets d spelled (short_message message short))))

pub returns-clause-changed : goal.returns-clause-changed
returns-clause-changed c = λ h rows message syntax all.
    let Each = λ (row : Row). is_short_step row ≡ true in
    changed_stays (AllByRecursion Each) h rows all message syntax (λ d read r there short.
    let step = merged_data_set (kept_data_set (Some r)) d in
    each_put Each h (step_record message.command.sop_instance step) rows all (short_changed step short))
