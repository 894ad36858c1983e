use Rattle.std.proofs.Common.{◌≡◌, true, Some, inl, inr, refl}
use Rattle.std.specs.List.{AllByRecursion}
use Rattle.dq_dataset.specs.Editing.{merged_data_set}
use Rattle.dq_tables.specs.declared.row.Row.{Row}
use Rattle.dq_tables.specs.Rows.{Put, of, after_edit, row_of}
use Rattle.dq_tables.specs.StartedEntries.{entries_named}
use Rattle.dq_tables.proofs.Lens.{rising_edit}
use Rattle.dq_tables.proofs.StartedEntries.{started}
use Rattle.dq_mpps.specs.Steps.{step_record}
use Rattle.dq_mpps.specs.NSet.{kept_data_set}
use Rattle.dq_mpps.proofs.StaysSound.{created_stays, changed_stays, each_put, each_started}
use Rattle.dq_mpps.proofs.laws.rows_of_other_kinds_stay.Goals as goal

pub returns-clause-created : goal.returns-clause-created
returns-clause-created c = λ holds asked h limits rows message syntax rising all.
    let Each = λ (row : Row). holds row ≡ true in
    created_stays (AllByRecursion Each) h rows all message syntax limits (λ d short read named free.
    let step = step_record message.command.sop_instance d in
    each_started Each (λ row kind it. asked (started row) (inl kind)) h (entries_named (of h rows) d) (after_edit h (Put step) rows)
    (rising_edit h (Put step) rows rising) (each_put Each h step rows all (asked (row_of h step) (inr refl))))

pub returns-clause-changed : goal.returns-clause-changed
returns-clause-changed c = λ holds asked h rows message syntax all.
    let Each = λ (row : Row). holds row ≡ true in
    changed_stays (AllByRecursion Each) h rows all message syntax (λ d read r there short.
    let step = step_record message.command.sop_instance (merged_data_set (kept_data_set (Some r)) d) in
    each_put Each h step rows all (asked (row_of h step) refl))
