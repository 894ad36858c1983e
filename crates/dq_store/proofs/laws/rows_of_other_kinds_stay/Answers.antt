use Rattle.std.proofs.Common.{◌≡◌, true, inl, inr, refl}
use Rattle.std.specs.List.{AllByRecursion}
use Rattle.dq_dataset.specs.Editing.{cut_out}
use Rattle.dq_vr.specs.StudyRoot.{kept_attributes}
use Rattle.dq_tables.specs.declared.row.Row.{Row}
use Rattle.dq_tables.specs.Rows.{of, row_of}
use Rattle.dq_store.specs.CStore.{instance_in, kept_among, study_record, series_record, image_record}
use Rattle.dq_store.proofs.StaysSound.{stored_stays, each_stays}
use Rattle.dq_store.proofs.laws.rows_of_other_kinds_stay.Goals as goal

pub returns : goal.returns
returns c = λ holds asked h limits rows message syntax all.
    let Each = λ (row : Row). holds row ≡ true in
    stored_stays (AllByRecursion Each) h rows all limits message syntax (λ d read small uids.
    let sent = instance_in (cut_out kept_attributes d) in
    each_stays Each h rows all (kept_among (of h rows) sent) sent
    (asked (row_of h (study_record sent)) (inl refl)) (asked (row_of h (series_record sent)) (inr (inl refl)))
    (asked (row_of h (image_record sent)) (inr (inr refl))))
