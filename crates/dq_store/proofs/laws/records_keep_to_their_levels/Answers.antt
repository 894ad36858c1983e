use Rattle.std.proofs.Common.{◌≡◌, true, List}
use Rattle.std.specs.List.{AllByRecursion}
use Rattle.dq_vr.specs.declared.Tag.{Tag}
use Rattle.dq_dataset.specs.declared.header.Syntax.TheVariants.{Explicit}
use Rattle.dq_dataset.specs.Canonical.{canonical}
use Rattle.dq_dataset.specs.Editing.{cut_out}
use Rattle.dq_dataset.proofs.Large.{small_has_lengths}
use Rattle.dq_vr.specs.StudyRoot.{kept_attributes}
use Rattle.dq_tables.specs.declared.row.Row.{Row}
use Rattle.dq_tables.specs.Records.{data_set_of}
use Rattle.dq_tables.specs.Rows.{of}
use Rattle.dq_vr.specs.StudyRoot.{study_attributes, series_attributes, image_attributes}
use Rattle.dq_store.specs.Levels.{has_only, keeps_to_its_level, is_of_its_level}
use Rattle.dq_store.specs.CStore.{instance_in, kept_among}
use Rattle.dq_store.proofs.Levels.{cut_has_only}
use Rattle.dq_store.proofs.StaysSound.{stored_stays, each_stays}
use Rattle.dq_store.proofs.laws.records_keep_to_their_levels.Goals as goal

pub returns : goal.returns
unfolding data_set_of keeps_to_its_level
returns c = λ h limits rows message syntax are_octets all.
    let Each = λ (row : Row). is_of_its_level row ≡ true in
    stored_stays (AllByRecursion Each) h rows all limits message syntax (λ d read small uids.
    let kept = cut_out kept_attributes d in
    let spelled = c.spelling_law.ensures.spelled syntax message.octets d are_octets read in
    let facts = c.editing_law.ensures.cut kept_attributes d (c.spelling_law.ensures.facts syntax message.octets d spelled) in
    let lengths = small_has_lengths kept small in
    let held : (tags : List Tag) → has_only tags (data_set_of (canonical Explicit (cut_out tags kept))) ≡ true = λ tags.
    (rw (c.written_law.ensures.read_back Explicit (cut_out tags kept) (c.editing_law.ensures.cut tags kept facts)
    (c.editing_law.ensures.cut_lengths Explicit tags kept lengths) tt) (cut_has_only tags kept)) in
    each_stays Each h rows all (kept_among (of h rows) (instance_in kept)) (instance_in kept)
    (held study_attributes) (held series_attributes) (held image_attributes))
