use Rattle.dq_dataset.specs.declared.header.Syntax.TheVariants.{Explicit}
use Rattle.dq_dataset.specs.Editing.{cut_out}
use Rattle.dq_dataset.proofs.Large.{small_has_lengths}
use Rattle.dq_vr.specs.StudyRoot.{kept_attributes}
use Rattle.dq_tables.specs.Sound.{IsSound}
use Rattle.dq_store.specs.CStore.{instance_in}
use Rattle.dq_store.proofs.StaysSound.{stored_stays, edits_sound}
use Rattle.dq_store.proofs.laws.sound_rows_stay_sound.Goals as goal

pub returns : goal.returns
returns c = λ h limits rows message syntax are_octets sound.
    stored_stays IsSound h rows sound limits message syntax (λ d read small uids.
    let kept = cut_out kept_attributes d in
    let spelled = c.spelling_law.ensures.spelled syntax message.octets d are_octets read in
    let facts = c.editing_law.ensures.cut kept_attributes d (c.spelling_law.ensures.facts syntax message.octets d spelled) in
    let lengths = small_has_lengths kept small in
    edits_sound h rows sound (instance_in kept) (λ tags.
    c.written_law.ensures.read_back Explicit (cut_out tags kept) (c.editing_law.ensures.cut tags kept facts)
    (c.editing_law.ensures.cut_lengths Explicit tags kept lengths) tt) uids.study uids.series uids.image)
