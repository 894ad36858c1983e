use Rattle.std.proofs.Common.{List, Result, ap, subst}
use Rattle.std.specs.Result.{result_unwrap_or}
use Rattle.dq_vr.specs.declared.Tag.{Tag}
use Rattle.dq_dataset.specs.declared.fault.ReadFault.{ReadFault}
use Rattle.dq_dataset.specs.declared.header.Syntax.TheVariants.{Explicit}
use Rattle.dq_dataset.specs.Tree.{ElementList, no_elements}
use Rattle.dq_dataset.specs.Canonical.{HasLengths}
use Rattle.dq_dataset.specs.Editing.{cut_out}
use Rattle.dq_dataset.proofs.Large.{small_has_lengths}
use Rattle.dq_vr.specs.StudyRoot.{kept_attributes, study_attributes, series_attributes, image_attributes}
use Rattle.dq_tables.specs.Records.{data_set_of}
use Rattle.dq_store.specs.Levels.{IsReadBack}
use Rattle.dq_store.proofs.Sieved.{AllListed, study_kept, series_kept, image_kept, cut_twice}
use Rattle.dq_store.proofs.laws.made_data_sets_are_read_back.Goals as goal

pub returns : goal.returns
unfolding data_set_of
returns c = λ octets syntax are_octets d read small.
    let kept = cut_out kept_attributes d in
    let spelled = c.spelling_law.ensures.spelled syntax octets d are_octets read in
    let facts = c.spelling_law.ensures.facts syntax octets d spelled in
    let lengths = small_has_lengths kept small in
    let back : (tags : List Tag) → AllListed tags kept_attributes → IsReadBack tags d = λ tags listed.
    (let cut = subst (HasLengths Explicit) (cut_twice tags d listed) (c.editing_law.ensures.cut_lengths Explicit tags kept lengths) in
    ap (λ (r : Result ElementList ReadFault). result_unwrap_or r no_elements)
    (c.written_law.ensures.read_back Explicit (cut_out tags d) (c.editing_law.ensures.cut tags d facts) cut tt)) in
    (back study_attributes study_kept, back series_attributes series_kept, back image_attributes image_kept)
