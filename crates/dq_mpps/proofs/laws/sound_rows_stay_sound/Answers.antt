use Rattle.std.proofs.Common.{Some}
use Rattle.dq_dataset.specs.declared.header.Syntax.TheVariants.{Explicit}
use Rattle.dq_dataset.specs.Editing.{merged_data_set}
use Rattle.dq_dataset.specs.Facts.{IsDataSet}
use Rattle.dq_tables.specs.declared.row.Row.{Row}
use Rattle.dq_tables.specs.Records.{data_set_of}
use Rattle.dq_tables.specs.Sound.{IsSound}
use Rattle.dq_mpps.specs.NSet.{kept_data_set}
use Rattle.dq_mpps.proofs.StaysSound.{short_octets, short_step, created_stays, changed_stays, new_sound, changed_sound, each_found}
use Rattle.dq_mpps.proofs.laws.sound_rows_stay_sound.Goals as goal

pub returns-clause-created : goal.returns-clause-created
returns-clause-created c = λ h limits rows message syntax are_octets sound.
    created_stays IsSound h rows sound message syntax limits (λ d short read named free.
    let spelled = c.spelling_law.ensures.spelled syntax message.octets d are_octets read in
    let lengths = c.spelling_law.ensures.lengths syntax Explicit message.octets d spelled (short_octets message short) in
    let back = c.written_law.ensures.read_back Explicit d (c.spelling_law.ensures.facts syntax message.octets d spelled) lengths tt in
    new_sound h rows sound message.command.sop_instance d back named free)

pub returns-clause-changed : goal.returns-clause-changed
returns-clause-changed c = λ h rows message syntax are_octets sound all.
    changed_stays IsSound h rows sound message syntax (λ d read r there short.
    let Each = λ (row : Row). IsDataSet (data_set_of row.octets) in
    let uid = message.command.sop_instance in
    let step = merged_data_set (kept_data_set (Some r)) d in
    let sent = c.spelling_law.ensures.facts syntax message.octets d (c.spelling_law.ensures.spelled syntax message.octets d are_octets read) in
    let facts = c.editing_law.ensures.merged (kept_data_set (Some r)) d (each_found Each h uid rows r all there) sent in
    changed_sound h rows sound uid step (c.written_law.ensures.read_back Explicit step facts (short_step step short) tt) r there)
