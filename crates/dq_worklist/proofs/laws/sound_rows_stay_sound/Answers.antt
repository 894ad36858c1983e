use Rattle.dq_dataset.specs.declared.header.Syntax.TheVariants.{Explicit}
use Rattle.dq_tables.specs.Sound.{IsSound}
use Rattle.dq_worklist.proofs.Orders.{short_order}
use Rattle.dq_worklist.proofs.StaysSound.{read_within, scheduled_stays, withdrawn_stays, put_sound, removed_sound}
use Rattle.dq_worklist.proofs.laws.sound_rows_stay_sound.Goals as goal

pub returns-clause-scheduled : goal.returns-clause-scheduled
returns-clause-scheduled c = λ h limits rows octets are_octets sound.
    scheduled_stays IsSound h rows sound limits octets (λ d read id own free.
    let within = read_within octets d read in
    let spelled = c.spelling_law.ensures.spelled Explicit octets d are_octets within.1 in
    let kept = short_order octets d spelled within.0 in
    let back = c.written_law.ensures.read_back Explicit d (c.spelling_law.ensures.facts Explicit octets d spelled) kept.lengths tt in
    put_sound h rows sound id d kept back own free)

pub returns-clause-withdrawn : goal.returns-clause-withdrawn
returns-clause-withdrawn c = λ h rows id sound. withdrawn_stays IsSound h rows sound id (removed_sound h rows sound id)
