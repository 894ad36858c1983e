use Rattle.std.proofs.Common.{ap, List}
use Rattle.dq_dataset.specs.declared.header.Syntax.TheVariants.{Explicit}
use Rattle.dq_dataset.specs.Editing.{merged_data_set}
use Rattle.dq_tables.specs.Rows.{Edit, records_after_edits}
use Rattle.dq_mpps.specs.ChangedStep.{step_at}
use Rattle.dq_mpps.proofs.ChangedStep.{changed_is}
use Rattle.dq_mpps.proofs.Refusals.{changed_unless}
use Rattle.dq_mpps.proofs.laws.changed_steps_hold_what_was_sent.Goals as goal

pub returns-clause-changed : goal.returns-clause-changed
returns-clause-changed c = λ records message syntax are_octets are_kept.
    changed_is records message syntax are_kept
    (λ d read. c.spelling_law.ensures.facts syntax message.octets d (c.spelling_law.ensures.spelled syntax message.octets d are_octets read))
    (λ sent are_sent lengths.
    let kept = step_at message.command.sop_instance records in
    c.written_law.ensures.read_back Explicit (merged_data_set kept sent) (c.editing_law.ensures.merged kept sent are_kept are_sent) lengths tt)

pub returns-clause-refused : goal.returns-clause-refused
returns-clause-refused c = λ records message syntax refused.
    ap (λ (es : List Edit). records_after_edits es records) (changed_unless records message syntax refused)
