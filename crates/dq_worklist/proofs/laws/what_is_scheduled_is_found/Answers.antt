use Rattle.dq_dataset.specs.declared.header.Syntax.TheVariants.{Explicit}
use Rattle.dq_dataset.specs.DataSetReader.{data_set_read}
use Rattle.dq_worklist.proofs.Afterwards.{order_read, scheduled_is_there, scheduled_is_short, scheduled_is_answered}
use Rattle.dq_worklist.proofs.laws.what_is_scheduled_is_found.Goals as goal

pub returns-clause-there : goal.returns-clause-there
returns-clause-there c = scheduled_is_there

pub returns-clause-found : goal.returns-clause-found
returns-clause-found c = λ limits records octets edits order keys are_octets done read fit.
    let d = order.elements in
    let spelled = c.spelling_law.ensures.spelled Explicit octets d are_octets (order_read (data_set_read Explicit octets) order read) in
    let lengths = c.spelling_law.ensures.lengths Explicit Explicit octets d spelled (scheduled_is_short limits records octets edits done) in
    let back = c.written_law.ensures.read_back Explicit d (c.spelling_law.ensures.facts Explicit octets d spelled) lengths tt in
    scheduled_is_answered keys limits records octets edits order back done read fit
