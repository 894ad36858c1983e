use Rattle.std.proofs.Common.{sym, ap, ◌∙◌}
use Rattle.dq_worklist.specs.EntryReads.{last_key}
use Rattle.dq_worklist.proofs.OrderedReads.{last_row}
use Rattle.dq_worklist.proofs.query_answers.last_key.Goals as goal

pub returns : goal.returns
returns c =
    sym (ap last_key (sym c.into_inner-rows.ensures ∙ c.in_ok-last.ensures.items) ∙ last_row c.pop.new.self.items c.in_ok-last.last)
