use Rattle.dq_dataset.proofs.Edits.{cut_is, cut_has_lengths, merged_is, merged_has_lengths}
use Rattle.dq_dataset.proofs.laws.editing_law.Goals as goal

pub returns-clause-cut : goal.returns-clause-cut
returns-clause-cut c = cut_is

pub returns-clause-cut_lengths : goal.returns-clause-cut_lengths
returns-clause-cut_lengths c = cut_has_lengths

pub returns-clause-merged : goal.returns-clause-merged
returns-clause-merged c = merged_is

pub returns-clause-merged_lengths : goal.returns-clause-merged_lengths
returns-clause-merged_lengths c = merged_has_lengths
