use Rattle.dq_value.proofs.Cuts.{range_read, range_only}
use Rattle.dq_value.proofs.ranges.range_law.Goals as goal

pub returns-clause-read : goal.returns-clause-read
returns-clause-read c = range_read

pub returns-clause-only : goal.returns-clause-only
returns-clause-only c = range_only
