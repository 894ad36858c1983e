use Rattle.dq_value.proofs.Moments.{time_read, time_only}
use Rattle.dq_value.proofs.times.time_law.Goals as goal

pub returns-clause-read : goal.returns-clause-read
returns-clause-read c = time_read

pub returns-clause-only : goal.returns-clause-only
returns-clause-only c = time_only
