use Rattle.dq_value.proofs.Moments.{date_read, date_only}
use Rattle.dq_value.proofs.dates.date_law.Goals as goal

pub returns-clause-read : goal.returns-clause-read
returns-clause-read c = date_read

pub returns-clause-only : goal.returns-clause-only
returns-clause-only c = date_only
