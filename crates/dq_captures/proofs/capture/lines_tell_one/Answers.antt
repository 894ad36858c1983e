use Rattle.dq_captures.proofs.OneSpelling.{same_events}
use Rattle.dq_captures.proofs.capture.lines_tell_one.Goals as goal

pub returns : goal.returns
returns c = λ lines es fs first second. same_events _ es fs first.spelled second.spelled
