use Rattle.dq_captures.specs.Captures.{telling_lines}
use Rattle.dq_captures.proofs.BroughtOctets.{lines_bring}
use Rattle.dq_captures.proofs.capture.captures_bring_octets.Goals as goal

pub returns : goal.returns
returns c = λ lines events capture. lines_bring (telling_lines lines) events capture.spelled
