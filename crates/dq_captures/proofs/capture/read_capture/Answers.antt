use Rattle.dq_captures.specs.Captures.{lines_of}
use Rattle.dq_captures.proofs.BroughtOctets.{read_brings}
use Rattle.dq_captures.proofs.Steps.{AreCapture-only}
use Rattle.dq_captures.proofs.capture.read_capture.Goals as goal

pub returns-clause-only : goal.returns-clause-only
returns-clause-only c = AreCapture-only (lines_of c.args.text.now) (λ v. v.items) c.read_lines.result c.read_lines.ensures.events c.read_lines.ensures.line

pub returns-clause-octets : goal.returns-clause-octets
returns-clause-octets c = read_brings (lines_of c.args.text.now) (λ v. v.items) c.read_lines.result c.read_lines.ensures.events
