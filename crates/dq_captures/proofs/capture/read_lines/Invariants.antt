use Rattle.std.proofs.Common.{◌≡◌, length, take, None}
use Rattle.dq_core.specs.Histories.{newest_after}
use Rattle.dq_captures.specs.Captures.{lines_of, AreCapture}
use Rattle.dq_captures.proofs.capture.read_lines.Given as goal

abbrev pub invariant-loop-line : goal.invariant-loop-line
invariant-loop-line l = record {
  counted : l.number ≡ length l.yielded;
  read : AreCapture (take (length l.yielded) (lines_of l.text)) l.events.items;
  newest : l.newest ≡ newest_after None l.events.items;
}
