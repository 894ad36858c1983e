use Rattle.std.proofs.Common.{◌≡◌, ◌++◌, map}
use Rattle.dq_wires.specs.Looping.{capture_number, sent_number}
use Rattle.dq_wires.proofs.loopback.looping.sent_on.Given as goal

abbrev pub invariant-loop-line : goal.invariant-loop-line
invariant-loop-line l = record {
  parts : l.yielded ++ l.line-iterator.rest.items ≡ l.fn.lines.items;
  numbers : map sent_number l.all.items ≡ map capture_number l.yielded;
}
