use Rattle.std.proofs.Common.{◌≡◌, ◌++◌, take}
use Rattle.dq_console.specs.ConsoleLines.{json_lines}
use Rattle.dq_console.proofs.console_line.put_lines.Given as goal

abbrev pub invariant-loop-answer : goal.invariant-loop-answer
invariant-loop-answer l = l.text.items ≡ l.initial.text.items ++ json_lines (take l.answer-index l.answers)
