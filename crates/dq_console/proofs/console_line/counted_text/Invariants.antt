use Rattle.std.proofs.Common.{◌≡◌, take}
use Rattle.dq_console.specs.ConsoleLines.{counted_text}
use Rattle.dq_console.proofs.console_line.counted_text.Given as goal

abbrev pub invariant-loop-counted : goal.invariant-loop-counted
invariant-loop-counted l = l.text.items ≡ counted_text (take l.counted-index l.all)
