use Rattle.std.proofs.Common.{◌≡◌, ◌++◌, take}
use Rattle.std.specs.List.{flat_map}
use Rattle.dq_captures.specs.Reports.{every_kind}
use Rattle.dq_console.specs.ConsoleLines.{count_text}
use Rattle.dq_console.proofs.console_line.put_counted_line.Given as goal

abbrev pub invariant-loop-kind : goal.invariant-loop-kind
invariant-loop-kind l =
    l.text.items ≡ l.initial.text.items ++ flat_map (count_text l.counted.counts) (take l.kind-index every_kind)
