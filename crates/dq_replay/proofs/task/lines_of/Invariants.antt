use Rattle.std.proofs.Common.{◌≡◌, take}
use Rattle.dq_captures.specs.Reports.{report_text}
use Rattle.dq_replay.proofs.task.lines_of.Given as goal

abbrev pub invariant-loop-name : goal.invariant-loop-name
invariant-loop-name l = record {
  text : l.text.items ≡ report_text l.initial.tables.kept.items (take l.name-index l.names);
  rows : l.tables.kept.items ≡ l.initial.tables.kept.items;
}
