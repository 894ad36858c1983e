use Rattle.std.proofs.Common.{◌≡◌, ◌++◌, take}
use Rattle.std.specs.List.{flat_map}
use Rattle.dq_captures.specs.Reports.{every_kind, count_text}
use Rattle.dq_replay.proofs.task.put_line.Given as goal

abbrev pub invariant-loop-kind : goal.invariant-loop-kind
invariant-loop-kind l = record {
  text : l.text.items
      ≡ l.initial.text.items ++ flat_map (count_text l.initial.tables.kept.items l.name) (take l.kind-index every_kind);
  rows : l.tables.kept.items ≡ l.initial.tables.kept.items;
}
