use Rattle.std.proofs.Common.{take}
use Rattle.std.specs.Io.KnownBytes.{Appends}
use Rattle.dq_tables.specs.Rows.{of}
use Rattle.dq_console.specs.ConsoleLines.{json_lines}
use Rattle.dq_app.specs.Exports.{exported_data_sets}
use Rattle.dq_app.specs.Program.{AreOnlyRead}
use Rattle.dq_app.proofs.exporting.put_kinds.Given as goal

abbrev pub invariant-loop-kind : goal.invariant-loop-kind
invariant-loop-kind g l = record {
  written : (g.T.Tables.state l.tables).honest → Appends (g.W.Sink.written l.initial.output) (g.W.Sink.written l.output)
      (json_lines (exported_data_sets (of l.name (g.T.Tables.state l.initial.tables).rows) (take l.kind-index l.kinds)));
  kept : AreOnlyRead (g.T.Tables.state l.initial.tables) (g.T.Tables.state l.tables);
  fails : g.W.Sink.may_fail l.output → g.W.Sink.may_fail l.initial.output;
}
