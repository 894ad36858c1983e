use Rattle.std.proofs.Common.{take, map}
use Rattle.std.specs.Io.KnownBytes.{Appends}
use Rattle.dq_console.specs.ConsoleLines.{json_lines}
use Rattle.dq_app.proofs.Exported.{data_set_in}
use Rattle.dq_app.proofs.exporting.put_rows.Given as goal

abbrev pub invariant-loop-row : goal.invariant-loop-row
invariant-loop-row g l = record {
  written : Appends (g.W.Sink.written l.initial.output) (g.W.Sink.written l.output) (json_lines (map data_set_in (take l.row-index l.rows)));
  fails : g.W.Sink.may_fail l.output → g.W.Sink.may_fail l.initial.output;
}
