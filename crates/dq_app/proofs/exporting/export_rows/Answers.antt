use Rattle.std.proofs.Common.{◌≡◌, List, inl, inr, refl}
use Rattle.std.specs.Io.KnownBytes.{Appends}
use Rattle.dq_tables.specs.declared.row.Row.{Row}
use Rattle.dq_cli.specs.CommandLine.{exporting_in}
use Rattle.dq_app.specs.Exports.{CutsLines, export_text, exported_of}
use Rattle.dq_app.specs.Program.{unclosed_store}
use Rattle.dq_app.proofs.Inputs.{if_error}
use Rattle.dq_app.proofs.Storing.{over_found}
use Rattle.dq_app.proofs.exporting.export_rows.Goals as goal

pub returns-clause-done : goal.returns-clause-done
returns-clause-done g c =
    let e = exporting_in c.args.export in
    let told = c.in_ok-put_export.ensures in
    let left = c.put_export.new.tables in
    let kept = (g.Rt.File.Tables.state left).rows in
    let IsSo : List Row → Type 0 = λ (rows : List Row). (kept ≡ rows)
    × Appends (g.W.Sink.written c.args.output.now) (g.W.Sink.written c.put_export.new.output) (export_text rows e) in (
      kept,
      c.in_ok-close.ensures,
      over_found g.Rt.File.Tables.state (g.Rt.Stores.stored c.args.rt.now) IsSo _ e.store
          (left, λ honest. let was = c.put_export.ensures.kept honest in (was.0, (was.1, told.done honest))) c.in_ok-tables.ensures.rows,
    )

pub returns-in_err-put_export-clause-stops : goal.returns-in_err-put_export-clause-stops
returns-in_err-put_export-clause-stops g c =
    let e = exporting_in c.args.export in
    let cut = c.in_err-put_export.ensures in
    let left = c.put_export.new.tables in
    let IsSo : List Row → Type 0 = λ (rows : List Row). CutsLines (g.W.Sink.written c.args.output.now) (g.W.Sink.written c.put_export.new.output) (exported_of rows e) _ in
    if_error _ c.from_residual-in_err-put_export.result _ c.from_residual-in_err-put_export.ensures.1
    (inr (inl (
      cut.ends,
      over_found g.Rt.File.Tables.state (g.Rt.Stores.stored c.args.rt.now) IsSo _ e.store
          (left, λ honest. ((c.put_export.ensures.kept honest).0, cut.cut honest)) c.in_ok-tables.ensures.rows,
    )))

pub returns-in_err-close-clause-stops : goal.returns-in_err-close-clause-stops
returns-in_err-close-clause-stops g c =
    let e = exporting_in c.args.export in
    let left = c.put_export.new.tables in
    let IsSo : List Row → Type 0 = λ (rows : List Row). Appends (g.W.Sink.written c.args.output.now) (g.W.Sink.written c.put_export.new.output) (export_text rows e) in
    if_error _ c.from_residual-in_err-close.result unclosed_store c.from_residual-in_err-close.ensures.1
    (inr (inr (
      refl,
      over_found g.Rt.File.Tables.state (g.Rt.Stores.stored c.args.rt.now) IsSo _ e.store
          (left, λ honest. ((c.put_export.ensures.kept honest).0, c.in_ok-put_export.ensures.done honest)) c.in_ok-tables.ensures.rows,
    )))
