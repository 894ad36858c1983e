use Rattle.std.proofs.Common.{List, OnOk, IfErr, subst, ap, ◌∙◌, map}
use Rattle.std.specs.Io.KnownBytes.{Appends}
use Rattle.dq_dataset.specs.Tree.{ElementList}
use Rattle.dq_console.specs.ConsoleLines.{json_lines}
use Rattle.dq_app.specs.Exports.{CutsLines}
use Rattle.dq_app.proofs.Exported.{data_set_in, of-records}
use Rattle.dq_app.proofs.exporting.put_kind.Goals as goal

pub returns-clause-done : goal.returns-clause-done
returns-clause-done g c = λ honest.
    let own = ap (map data_set_in) (c.as_slice.ensures ∙ c.in_ok-rows.ensures.found honest)
    ∙ of-records c.args.kind c.args.name.now (g.T.Tables.state c.args.tables.now).rows in
    subst (λ (data_sets : List ElementList). OnOk c.put_rows.result
    (Appends (g.W.Sink.written c.args.output.now) (g.W.Sink.written c.put_rows.new.output) (json_lines data_sets))) own c.put_rows.ensures.done

pub returns-clause-cut : goal.returns-clause-cut
returns-clause-cut g c = λ honest.
    let own = ap (map data_set_in) (c.as_slice.ensures ∙ c.in_ok-rows.ensures.found honest)
    ∙ of-records c.args.kind c.args.name.now (g.T.Tables.state c.args.tables.now).rows in
    subst (λ (data_sets : List ElementList). IfErr c.put_rows.result
    (CutsLines (g.W.Sink.written c.args.output.now) (g.W.Sink.written c.put_rows.new.output) data_sets)) own c.put_rows.ensures.cut
