use Rattle.std.proofs.Common.{◌++◌, ◌≤◌, ◌∙◌, List, length, sym, ap, arith}
use Rattle.dq_match.specs.Parts.{with_others}
use Rattle.dq_tables.specs.declared.row.Row.{Row}
use Rattle.dq_archive.specs.PastArchives.{records_in}
use Rattle.dq_find.proofs.FromPlace.{past_all}
use Rattle.dq_find.proofs.RowAnswers.{row_answers}
use Rattle.dq_find.proofs.search.Search.take_answers.Goals as goal

pub returns : goal.returns
returns g c =
    let past : length c.args.rows.now ≤ c.loop-row.row-index = omega arith in
    let records = records_in g.T.Tables.state c.args.archive.now in
    let search = c.args.self.now in
    let so_far = c.loop-row.invariant in
    record {
      same = so_far.same;
      reads = so_far.reads;
      taken = λ h others.
          sym (ap (λ (rows : List Row). with_others c.loop-row.page (row_answers records search.called.now search.query.now rows ++ others))
          (past_all c.args.rows.now c.loop-row.row-index past))
          ∙ so_far.fact h others;
    }
