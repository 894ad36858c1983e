use Rattle.std.proofs.Common.{◌∙◌, [], sym, ap}
use Rattle.dq_dimse.specs.Statuses.{success}
use Rattle.dq_match.specs.ShownPages.{found_page, shown_page}
use Rattle.dq_tables.specs.declared.row.Kind.TheVariants.{Series as SeriesKind}
use Rattle.dq_tables.specs.Lookups.{records_above}
use Rattle.dq_tables.proofs.TableCalls.{reads_right}
use Rattle.dq_archive.specs.PastArchives.{state_in, records_in}
use Rattle.dq_find.specs.StudyImages.{found_in_study}
use Rattle.dq_find.proofs.StudyImages.{answers_of_series, page_of_study}
use Rattle.dq_find.proofs.study_images.answers_in_study.Goals as goal

pub returns : goal.returns
returns g c =
    let state = g.T.Tables.state in
    let old = c.args.archive.now in
    let new = c.take_study.new.archive in
    let records = records_in state old in
    let query = c.in-Ok.query in
    let took = c.in_ok-take_study.ensures in
    record {
      same = took.same;
      reads = reads_right (state_in state old) (state_in state new) tt _ took.reads;
      answered = λ h.
          (let shown = c.into_answers.ensures
          ∙ page_of_study c.key_above-study.result.now query c.args.page c.of_page-collector.result c.take_study.new.page records c.of_page-collector.ensures (took.taken h)
          ∙ (λ i. shown_page c.args.page (answers_of_series records [] query (records_above SeriesKind (c.key_above-study.ensures i) records))) in
          (λ i. record { status = success; optional = query.optional; answers = shown i })
          ∙ ap (λ asked. found_page c.args.page (found_in_study records asked)) (sym c.in-Ok.is));
    }
