use Rattle.std.proofs.Common.{◌∙◌, sym, ap, refl}
use Rattle.dq_dimse.specs.Statuses.{success}
use Rattle.dq_tables.proofs.TableCalls.{reads_nothing, reads_right}
use Rattle.dq_archive.specs.PastArchives.{state_in, records_in}
use Rattle.dq_find.specs.PartialAnswers.{PartialAnswers}
use Rattle.dq_find.specs.LazyAnswers.{answers_then}
use Rattle.dq_find.specs.Queries.{answers_of_records, answers_behind, found_by}
use Rattle.dq_find.proofs.lazy_answers.begin_at.Goals as goal

pub returns-in-Err : goal.returns-in-Err
returns-in-Err g c =
    let state = g.T.Tables.state in
    let it = c.args.archive.now in
    record {
      same = record { tables = refl; institution = refl; later = refl };
      reads = reads_nothing (state_in state it) _;
      found = λ h. ap (found_by (records_in state it) c.args.called.now) (sym c.in-Err.is);
    }

pub returns : goal.returns
unfolding answers_of_records answers_behind
returns g c =
    let state = g.T.Tables.state in
    let it = c.args.archive.now in
    let records = records_in state it in
    let begun = c.in_ok-search.ensures in
    record {
      same = begun.same;
      reads = reads_right (state_in state it) (state_in state c.begin.new.archive) c.in_ok-search.search _ begun.reads;
      found = λ h.
          ap (λ (lazy : PartialAnswers). record { status = success; optional = lazy.search.query.optional; answers = answers_then lazy records }) c.new.ensures
          ∙ (λ i. record { status = success; optional = (begun.asked.1 i).optional; answers = begun.all h i })
          ∙ ap (found_by records c.args.called.now) (sym c.in-Ok.is);
    }
