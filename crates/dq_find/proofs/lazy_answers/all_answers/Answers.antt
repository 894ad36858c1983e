use Rattle.std.proofs.Common.{◌≡◌, ◌∙◌, ℕ, Result, Ok, sym, ap}
use Rattle.dq_dimse.specs.Statuses.{success}
use Rattle.dq_tables.specs.Rows.{of}
use Rattle.dq_tables.proofs.TableCalls.{reads_then, reads_right}
use Rattle.dq_archive.specs.Additions.{without}
use Rattle.dq_archive.specs.PastArchives.{state_in, records_in}
use Rattle.dq_archive.proofs.PastLookups.{same_then}
use Rattle.dq_find.specs.LazyAnswers.{answers_then, found_then}
use Rattle.dq_find.specs.PartialAnswers.{PartialAnswers}
use Rattle.dq_find.proofs.FoundAnswers.{all_found}
use Rattle.dq_find.proofs.lazy_answers.all_answers.Goals as goal

pub returns-in-Err : goal.returns-in-Err
returns-in-Err g c =
    let state = g.T.Tables.state in
    let old = c.args.archive.now in
    let records = records_in state old in
    let begun = c.in_ok-begun.ensures in
    record {
      same = begun.same;
      reads = reads_right (state_in state old) (state_in state c.begin_at.new.archive) c.in_ok-begun.begun _ begun.reads;
      answered = λ h. c.refused.ensures
          ∙ ap (λ (b : Result PartialAnswers ℕ). found_then b records) (sym c.in-Err.is) ∙ begun.found h;
    }

pub returns : goal.returns
returns g c =
    let state = g.T.Tables.state in
    let old = c.args.archive.now in
    let mid = c.begin_at.new.archive in
    let new = c.find.new.archive in
    let records = records_in state old in
    let begun = c.in_ok-begun.ensures in
    let found = c.in_ok-find.ensures in
    let before = c.in-Ok.lazy in
    let after = c.find.new.self in
    record {
      same = same_then old mid new begun.same found.same;
      reads = reads_right (state_in state old) (state_in state new) tt c.into_found.result
          (reads_then (state_in state old) (state_in state mid) (state_in state new) c.in_ok-begun.begun (Ok tt) begun.reads found.reads);
      answered = λ h.
          (let soon = found.reads.goes.was_honest h in
          let stay : records_in state mid ≡ records =
          λ i. without (begun.same.later i).now (of (begun.same.institution i).now.name (begun.reads.same soon i)) in
          let answers : after.found ≡ answers_then before records =
          all_found after (records_in state mid) found.enough ∙ found.stays h ∙ ap (answers_then before) stay in
          c.into_found.ensures
          ∙ (λ i. record { status = success; optional = (found.asked i).optional; answers = answers i })
          ∙ ap (λ (b : Result PartialAnswers ℕ). found_then b records) (sym c.in-Ok.is) ∙ begun.found soon);
    }
