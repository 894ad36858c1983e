use Rattle.std.proofs.Common.{◌≡◌, ◌∙◌, [], ◌++◌, Ok, drop, sym, ap, append-nil}
use Rattle.std.specs.Option.{option_copied}
use Rattle.dq_dimse.specs.Statuses.{success}
use Rattle.dq_match.specs.Parts.{with_others}
use Rattle.dq_match.specs.ShownPages.{found_page, shown_page}
use Rattle.dq_tables.specs.Rows.{of}
use Rattle.dq_tables.proofs.TableCalls.{reads_then, reads_right}
use Rattle.dq_archive.specs.Additions.{without}
use Rattle.dq_archive.specs.PastArchives.{state_in, records_in}
use Rattle.dq_archive.proofs.PastLookups.{same_then}
use Rattle.dq_find.specs.OpenSearches.{left_of}
use Rattle.dq_find.specs.Queries.{answers_behind, found_behind}
use Rattle.dq_find.proofs.key_pages.answers_behind.Goals as goal

pub returns : goal.returns
returns g c =
    let state = g.T.Tables.state in
    let old = c.args.archive.now in
    let one = c.begin.new.archive in
    let two = c.skip.new.archive in
    let three = c.fill.new.archive in
    let records = records_in state old in
    let page = c.args.page in
    let key = option_copied c.args.after in
    let begun = c.in_ok-search.ensures in
    let skipped = c.in_ok-offset.ensures in
    let filled = c.in_ok-fill.ensures in
    let offset = c.in_ok-offset.offset in
    let first = same_then old one two begun.same skipped.same in
    let firstly = reads_then (state_in state old) (state_in state one) (state_in state two) c.in_ok-search.search (Ok offset) begun.reads skipped.reads in
    record {
      same = same_then old two three first filled.same;
      reads = reads_right (state_in state old) (state_in state three) tt _
          (reads_then (state_in state old) (state_in state two) (state_in state three) offset (Ok tt) firstly filled.reads);
      answered = λ h.
          (let later = filled.reads.goes.was_honest h in
          let soon = skipped.reads.goes.was_honest later in
          let stay_one : records_in state one ≡ records =
          λ i. without (begun.same.later i).now (of (begun.same.institution i).now.name (begun.reads.same soon i)) in
          let stay_two : records_in state two ≡ records =
          λ i. without (first.later i).now (of (first.institution i).now.name (firstly.same later i)) in
          let left = left_of c.skip.new.self records in
          let passed : drop offset left ≡ drop page.offset (left_of c.in_ok-search.search records) =
          (λ i. drop offset (left_of c.skip.new.self (sym stay_one i))) ∙ skipped.passed later ∙ (λ i. drop page.offset (left_of c.in_ok-search.search (stay_one i))) in
          let answers : c.into_answers.result ≡ shown_page page (answers_behind key records [] c.in-Ok.query) =
          c.into_answers.ensures ∙ filled.taken h []
          ∙ (λ i. with_others (c.of_page-collector.ensures i) (left_of c.skip.new.self (stay_two i) ++ []))
          ∙ ap (shown_page (record { offset = offset; limit = page.limit })) (append-nil left)
          ∙ ap (shown_page (record { offset = 0; limit = page.limit })) passed
          ∙ ap (shown_page page) (begun.all soon) in
          (λ i. record { status = success; optional = c.in-Ok.query.optional; answers = answers i })
          ∙ ap (λ asked. found_page page (found_behind key records [] asked)) (sym c.in-Ok.is));
    }
