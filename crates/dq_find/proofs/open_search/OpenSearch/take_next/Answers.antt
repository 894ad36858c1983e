use Rattle.std.proofs.Common.{◌≡◌, ◌∙◌, ◌++◌, List, Ok, map, refl, sym, ap}
use Rattle.std.specs.List.{filter_map}
use Rattle.dq_dataset.specs.Tree.{ElementList}
use Rattle.dq_match.specs.Parts.{with_others}
use Rattle.dq_match.proofs.Answering.{given_of_each}
use Rattle.dq_tables.specs.declared.row.Row.{Row}
use Rattle.dq_tables.specs.Rows.{record_of, row_of}
use Rattle.dq_tables.proofs.TableCalls.{reads_then}
use Rattle.dq_archive.specs.PastArchives.{state_in, records_in}
use Rattle.dq_archive.proofs.PastLookups.{same_then, records_stay}
use Rattle.dq_find.specs.Queries.{record_answer}
use Rattle.dq_find.specs.OpenSearches.{candidates_left, left_of, next_candidates, next_answers, left_after}
use Rattle.dq_find.proofs.RowAnswers.{row_answers}
use Rattle.dq_find.proofs.SearchPages.{page_first, passed}
use Rattle.dq_find.proofs.PastRecords.{asked_then}
use Rattle.dq_find.proofs.open_search.OpenSearch.take_next.Goals as goal

pub returns : goal.returns
unfolding left_of
returns g c =
    let state = g.T.Tables.state in
    let old = c.args.archive.now in
    let mid = c.next_rows.new.archive in
    let new = c.take_answers.new.archive in
    let name = old.institution.now.name in
    let before = c.args.self.now in
    let most = c.args.most in
    let records = records_in state old in
    let rows = c.in_ok-rows.rows in
    let found = c.in_ok-rows.ensures in
    let took = c.in_ok-take_answers.ensures in
    let next = map (row_of name) (next_candidates most records before.query before.cursor) in
    let was : (state_in state new).honest → (state_in state mid).honest = λ h. took.reads.goes.was_honest h in
    let left_is : (state_in state new).honest → c.pass.new.self ≡ left_after most next before.cursor =
    λ h. c.pass.ensures ∙ ap (λ (rs : List Row). left_after most rs before.cursor) (found.answered (was h)) in
    let ordered = λ (h : (state_in state new).honest). asked_then old.later.now name (state_in state old).rows before.query
    (c.honest_rows_are_sound.ensures.rising old.tables.now (found.reads.goes.was_honest (was h))) in
    record {
      same = same_then old mid new found.same took.same;
      reads = reads_then (state_in state old) (state_in state mid) (state_in state new) rows (Ok tt) found.reads took.reads;
      asked = (refl, refl);
      kept = tt;
      taken = λ h others.
          (let stay = records_stay state old mid new _ rows found (was h) in
          let given : c.as_slice-2.result.now ≡ next = c.as_slice-2.ensures ∙ found.answered (was h) in
          let answers_are : row_answers (records_in state mid) c.as_slice.result.now before.query c.as_slice-2.result.now ≡ next_answers most before records =
          (λ i. row_answers (stay i) (c.as_slice.ensures i) before.query (given i))
          ∙ given_of_each (λ (row : Row). record_answer records before.called before.query (record_of row)) (row_of name)
          (next_candidates most records before.query before.cursor) in
          took.taken h others ∙ ap (λ (answers : List ElementList). with_others c.args.page.now (answers ++ others)) answers_are);
      left = λ h.
          page_first name most c.requires.some records before.query (ordered h) before.called before.cursor
          ∙ (λ i. next_answers most before records ++ filter_map (record_answer records before.called before.query)
          (candidates_left records before.query (sym (left_is h) i)));
      looked = λ h.
          passed name most c.requires.some records before.query (ordered h) before.cursor
          ∙ (λ i. next_candidates most records before.query before.cursor ++ candidates_left records before.query (sym (left_is h) i));
    }
