use Rattle.std.proofs.Common.{◌∙◌, [], ◌++◌, List, sym, ap, append-nil}
use Rattle.dq_dataset.specs.Tree.{ElementList}
use Rattle.dq_match.specs.Parts.{with_others}
use Rattle.dq_tables.proofs.TableCalls.{reads_right}
use Rattle.dq_archive.specs.PastArchives.{state_in, records_in}
use Rattle.dq_find.specs.OpenSearches.{left_of, next_answers}
use Rattle.dq_find.proofs.open_search.OpenSearch.next_page.Goals as goal

pub returns : goal.returns
returns g c =
    let state = g.T.Tables.state in
    let old = c.args.archive.now in
    let new = c.take_next.new.archive in
    let records = records_in state old in
    let answers = next_answers c.args.most c.args.self.now records in
    let next = c.in_ok-take_next.ensures in
    record {
      same = next.same;
      reads = reads_right (state_in state old) (state_in state new) tt c.into_answers.result next.reads;
      asked = next.asked;
      kept = tt;
      page = λ h.
          next.left h
          ∙ ap (λ (page : List ElementList). page ++ left_of c.take_next.new.self records)
          (sym (c.into_answers.ensures ∙ next.taken h [] ∙ (λ i. with_others (c.of_all-page.ensures i) (answers ++ [])) ∙ append-nil answers));
      looked = next.looked;
    }
