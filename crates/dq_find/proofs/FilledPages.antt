-- A page that the answers left of a search are taken into, look after look.
use Rattle.std.proofs.Common.{◌≡◌, ◌++◌, ℕ, List, [], Ok, sym, ap, subst, ◌∙◌}
use Rattle.dq_dataset.specs.Tree.{ElementList}
use Rattle.dq_match.specs.Parts.{with_others}
use Rattle.dq_match.specs.declared.page_collector.PageCollector.{PageCollector}
use Rattle.dq_tables.proofs.TableCalls.{reads_then}
use Rattle.dq_tables.specs.Rows.{Record, of}
use Rattle.dq_tables.specs.TableStates.{State, Reads}
use Rattle.dq_archive.proofs.PastLookups.{same_then}
use Rattle.dq_archive.specs.Additions.{without}
use Rattle.dq_archive.specs.PastArchives.{IsSame, state_in, records_in}
use Rattle.dq_archive.specs.declared.past.Past.{Past}
use Rattle.dq_find.specs.OpenSearches.{left_of, next_answers, TakesNext}
use Rattle.dq_find.specs.StudyImages.{Takes, TakesAnswers}
use Rattle.dq_find.specs.declared.open_search.OpenSearch.{OpenSearch}
use Rattle.dq_find.proofs.StudyImages.{StillTakes, full_takes, some_taken}

-- what was taken so far
pub record TakenSoFar {T : Type 0} (state : T → State) (old now : Past T) (before after : OpenSearch) (given filled : PageCollector) : Type 0 where
  pub same : IsSame old now
  pub reads : Reads (state_in state old) (state_in state now) (Ok (tt {0}))
  pub asked : (after.called ≡ before.called) × (after.query ≡ before.query)
  pub left : (state_in state now).honest → StillTakes filled (left_of after (records_in state old)) given (left_of before (records_in state old))

module _ {T : Type 0} (state : T → State) (old now : Past T) (before after : OpenSearch) (given filled : PageCollector)
    (so_far : TakenSoFar state old now before after given filled) where
  -- it is full
  pub taken_full : ((others : List ElementList) → with_others filled others ≡ filled.answers) → TakesAnswers state old now given filled (left_of before) (Ok (tt {0}))
  taken_full full = record {
    same = so_far.same;
    reads = so_far.reads;
    taken = λ h. full_takes filled given (left_of after (records_in state old)) (left_of before (records_in state old)) full (so_far.left h);
  }

  -- nothing is left
  pub taken_all : ((records : List Record) → left_of after records ≡ []) → TakesAnswers state old now given filled (left_of before) (Ok (tt {0}))
  taken_all none = record {
    same = so_far.same;
    reads = so_far.reads;
    taken = λ h others. ap (λ (left : List ElementList). with_others filled (left ++ others)) (sym (none (records_in state old))) ∙ so_far.left h others;
  }

  -- the next were looked at
  pub taken_next : (new : Past T) (most : ℕ) (later : OpenSearch) (next : PageCollector) → TakesNext state now new most after later filled next (Ok (tt {0}))
      → TakenSoFar state old new before later given next
  taken_next new most later next looked = record {
    same = same_then old now new so_far.same looked.same;
    reads = reads_then (state_in state old) (state_in state now) (state_in state new) tt (Ok tt) so_far.reads looked.reads;
    asked = (looked.asked.0 ∙ so_far.asked.0, looked.asked.1 ∙ so_far.asked.1);
    left = λ h.
        (let was = looked.reads.goes.was_honest h in
        let records = records_in state old in
        let stay : records_in state now ≡ records =
        λ i. without (so_far.same.later i).now (of (so_far.same.institution i).now.name (so_far.reads.same was i)) in
        let takes : Takes filled (next_answers most after records) next =
        λ others. looked.taken h others ∙ ap (λ (rs : List Record). with_others filled (next_answers most after rs ++ others)) stay in
        let left_is : left_of after records ≡ next_answers most after records ++ left_of later records =
        subst (λ (rs : List Record). left_of after rs ≡ next_answers most after rs ++ left_of later rs) stay (looked.left h) in
        some_taken filled next given (next_answers most after records) (left_of later records) (left_of before records) takes
        (λ others. ap (λ (left : List ElementList). with_others filled (left ++ others)) (sym left_is) ∙ so_far.left was others));
  }
