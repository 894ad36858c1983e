use Rattle.std.proofs.Common.{◌≡◌, ◌∙◌, ℕ, List, Option, IfSome, refl, subst}
use Rattle.std.specs.List.{filter_map}
use Rattle.dq_match.specs.declared.keys.Nesting.TheVariants.{Outer}
use Rattle.dq_tables.proofs.TableCalls.{reads_right}
use Rattle.dq_archive.specs.PastArchives.{state_in, records_in}
use Rattle.dq_find.specs.Candidates.{named_record, query_candidates}
use Rattle.dq_find.specs.Queries.{record_answer, asked_records, records_behind, answers_behind}
use Rattle.dq_find.specs.OpenSearches.{left_of}
use Rattle.dq_find.proofs.PastRecords.{named_then_answered}
use Rattle.dq_find.proofs.open_search.OpenSearch.begin.Goals as goal

pub returns-in_default : goal.returns-in_default
unfolding left_of answers_behind
returns-in_default g c =
    let state = g.T.Tables.state in
    let it = c.args.archive.now in
    let query = c.args.query in
    let records = records_in state it in
    let few = c.in_ok-keys.ensures in
    record {
      same = few.same;
      reads = reads_right (state_in state it) (state_in state c.few_keys.new.archive) _ _ few.reads;
      asked = (c.in_ok-called.ensures, refl);
      all = λ h i. filter_map (record_answer records (c.in_ok-called.ensures i) query)
          (records_behind (c.in_ok-behind.ensures i) (asked_records records query));
    }

pub returns : goal.returns
unfolding left_of
returns g c =
    let state = g.T.Tables.state in
    let it = c.args.archive.now in
    let query = c.args.query in
    let records = records_in state it in
    let few = c.in_ok-keys.ensures in
    let keys = c.in-Some.keys in
    record {
      same = few.same;
      reads = reads_right (state_in state it) (state_in state c.few_keys.new.archive) _ _ few.reads;
      asked = (c.in_ok-called.ensures, refl);
      all = λ h.
          (let named : filter_map (named_record records query) keys ≡ query_candidates records query =
          subst (λ (found : Option (List (List ℕ))). IfSome found (λ keys. filter_map (named_record records query) keys ≡ query_candidates records query))
          c.in-Some.is (few.named h) in
          (λ i. filter_map (record_answer records (c.in_ok-called.ensures i) query) (filter_map (named_record records query) (c.keys_behind.ensures i)))
          ∙ named_then_answered it.later.now it.institution.now.name (state_in state it).rows c.args.called.now query _ keys named
          (c.honest_rows_are_sound.ensures.sound it.tables.now (few.reads.goes.was_honest h)) c.has_facts.ensures
          (λ held fit. ((c.keys_are_met_alone_and_as_a_period.ensures.each Outer query.keys held).0 fit).0)
          (record { named = c.day_numbers_are_in_order.ensures.named; ordered = c.day_numbers_are_in_order.ensures.ordered }));
    }
