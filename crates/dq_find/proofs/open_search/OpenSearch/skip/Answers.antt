use Rattle.std.proofs.Common.{◌≡◌, ◌∙◌, ◌+◌, ◌-◌, None, List, map, take, drop, refl, sym, ap, arith}
use Rattle.std.specs.List.{filter_map}
use Rattle.dq_tables.specs.declared.row.Kind.TheVariants.{Study as StudyKind}
use Rattle.dq_tables.specs.Rows.{Record, row_of}
use Rattle.dq_tables.specs.Lookups.{records_of}
use Rattle.dq_tables.proofs.TableCalls.{reads_right}
use Rattle.dq_archive.specs.PastArchives.{state_in, records_in}
use Rattle.dq_find.specs.declared.open_search.SearchCursor.TheVariants.{Under}
use Rattle.dq_find.specs.OpenSearches.{candidates_left, left_of, left_after, last_key, under_after}
use Rattle.dq_find.specs.Queries.{record_answer, asked_records}
use Rattle.dq_find.proofs.AskedRows.{studies_asked}
use Rattle.dq_find.proofs.PastRecords.{asked_then}
use Rattle.dq_find.proofs.SkippedStudies.{skipped}
use Rattle.dq_find.proofs.open_search.OpenSearch.skip.Goals as goal

pub returns : goal.returns
unfolding left_of
returns g c =
    let state = g.T.Tables.state in
    let old = c.args.archive.now in
    let name = old.institution.now.name in
    let before = c.args.self.now in
    let count = c.args.count in
    let records = records_in state old in
    let rows = c.in_ok-rows in
    record {
      same = rows.ensures.same;
      reads = reads_right (state_in state old) (state_in state c.rows_from.new.self) rows.rows 0 rows.ensures.reads;
      asked = (refl, refl);
      passed = λ h.
          (let first = c.is_at_first_study.ensures c.if-not-is_at_first_study.false in
          let cursor : before.cursor ≡ Under None = first.0 in
          let studies : records_of StudyKind records ≡ asked_records records before.query = studies_asked records before.query first.1 in
          let left_is : c.pass.new.self ≡ under_after (last_key (map (row_of name) (take 1 (drop (count - 1) (asked_records records before.query))))) =
          c.pass.ensures ∙ (λ i. left_after 1 (rows.ensures.answered h i) (cursor i))
          ∙ ap (λ (them : List Record). under_after (last_key (map (row_of name) (take 1 (drop (count - 1) them))))) studies in
          let ordered = asked_then old.later.now name (state_in state old).rows before.query
          (c.honest_rows_are_sound.ensures.rising old.tables.now (rows.ensures.reads.goes.was_honest h)) in
          let one_more : count - 1 + 1 ≡ count = omega (arith, c.if-count-eq0.false) in
          ap (λ left. filter_map (record_answer records before.called before.query) (candidates_left records before.query left)) left_is
          ∙ skipped records before.called before.query (λ held. c.universal_keys_are_met.ensures.nothing before.query.keys held (sym c.asks_nothing.ensures ∙ c.if-not-asks_nothing.false)) ordered name (count - 1)
          ∙ (λ i. drop (one_more i) (filter_map (record_answer records before.called before.query) (candidates_left records before.query (sym cursor i)))));
    }
