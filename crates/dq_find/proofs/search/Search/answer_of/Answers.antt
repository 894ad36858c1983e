use Rattle.std.proofs.Common.{◌≡◌, ◌∙◌, false, None, sym, ap}
use Rattle.std.specs.List.{list_all}
use Rattle.dq_dataset.specs.View.{elements_of}
use Rattle.dq_match.specs.AsLent.{is_met_at_once}
use Rattle.dq_match.specs.declared.keys.Nesting.TheVariants.{Outer}
use Rattle.dq_tables.specs.Records.{data_set_of}
use Rattle.dq_archive.specs.PastArchives.{records_in}
use Rattle.dq_archive.proofs.PastLookups.{looks_nothing}
use Rattle.dq_find.specs.Queries.{answer_if}
use Rattle.dq_find.proofs.RowAnswers.{met_later, answered_alike, not_met}
use Rattle.dq_find.proofs.search.Search.answer_of.Goals as goal

pub returns-then-not-asks_computed : goal.returns-then-not-asks_computed
returns-then-not-asks_computed g c =
    let it = c.args.archive.now in
    let query = c.args.self.now.query.now in
    let row = c.args.row.now in
    looks_nothing g.T.Tables.state it _ c.in_ok-answer.field-0
    (c.in_ok-answer.ensures ∙ ap (answer_if c.args.self.now.called.now query) c.in_ok-held.ensures.data_set
    ∙ answered_alike (records_in g.T.Tables.state it) c.args.self.now.called.now row.key query (data_set_of row.octets)
    (sym c.asks_computed.ensures ∙ c.if-not-asks_computed.true))

pub returns-then-not-meets_at_once : goal.returns-then-not-meets_at_once
returns-then-not-meets_at_once g c =
    let it = c.args.archive.now in
    let query = c.args.self.now.query.now in
    let row = c.args.row.now in
    let unmet : list_all (is_met_at_once met_later (data_set_of row.octets)) (elements_of query.keys) ≡ false =
    (λ i. list_all (is_met_at_once met_later (sym c.in_ok-held.ensures.data_set i)) (elements_of (sym c.requires.prepared i)))
    ∙ sym c.meets_at_once.ensures ∙ c.if-not-meets_at_once.true in
    looks_nothing g.T.Tables.state it _ None
    (sym (not_met (records_in g.T.Tables.state it) c.args.self.now.called.now row.key query (data_set_of row.octets)
    (λ held fit. ((c.keys_are_met_alone_and_as_a_period.ensures.each Outer query.keys held).0 fit).0) unmet))
