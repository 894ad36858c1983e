use Rattle.std.proofs.Common.{◌≡◌, ◌∙◌, sym, ap, arith}
use Rattle.dq_dimse.specs.Holding.{plain_message}
use Rattle.dq_tables.specs.Rows.{of}
use Rattle.dq_archive.specs.PastArchives.{records_in}
use Rattle.dq_archive.proofs.PastLookups.{records_now}
use Rattle.dq_find.specs.LazyAnswers.{found_then}
use Rattle.dq_find.specs.Queries.{identifier_query, found_by, query_outcome, message_query}
use Rattle.dq_find.proofs.lazy_answers.begin_find.Goals as goal

pub returns-clause-found : goal.returns-clause-found
unfolding query_outcome message_query
returns-clause-found g c =
    let state = g.T.Tables.state in
    let past = c.new-archive.result in
    let called = c.args.called.now in
    let records = of c.args.institution.now.name (state c.args.tables.now).rows in
    let own : records_in state past ≡ records =
    records_now state c.args.tables.now c.args.institution.now past c.new-archive.ensures.tables.now (ap (λ x. x.now) c.new-archive.ensures.institution)
    (ap (λ x. x.now) c.new-archive.ensures.later) in
    let found : (state c.begin_at.new.archive.tables.now).honest
    → found_then c.in_ok-found.found records ≡ query_outcome records called (plain_message c.args.message.now) c.args.syntax =
    λ h. ap (found_then c.in_ok-found.found) (sym own) ∙ c.in_ok-found.ensures.found h
    ∙ (λ i. found_by (own i) called ((c.in_ok-asked.ensures.query ∙ ap identifier_query c.in_ok-identifier.ensures) i)) in
    grind arith
