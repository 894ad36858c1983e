use Rattle.std.proofs.Common.{◌≡◌, ◌∙◌, sym, ap, arith}
use Rattle.dq_dimse.specs.Holding.{plain_message}
use Rattle.dq_tables.specs.Rows.{of}
use Rattle.dq_tables.proofs.TableCalls.{serves_read}
use Rattle.dq_archive.specs.PastArchives.{records_in}
use Rattle.dq_archive.proofs.PastLookups.{records_now}
use Rattle.dq_find.specs.Queries.{identifier_query, found_by, query_outcome, message_query}
use Rattle.dq_find.proofs.lazy_answers.find.Goals as goal

pub returns : goal.returns
unfolding query_outcome message_query
returns g c =
    let state = g.T.Tables.state in
    let past = c.new-past.result in
    let called = c.args.called.now in
    let own : records_in state past ≡ of c.args.institution.now.name (state c.args.tables.now).rows =
    records_now state c.args.tables.now c.args.institution.now past c.new-past.ensures.tables.now (ap (λ x. x.now) c.new-past.ensures.institution)
    (ap (λ x. x.now) c.new-past.ensures.later) in
    let found : (state c.all_answers.new.archive.tables.now).honest
    → query_outcome (of c.args.institution.now.name (state c.args.tables.now).rows) called (plain_message c.args.message.now) c.args.syntax ≡ c.in_ok-found.found =
    λ h. sym (c.in_ok-found.ensures.answered h ∙ (λ i. found_by (own i) called ((c.in_ok-asked.ensures.query ∙ ap identifier_query c.in_ok-identifier.ensures) i))) in
    grind (arith, serves_read)
