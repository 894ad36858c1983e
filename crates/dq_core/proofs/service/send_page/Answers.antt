use Rattle.std.proofs.Common.{◌≡◌, ◌++◌, ◌∙◌, ℕ, List, drop, sym, ap, arith}
use Rattle.dq_tables.specs.Rows.{Record}
use Rattle.dq_archive.specs.PastArchives.{records_in}
use Rattle.dq_core.specs.Pages.{page}
use Rattle.dq_core.specs.Queries.{open_query_of, open_query_in, records_since, query_then}
use Rattle.dq_core.proofs.Lookback.{records_then, query_since}
use Rattle.dq_core.proofs.service.send_page.Goals as goal

pub returns-clause-sent : goal.returns-clause-sent
returns-clause-sent g c =
    let state = g.T.Tables.state in
    let past = c.new-archive.result in
    let query = c.args.query in
    let name = c.args.scope.institution.now.name in
    let rows = (state c.args.tables.now).rows in
    let log = c.args.scope.log.now in
    let left = c.in_ok-left.left in
    let out : List ℕ = c.args.out.now.items in
    let records = records_since name rows log query.since in
    let own : records_in state past ≡ records =
    records_then state c.args.tables.now c.args.scope.institution.now past (drop query.since log) c.new-archive.ensures.tables.now
    (ap (λ x. x.now) c.new-archive.ensures.institution) (ap (λ x. x.now) c.new-archive.ensures.later ∙ c.since-later.ensures) in
    let sent : (state c.send_page.new.archive.tables.now).honest
    → (c.send_page.new.out.items ≡ out ++ (page (open_query_of records query)).octets)
    × (query_then name rows log left ≡ (page (open_query_of records query)).query) =
    λ h. (let given = c.in_ok-left.ensures.sent h in (
      given.0 ∙ ap (λ (rs : List Record). out ++ (page (open_query_of rs query)).octets) own,
      query_since name rows log query.since left c.in_ok-left.ensures.since
          ∙ ap (λ (rs : List Record). open_query_in rs left) (sym own) ∙ given.1
          ∙ ap (λ (rs : List Record). (page (open_query_of rs query)).query) own,
    )) in
    grind arith
