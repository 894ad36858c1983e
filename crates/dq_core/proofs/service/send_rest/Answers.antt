use Rattle.std.proofs.Common.{◌≡◌, ◌++◌, ◌∙◌, ℕ, List, drop, ap, OnOk, arith}
use Rattle.std.proofs.lemmas.Result.{on_ok_weaker}
use Rattle.dq_tables.specs.Rows.{Record}
use Rattle.dq_archive.specs.PastArchives.{records_in}
use Rattle.dq_core.specs.Pages.{rest}
use Rattle.dq_core.specs.Queries.{open_query_of, records_since}
use Rattle.dq_core.proofs.Lookback.{records_then}
use Rattle.dq_core.proofs.service.send_rest.Goals as goal

pub returns-clause-sent : goal.returns-clause-sent
returns-clause-sent g c =
    let state = g.T.Tables.state in
    let past = c.new-archive.result in
    let query = c.args.query in
    let out : List ℕ = c.args.out.now.items in
    let records = records_since c.args.scope.institution.now.name (state c.args.tables.now).rows c.args.scope.log.now query.since in
    let own : records_in state past ≡ records =
    records_then state c.args.tables.now c.args.scope.institution.now past (drop query.since c.args.scope.log.now) c.new-archive.ensures.tables.now
    (ap (λ x. x.now) c.new-archive.ensures.institution) (ap (λ x. x.now) c.new-archive.ensures.later ∙ c.since-later.ensures) in
    let sent : (state c.send_rest.new.archive.tables.now).honest
    → OnOk c.send_rest.result (c.send_rest.new.out.items ≡ out ++ rest (open_query_of records query)) =
    λ h. on_ok_weaker c.send_rest.result (λ e. e ∙ ap (λ (rs : List Record). out ++ rest (open_query_of rs query)) own) (c.send_rest.ensures.sent h) in
    grind arith
