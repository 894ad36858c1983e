use Rattle.std.proofs.Common.{◌≡◌, ◌∙◌, [], IfOk, ap, arith}
use Rattle.std.specs.Option.{option_copied}
use Rattle.std.proofs.lemmas.Result.{IfOk-weaker}
use Rattle.dq_match.specs.ShownPages.{found_page}
use Rattle.dq_tables.specs.Rows.{of}
use Rattle.dq_archive.specs.PastArchives.{records_in}
use Rattle.dq_archive.proofs.PastLookups.{records_now}
use Rattle.dq_find.specs.Queries.{found_behind, keys_outcome_after}
use Rattle.dq_find.proofs.key_pages.find_by_keys.Goals as goal

pub returns-clause-found : goal.returns-clause-found
unfolding keys_outcome_after
returns-clause-found g c =
    let state = g.T.Tables.state in
    let past = c.new-kept.result in
    let key = option_copied c.args.after in
    let own : records_in state past ≡ of c.args.institution.now.name (state c.args.tables.now).rows =
    records_now state c.args.tables.now c.args.institution.now past c.new-kept.ensures.tables.now (ap (λ x. x.now) c.new-kept.ensures.institution)
    (ap (λ x. x.now) c.new-kept.ensures.later) in
    let found : (state c.answers_behind.new.archive.tables.now).honest → IfOk c.answers_behind.result (λ found. found
    ≡ found_page c.args.page (keys_outcome_after key (of c.args.institution.now.name (state c.args.tables.now).rows) [] c.args.identifier.now)) =
    λ h. IfOk-weaker c.answers_behind.result _ _
    (λ found e. e ∙ (λ i. found_page c.args.page (found_behind key (own i) [] (c.in_ok-asked.ensures.query i))))
    (c.answers_behind.ensures.answered h) in
    grind arith
