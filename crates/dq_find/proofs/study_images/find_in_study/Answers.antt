use Rattle.std.proofs.Common.{◌≡◌, ◌∙◌, IfOk, ap, arith}
use Rattle.std.proofs.lemmas.Result.{IfOk-weaker}
use Rattle.dq_match.specs.ShownPages.{found_page}
use Rattle.dq_tables.specs.Rows.{of}
use Rattle.dq_archive.specs.PastArchives.{records_in}
use Rattle.dq_archive.proofs.PastLookups.{records_now}
use Rattle.dq_find.specs.StudyImages.{found_in_study, study_outcome}
use Rattle.dq_find.proofs.study_images.find_in_study.Goals as goal

pub returns-clause-found : goal.returns-clause-found
unfolding study_outcome
returns-clause-found g c =
    let state = g.T.Tables.state in
    let past = c.new-kept.result in
    let own : records_in state past ≡ of c.args.institution.now.name (state c.args.tables.now).rows =
    records_now state c.args.tables.now c.args.institution.now past c.new-kept.ensures.tables.now (ap (λ x. x.now) c.new-kept.ensures.institution)
    (ap (λ x. x.now) c.new-kept.ensures.later) in
    let found : (state c.answers_in_study.new.archive.tables.now).honest → IfOk c.answers_in_study.result (λ found. found
    ≡ found_page c.args.page (study_outcome (of c.args.institution.now.name (state c.args.tables.now).rows) c.args.identifier.now)) =
    λ h. IfOk-weaker c.answers_in_study.result _ _
    (λ found e. e ∙ (λ i. found_page c.args.page (found_in_study (own i) (c.in_ok-asked.ensures.query i))))
    (c.answers_in_study.ensures.answered h) in
    grind arith
