use Rattle.std.proofs.Common.{◌≡◌, IfSome, not, map, refl, ap, subst, ◌∙◌}
use Rattle.std.specs.List.{filter}
use Rattle.dq_tables.specs.declared.row.Row.{Row}
use Rattle.dq_tables.specs.Rows.{of, row_of, record_of}
use Rattle.dq_tables.specs.StudyChoices.{studies_in, studies_among}
use Rattle.dq_tables.proofs.OwnRows.{chosen_own}
use Rattle.dq_tables.proofs.TableCalls.{reads_right}
use Rattle.dq_archive.specs.Additions.{is_later}
use Rattle.dq_archive.specs.PastArchives.{state_in}
use Rattle.dq_archive.proofs.PastRecords.{left_rows, left_chosen}
use Rattle.dq_archive.proofs.PastLookups.{looks_back}
use Rattle.dq_archive.proofs.past.Past.few_studies_in.Goals as goal

pub returns-in_ok-before-in-Some-clause-few : goal.returns-in_ok-before-in-Some-clause-few
returns-in_ok-before-in-Some-clause-few g c =
    let it = c.args.self.now in
    let later = it.later.now in
    let name = it.institution.now.name in
    let rows = (state_in g.T.Tables.state it).rows in
    let choice = c.args.choice.now in
    let left = looks_back g.T.Tables.state it _ (λ n rs. studies_in choice n rs) c.as_slice-name.result.now (record { tables = refl; institution = refl; later = refl })
    c.as_slice-name.ensures c.in-Some.rows (λ records. map (row_of name) (studies_among choice records)) c.in_ok-before-in-Some.field-0
    (λ h e. c.in_ok-before-in-Some.ensures ∙ ap (filter (λ (row : Row). not (is_later later (record_of row)))) (e ∙ chosen_own choice name rows)
    ∙ left_rows later name (studies_among choice (of name rows))
    ∙ ap (map (row_of name)) (left_chosen later choice (of name rows)))
    (reads_right _ _ _ _ c.in_ok-rows.ensures.reads)
    (λ h. subst (λ few. IfSome few (λ list. list ≡ studies_in choice c.as_slice-name.result.now rows)) c.in-Some.is (c.in_ok-rows.ensures.found h)) in
    record { same = left.same; reads = reads_right _ _ _ _ left.reads; answered = left.answered }
