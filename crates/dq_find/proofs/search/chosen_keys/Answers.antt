use Rattle.std.proofs.Common.{◌≡◌, ◌∙◌, List, Option, IfSome, map, ap, subst}
use Rattle.dq_tables.specs.declared.choice.Choice.{Choice}
use Rattle.dq_tables.specs.declared.row.Row.{Row}
use Rattle.dq_tables.specs.Rows.{row_of}
use Rattle.dq_tables.specs.StudyChoices.{studies_among}
use Rattle.dq_tables.proofs.TableCalls.{reads_right}
use Rattle.dq_archive.specs.PastArchives.{state_in, records_in}
use Rattle.dq_find.proofs.SearchPages.{keys_of_rows}
use Rattle.dq_find.proofs.search.chosen_keys.Goals as goal

pub returns-in-Some : goal.returns-in-Some
returns-in-Some g c =
    let state = g.T.Tables.state in
    let it = c.args.archive.now in
    let name = it.institution.now.name in
    let records = records_in state it in
    let keys = c.args.query.now.keys in
    let few = c.in_ok-rows.ensures.few in
    record {
      same = few.same;
      reads = reads_right (state_in state it) (state_in state c.few_studies_in.new.self) _ _ few.reads;
      answered = λ h.
          (let rows_are : c.in-Some.rows ≡ map (row_of name) (studies_among c.in_ok-choice.choice records) =
          subst (λ (found : Option (List Row)). IfSome found (λ rows. rows ≡ map (row_of name) (studies_among c.in_ok-choice.choice records))) c.in-Some.is
          (few.answered h) in
          c.in_ok-keys_of-in-Some.ensures ∙ ap (map (λ (row : Row). row.key)) rows_are
          ∙ keys_of_rows name (studies_among c.in_ok-choice.choice records)
          ∙ ap (λ (choice : Choice). map (λ r. r.key) (studies_among choice records)) c.in_ok-choice.ensures);
    }
