-- The data that an institution is shown of its records: what keys find among them, and its performed procedure steps, a
-- page at a time.
use Rattle.std.specs.Prelude.{ℕ, List, [], map, Option}
use Rattle.std.specs.Option.{option_map}
use Rattle.dq_config.specs.declared.config.Institution.{Institution}
use Rattle.dq_config.specs.Routing.{institution_named}
use Rattle.dq_dataset.specs.Tree.{ElementList}
use Rattle.dq_match.specs.declared.responses.Found.{Found}
use Rattle.dq_match.specs.declared.shown_page.ShownPage.{ShownPage}
use Rattle.dq_match.specs.ShownPages.{shown_page, found_page}
use Rattle.dq_find.specs.Queries as study
use Rattle.dq_find.specs.StudyImages.{study_outcome}
use Rattle.dq_worklist.specs.Queries as worklist
use Rattle.dq_tables.specs.declared.row.Kind.TheVariants.{Step}
use Rattle.dq_tables.specs.declared.row.Row.{Row}
use Rattle.dq_tables.specs.Rows.{Record, of}
use Rattle.dq_tables.specs.Lookups.{records_of}
use Rattle.dq_tables.specs.Records.{data_set_of}
use Rattle.dq_core.specs.declared.showing.SearchKind.{SearchKind}
use Rattle.dq_core.specs.declared.showing.SearchKind.TheVariants.{StudyRoot, StudyImages, Worklist}

-- The result of a search by keys, as in a C-FIND (PS3.4 sections C.4.1 and K.4.1), in Study Root of the records behind a
-- unique key if there is one, or over all series of a study (PS3.18 section 10.6.1). Nobody called a title, so the answers
-- of Study Root show an empty one.
unfoldable pub found_in : SearchKind → ElementList → List Record → Found
found_in (StudyRoot after) keys records = study.keys_outcome_after after records [] keys
found_in StudyImages keys records = study_outcome records keys
found_in Worklist keys records = worklist.keys_outcome records keys

-- the performed procedure steps, in the order of their keys
unfoldable pub steps_in : List Record → List ElementList
steps_in records = map (λ (r : Record). data_set_of r.octets) (records_of Step records)

-- what is seen of the records of the institution with a name, if there is one
abbrev pub shown_of : {A : Type 0} → List Institution → List ℕ → List Row → (List Record → A) → Option A
shown_of institutions name rows see =
    option_map (λ (i : Institution). see (of i.name rows)) (institution_named institutions name)

-- what the institution with a name is shown of what keys find
abbrev pub found_for : List Institution → List ℕ → List Row → SearchKind → ElementList → ShownPage → Option Found
found_for institutions name rows kind keys page =
    shown_of institutions name rows (λ (records : List Record). found_page page (found_in kind keys records))

-- and of its steps
abbrev pub steps_for : List Institution → List ℕ → List Row → ShownPage → Option (List ElementList)
steps_for institutions name rows page =
    shown_of institutions name rows (λ (records : List Record). shown_page page (steps_in records))
