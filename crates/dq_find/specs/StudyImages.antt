-- The images of a study (PS3.18 section 10.6.1). A C-FIND has those of one series (PS3.4 section C.4.1.2).
use Rattle.std.specs.Prelude.{◌≡◌, ℕ, List, [], ◌++◌, Option, Some, Result, Ok, Err, OnOk, ◌&&◌, if◌then◌else◌}
use Rattle.std.specs.List.{filter_map, flat_map}
use Rattle.dq_vr.specs.Tags as tags
use Rattle.dq_dataset.specs.Tree.{ElementList}
use Rattle.dq_dimse.specs.Statuses.{success, does_not_match_sop_class}
use Rattle.dq_match.specs.declared.page_collector.PageCollector.{PageCollector}
use Rattle.dq_match.specs.declared.responses.Found.{Found}
use Rattle.dq_match.specs.declared.supported.KeyScope.TheVariants.{Identifier}
use Rattle.dq_match.specs.Identifiers.{is_query}
use Rattle.dq_match.specs.Supported.{supported_part, has_unsupported}
use Rattle.dq_match.specs.Answers.{refused_with}
use Rattle.dq_match.specs.Parts.{with_others}
use Rattle.dq_tables.specs.declared.fault.TableFault.{TableFault}
use Rattle.dq_tables.specs.declared.row.Kind.TheVariants.{Series as SeriesKind, Image as ImageKind}
use Rattle.dq_tables.specs.Rows.{Record}
use Rattle.dq_tables.specs.Lookups.{records_above}
use Rattle.dq_tables.specs.TableStates.{State, Reads}
use Rattle.dq_archive.specs.declared.past.Past.{Past}
use Rattle.dq_archive.specs.PastArchives.{IsSame, state_in, records_in}
use Rattle.dq_find.specs.declared.level.Level.TheVariants.{Series, Image}
use Rattle.dq_find.specs.declared.level.Level.{Level}
use Rattle.dq_find.specs.declared.query.Query.{Query}
use Rattle.dq_find.specs.Levels.{level_keys, level_of, has_keys_above}
use Rattle.dq_find.specs.Queries.{key_above, record_answer}

-- Keys of level IMAGE name one study, as those of its series do, and need not name a series. A Series Instance UID is
-- matched as any other key.
abbrev pub query_in_study : ElementList → Option Level → Result Query ℕ
query_in_study identifier (Some Image) =
    let keys = supported_part (Identifier (level_keys Image)) identifier in
    let optional = has_unsupported (Identifier (level_keys Image)) identifier in
    if has_keys_above Series keys && is_query keys
    then Ok (record { level = Image; keys = keys; optional = optional })
    else Err does_not_match_sop_class
query_in_study identifier level = Err does_not_match_sop_class

-- the images of some series, those of one series after the other
abbrev pub images_of : List Record → List Record → List Record
images_of records series = flat_map (λ (one : Record). records_above ImageKind one.key records) series

-- the images of the series of a study
abbrev pub images_in_study : List Record → List ℕ → List Record
images_in_study records study = images_of records (records_above SeriesKind study records)

-- the answers of those that fit the keys
abbrev pub found_in_study : List Record → Result Query ℕ → Found
found_in_study records (Err status) = refused_with status
found_in_study records (Ok query) = record {
  status = success;
  optional = query.optional;
  answers = filter_map (record_answer records [] query)
      (images_in_study records (key_above tags.study_instance_uid query.keys));
}

-- The result of a search for the images of a study. Nobody called a title.
unfoldable pub study_outcome : List Record → ElementList → Found
study_outcome records identifier = found_in_study records (query_in_study identifier (level_of identifier))

-- A page took these answers: what it comes to with others is what it came to with these before them.
abbrev pub Takes : PageCollector → List ElementList → PageCollector → Type 0
Takes before answers after =
    (others : List ElementList) → with_others after others ≡ with_others before (answers ++ others)

-- A page took the answers that follow from these records, and nothing changes.
pub record TakesAnswers {T : Type 0} (state : T → State) (old new : Past T) (before after : PageCollector)
    (look : List Record → List ElementList) (result : Result (Unit {0}) TableFault) : Type 0 where
  pub same : IsSame old new
  pub reads : Reads (state_in state old) (state_in state new) result
  pub taken : (state_in state new).honest → OnOk result (Takes before (look (records_in state old)) after)
