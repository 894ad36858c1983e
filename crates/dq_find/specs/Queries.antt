-- Study Root queries (PS3.4 sections C.4.1 and C.6.2).
use Rattle.std.specs.Prelude.{ℕ, Bool, List, [], ◌∷◌, Option, Some, None, Result, Ok, Err, option_map, codes, is_some, unwrap_or, ◌&&◌, if◌then◌else◌}
use Rattle.std.specs.List.{filter_map, list_any}
use Rattle.dq_vr.specs.declared.Tag.{Tag}
use Rattle.dq_vr.specs.declared.Vr.TheVariants.{AE, CS}
use Rattle.dq_vr.specs.Tags as tags
use Rattle.dq_value.specs.Title.{without_spaces}
use Rattle.dq_dataset.specs.declared.header.Syntax.{Syntax}
use Rattle.dq_dataset.specs.Tree.{ElementList, no_elements}
use Rattle.dq_dataset.specs.Editing.{merged_data_set}
use Rattle.dq_dataset.specs.Values.{element_at}
use Rattle.dq_dimse.specs.Received.{Message}
use Rattle.dq_dimse.specs.Receiving.{identifier_in}
use Rattle.dq_dimse.specs.Statuses.{success, does_not_match_sop_class}
use Rattle.dq_match.specs.declared.responses.Found.{Found}
use Rattle.dq_match.specs.declared.supported.KeyScope.TheVariants.{Identifier}
use Rattle.dq_match.specs.Identifiers.{is_query}
use Rattle.dq_match.specs.Supported.{supported_part, has_unsupported}
use Rattle.dq_match.specs.Answers.{refused_with, answer_to_keys}
use Rattle.dq_tables.specs.Rows.{Record}
use Rattle.dq_tables.specs.Lookups.{records_of, records_above}
pub use Rattle.dq_tables.specs.Lookups.{records_behind}
use Rattle.dq_tables.specs.Keys.{uid_at}
use Rattle.dq_tables.specs.declared.row.Kind.TheVariants.{Study as StudyKind, Series as SeriesKind, Image as ImageKind}
use Rattle.dq_find.specs.declared.level.Level.TheVariants.{Study, Series, Image}
use Rattle.dq_find.specs.declared.level.Level.{Level}
use Rattle.dq_find.specs.declared.query.Query.{Query}
use Rattle.dq_find.specs.Levels.{level_keys, level_name, level_of, has_keys_above}
use Rattle.dq_find.specs.ComputedKeys.{with_computed}
use Rattle.dq_find.specs.Texts.{text}

-- what a level asks for: its supported keys, each unique key above it once, and well-formed values
abbrev pub level_query : ElementList → Option Level → Result Query ℕ
level_query identifier None = Err does_not_match_sop_class
level_query identifier (Some level) =
    let keys = supported_part (Identifier (level_keys level)) identifier in
    let optional = has_unsupported (Identifier (level_keys level)) identifier in
    if has_keys_above level keys && is_query keys
    then Ok (record { level = level; keys = keys; optional = optional })
    else Err does_not_match_sop_class

abbrev pub identifier_query : Result ElementList ℕ → Result Query ℕ
identifier_query (Err status) = Err status
identifier_query (Ok identifier) = level_query identifier (level_of identifier)

-- the query of a message, or the status that refuses it (PS3.4 section C.4.1.1.4)
unfoldable pub message_query : Message → Syntax → Result Query ℕ
message_query message syntax = identifier_query (identifier_in message syntax)

-- what every answer holds beside the keys: the level, who answers, and that nothing can be
-- retrieved (PS3.4 section C.4.1.1.3.2)
unfoldable pub about_answers : List ℕ → Level → ElementList
about_answers called level =
    text tags.query_retrieve_level CS (level_name level)
    (text tags.retrieve_ae_title AE (without_spaces called)
    (text tags.instance_availability CS (codes "UNAVAILABLE") no_elements))

abbrev pub answer_elements : List ℕ → Query → ElementList → ElementList
answer_elements called query part = merged_data_set part (about_answers called query.level)

-- the answer that a completed record gives, where it fits
abbrev pub answer_if : List ℕ → Query → ElementList → Option ElementList
answer_if called query held = option_map (answer_elements called query) (answer_to_keys query.keys held)

-- the value of a unique key above
abbrev pub key_above : Tag → ElementList → List ℕ
key_above tag keys = unwrap_or (uid_at tag keys) []

-- the records of a level under those keys
unfoldable pub records_asked : List Record → Level → ElementList → List Record
records_asked records Study keys = records_of StudyKind records
records_asked records Series keys =
    records_above SeriesKind (key_above tags.study_instance_uid keys) records
records_asked records Image keys =
    records_above ImageKind (key_above tags.series_instance_uid keys) records

abbrev pub asked_records : List Record → Query → List Record
asked_records records query = records_asked records query.level query.keys

-- the answer that a record gives
abbrev pub record_answer : List Record → List ℕ → Query → Record → Option ElementList
record_answer records called query r = answer_if called query (with_computed records query.level r)

-- the answers to a query: those of the records of its level under its unique keys, in their order
unfoldable pub answers_of_records : List Record → List ℕ → Query → List ElementList
answers_of_records records called query =
    filter_map (record_answer records called query) (asked_records records query)

abbrev pub found_by : List Record → List ℕ → Result Query ℕ → Found
found_by records called (Err status) = refused_with status
found_by records called (Ok query) = record {
  status = success;
  optional = query.optional;
  answers = answers_of_records records called query;
}

unfoldable pub query_outcome : List Record → List ℕ → Message → Syntax → Found
query_outcome records called message syntax = found_by records called (message_query message syntax)

-- The answers that the records behind a key give, in their order. The others still count for what is computed.
unfoldable pub answers_behind : Option (List ℕ) → List Record → List ℕ → Query → List ElementList
answers_behind after records called query =
    filter_map (record_answer records called query) (records_behind after (asked_records records query))

abbrev pub found_behind : Option (List ℕ) → List Record → List ℕ → Result Query ℕ → Found
found_behind after records called (Err status) = refused_with status
found_behind after records called (Ok query) = record {
  status = success;
  optional = query.optional;
  answers = answers_behind after records called query;
}

-- The result of an identifier that no message brought. Only the records behind a key give answers.
unfoldable pub keys_outcome_after : Option (List ℕ) → List Record → List ℕ → ElementList → Found
keys_outcome_after after records called identifier =
    found_behind after records called (level_query identifier (level_of identifier))

-- whether some key is computed
abbrev pub computed_tags : List Tag
computed_tags =
    tags.modalities_in_study ∷ tags.number_of_study_related_series
    ∷ tags.number_of_study_related_instances ∷ tags.number_of_series_related_instances ∷ []

abbrev pub asks_computed : Query → Bool
asks_computed query = list_any (λ tag. is_some (element_at tag query.keys)) computed_tags
