-- The answers to a query: which records they are of, and what each of them tells (PS3.4 section
-- C.4.1).
use Rattle.std.specs.Prelude.{◌≡◌, ◌↔◌, ℕ, true, List, map, filter, Option, is_some, codes}
use Rattle.dq_list.specs.Among.{IsAmong}
use Rattle.dq_vr.specs.declared.Tag.{Tag}
use Rattle.dq_vr.specs.declared.Vr.TheVariants.{AE, CS}
use Rattle.dq_vr.specs.Tags as tags
use Rattle.dq_value.specs.Title.{without_spaces}
use Rattle.dq_dataset.specs.Rules.{padded_value}
use Rattle.dq_dataset.specs.Tree.{ElementList}
use Rattle.dq_dataset.specs.Values.{element_at, element_octets}
use Rattle.dq_match.specs.Matching.{fits}
use Rattle.dq_match.specs.Responses.{shown_data_set}
use Rattle.dq_tables.specs.Rows.{Record}
use Rattle.dq_tables.specs.Records.{AreInOrder}
use Rattle.dq_tables.specs.Keys.{uid_at}
use Rattle.dq_find.specs.declared.level.Level.{Level}
use Rattle.dq_find.specs.declared.level.Level.TheVariants.{Study, Series, Image}
use Rattle.dq_find.specs.declared.query.Query.{Query}
use Rattle.dq_find.specs.Levels.{kind_of, level_name}
use Rattle.dq_find.specs.ComputedKeys.{with_computed}
use Rattle.dq_find.specs.Queries.{answer_elements, record_answer, asked_records, records_behind}

-- A record matches a query: it is kept, it is of the query's level, and with what is computed of it,
-- it fits the query's keys (PS3.4 section C.4.1.2.1).
pub record MatchesQuery (records : List Record) (query : Query) (r : Record) : Type 0 where
  pub kept : IsAmong r records
  pub level : r.kind ≡ kind_of query.level
  pub fit : fits query.keys (with_computed records query.level r) ≡ true

-- In a record's data set the unique key of the level above has the value that the query gives. No
-- match asks for it: that one has it follows, since that is one of the keys that it fits.
abbrev pub HasKeyAbove : Level → ElementList → ElementList → Type 0
HasKeyAbove Study keys d = Unit {0}
HasKeyAbove Series keys d = uid_at tags.study_instance_uid d ≡ uid_at tags.study_instance_uid keys
HasKeyAbove Image keys d = uid_at tags.series_instance_uid d ≡ uid_at tags.series_instance_uid keys

-- what is told of a record
abbrev pub told_of : List Record → List ℕ → Query → Record → ElementList
told_of records called query r =
    answer_elements called query (shown_data_set query.keys (with_computed records query.level r))

-- The answers to a query are what is told of the records that match it, in the order of their keys:
-- there is a list of records, strictly rising by key, of which a record is one exactly where it
-- matches, and each answer is what is told of its record.
pub record AreQueryAnswers (records : List Record) (called : List ℕ) (query : Query)
    (answers : List ElementList) : Type 0 where
  pub matching : List Record
  pub in_order : AreInOrder matching
  pub exactly : (r : Record) → IsAmong r matching ↔ MatchesQuery records query r
  pub each_told : answers ≡ map (told_of records called query) matching

-- the records behind a key that answer a query, in the order of their keys
abbrev pub answering_behind : Option (List ℕ) → List Record → List ℕ → Query → List Record
answering_behind after records called query =
    filter (λ (r : Record). is_some (record_answer records called query r))
    (records_behind after (asked_records records query))

abbrev pub value_at : Tag → ElementList → List ℕ
value_at tag d = element_octets (element_at tag d)

-- the answer tells its level, who answers, and that nothing can be retrieved
pub record TellsLevel (called : List ℕ) (asked : Level) (d : ElementList) : Type 0 where
  pub level : value_at tags.query_retrieve_level d ≡ padded_value CS (level_name asked)
  pub title : value_at tags.retrieve_ae_title d ≡ padded_value AE (without_spaces called)
  pub availability : value_at tags.instance_availability d ≡ padded_value CS (codes "UNAVAILABLE")
