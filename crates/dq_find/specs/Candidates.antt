-- The records that are looked at for a query. This is there for the prover: what is answered is
-- `answers_of_records` of Queries, of all records that are asked for.
use Rattle.std.specs.Prelude.{ℕ, Bool, true, false, not, List, [], ◌∷◌, filter, Option, Some, None, option_map, if◌then◌else◌}
use Rattle.std.specs.List.{list_any, filter_map}
use Rattle.std.specs.Str.{bytes_eq}
use Rattle.dq_vr.specs.declared.Vr.TheVariants.{UI}
use Rattle.dq_vr.specs.Tags as tags
use Rattle.dq_value.specs.Parts.{element_values}
use Rattle.dq_dataset.specs.Tree.{ElementList}
use Rattle.dq_dataset.specs.Values.{element_at, element_octets}
use Rattle.dq_match.specs.Wildcards.{any_run}
use Rattle.dq_tables.specs.declared.row.Row.{Row}
use Rattle.dq_tables.specs.Rows.{Record, record_of, row_of}
use Rattle.dq_tables.specs.Lookups.{record_at}
use Rattle.dq_find.specs.declared.level.Level.{Level}
use Rattle.dq_find.specs.declared.level.Level.TheVariants.{Study, Series, Image}
use Rattle.dq_find.specs.declared.query.Query.{Query}
use Rattle.dq_find.specs.Levels.{kind_of, unique_key}
use Rattle.dq_find.specs.Queries.{key_above, asked_records}
use Rattle.dq_find.specs.StudyChoice.{is_asked}

-- the values that a query gives its level's own unique key
abbrev pub own_values : Query → List (List ℕ)
own_values query = element_values UI (element_octets (element_at (unique_key query.level) query.keys))

-- they name records where there are some, unless the first is an asterisk
abbrev pub names_records : List (List ℕ) → Bool
names_records [] = false
names_records (first ∷ others) = not (bytes_eq first (any_run ∷ []))

abbrev pub has_one_of : List (List ℕ) → Record → Bool
has_one_of uids r = list_any (λ uid. bytes_eq r.key uid) uids

-- a record has one of the keys that are named, or is asked for where none are
abbrev pub is_looked_at : Query → Record → Bool
is_looked_at query r =
    if names_records (own_values query) then has_one_of (own_values query) r
    else is_asked query.level query.keys r

abbrev pub query_candidates : List Record → Query → List Record
query_candidates records query = filter (is_looked_at query) (asked_records records query)

-- a record is under the unique keys above it
abbrev pub is_under : Level → ElementList → Record → Bool
is_under Study keys r = true
is_under Series keys r = bytes_eq r.above (key_above tags.study_instance_uid keys)
is_under Image keys r = bytes_eq r.above (key_above tags.series_instance_uid keys)

-- a record, and a row, that was looked up, where it is under them
abbrev pub under : Level → ElementList → Option Record → Option Record
under level keys None = None
under level keys (Some r) = if is_under level keys r then Some r else None

abbrev pub looked_up : Level → ElementList → Option Row → Option Row
looked_up level keys None = None
looked_up level keys (Some row) = if is_under level keys (record_of row) then Some row else None

-- the record of the level that has a unique key
abbrev pub named_record : List Record → Query → List ℕ → Option Record
named_record records query uid =
    under query.level query.keys (record_at (kind_of query.level) uid records)

abbrev pub named_rows : List ℕ → List Record → Query → List (List ℕ) → List Row
named_rows institution records query uids =
    filter_map (λ uid. option_map (row_of institution) (named_record records query uid)) uids
