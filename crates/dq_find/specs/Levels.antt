-- The levels of a Study Root query (PS3.4 section C.6.2.1).
use Rattle.std.specs.Prelude.{ℕ, Bool, List, [], ◌∷◌, Option, Some, None, is_some, codes, if◌then◌else◌}
use Rattle.std.specs.List.{list_all}
use Rattle.std.specs.Str.{bytes_eq}
use Rattle.dq_vr.specs.declared.Tag.{Tag}
use Rattle.dq_vr.specs.declared.Vr.TheVariants.{CS}
use Rattle.dq_vr.specs.Tags as tags
use Rattle.dq_value.specs.Trimming.{trimmed_value}
use Rattle.dq_dataset.specs.Tree.{ElementList}
use Rattle.dq_dataset.specs.Values.{element_at, element_octets}
use Rattle.dq_match.specs.declared.supported.KeyList.{KeyList}
use Rattle.dq_match.specs.declared.supported.KeyList.TheVariants as list
use Rattle.dq_tables.specs.declared.row.Kind.{Kind}
use Rattle.dq_tables.specs.declared.row.Kind.TheVariants as kind
use Rattle.dq_tables.specs.Keys.{uid_at}
use Rattle.dq_find.specs.declared.level.Level.{Level}
use Rattle.dq_find.specs.declared.level.Level.TheVariants.{Study, Series, Image}

-- the records of a level, the keys that are supported there, and its name in (0008,0052)
abbrev pub kind_of : Level → Kind
kind_of Study = kind.Study
kind_of Series = kind.Series
kind_of Image = kind.Image

abbrev pub level_keys : Level → KeyList
level_keys Study = list.Study
level_keys Series = list.Series
level_keys Image = list.Image

abbrev pub level_name : Level → List ℕ
level_name Study = codes "STUDY"
level_name Series = codes "SERIES"
level_name Image = codes "IMAGE"

unfoldable pub level_named : List ℕ → Option Level
level_named name =
    if bytes_eq name (level_name Study) then Some Study
    else (if bytes_eq name (level_name Series) then Some Series
    else (if bytes_eq name (level_name Image) then Some Image else None))

abbrev pub level_of : ElementList → Option Level
level_of identifier =
    level_named (trimmed_value CS (element_octets (element_at tags.query_retrieve_level identifier)))

-- the level's own unique key
abbrev pub unique_key : Level → Tag
unique_key Study = tags.study_instance_uid
unique_key Series = tags.series_instance_uid
unique_key Image = tags.sop_instance_uid

-- the unique keys of the levels above, of which an identifier has each exactly once (PS3.4 section
-- C.4.1.2.1)
abbrev pub keys_above : Level → List Tag
keys_above Study = []
keys_above Series = tags.study_instance_uid ∷ []
keys_above Image = tags.study_instance_uid ∷ tags.series_instance_uid ∷ []

unfoldable pub has_keys_above : Level → ElementList → Bool
has_keys_above level keys = list_all (λ tag. is_some (uid_at tag keys)) (keys_above level)
