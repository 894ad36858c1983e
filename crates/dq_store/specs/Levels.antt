-- The contents of the records of studies, series and images, and which elements of an instance
-- are in them (PS3.4 sections B.2.3 and C.6.2.1).
use Rattle.std.specs.Prelude.{◌≡◌, Bool, true, List, Option, Some, None}
use Rattle.std.specs.List.{list_all}
use Rattle.dq_vr.specs.declared.Tag.{Tag}
use Rattle.dq_dataset.specs.Tree.{ElementList, no_elements}
use Rattle.dq_dataset.specs.View.{elements_of}
use Rattle.dq_dataset.specs.declared.header.Syntax.TheVariants.{Explicit}
use Rattle.dq_dataset.specs.Canonical.{canonical}
use Rattle.dq_dataset.specs.Editing.{cut_out, is_listed}
use Rattle.dq_tables.specs.declared.row.Kind.{Kind}
use Rattle.dq_tables.specs.declared.row.Kind.TheVariants.{Study, Series, Image, Entry, Step}
use Rattle.dq_tables.specs.declared.row.Row.{Row}
use Rattle.dq_tables.specs.Rows.{Record}
use Rattle.dq_tables.specs.Lookups.{record_at}
use Rattle.dq_tables.specs.Records.{data_set_of}
use Rattle.dq_vr.specs.StudyRoot.{study_attributes, series_attributes, image_attributes}
use Rattle.dq_store.specs.CStore.{Instance, is_in_one_of, is_kept_whole}

-- each element is one of the attributes
abbrev pub has_only : List Tag → ElementList → Bool
has_only tags d = list_all (is_listed tags) (elements_of d)

-- A study holds attributes of a study alone, a series those of a series, and an image those of an
-- image. Of other records nothing is asked.
unfoldable pub keeps_to_its_level : Kind → ElementList → Bool
keeps_to_its_level Study d = has_only study_attributes d
keeps_to_its_level Series d = has_only series_attributes d
keeps_to_its_level Image d = has_only image_attributes d
keeps_to_its_level Entry d = true
keeps_to_its_level Step d = true

abbrev pub is_of_its_level : Row → Bool
is_of_its_level row = keeps_to_its_level row.kind (data_set_of row.octets)

-- The data set of the attributes at a level is read back from its canonical octets.
abbrev pub IsReadBack : List Tag → ElementList → Type 0
IsReadBack tags d = data_set_of (canonical Explicit (cut_out tags d)) ≡ cut_out tags d

abbrev pub data_set_in : Option Record → ElementList
data_set_in None = no_elements
data_set_in (Some r) = data_set_of r.octets

abbrev pub study_in : List Record → Instance → ElementList
study_in records sent = data_set_in (record_at Study sent.study records)

abbrev pub series_in : List Record → Instance → ElementList
series_in records sent = data_set_in (record_at Series sent.series records)

abbrev pub image_in : List Record → Instance → ElementList
image_in records sent = data_set_in (record_at Image sent.image records)

-- Each element of an instance is, with equal octets, in the record of its study, of its series or of
-- its image.
abbrev pub stands_whole : List Record → Instance → Bool
stands_whole records sent =
    list_all
    (is_in_one_of (study_in records sent) (series_in records sent) (image_in records sent))
    (elements_of sent.elements)

-- Each element is there, and is one of those that are kept of a stored object.
abbrev pub is_kept_in : List Record → Instance → Bool
is_kept_in records sent =
    is_kept_whole (study_in records sent) (series_in records sent) (image_in records sent)
    sent.elements
