-- The records that were there before some were added.
use Rattle.std.specs.Prelude.{◌≡◌, ℕ, Bool, true, false, not, ◌&&◌, List, [], ◌∷◌, ◌++◌, map, filter, Option, Some, None, if◌then◌else◌}
use Rattle.std.specs.List.{list_any}
use Rattle.std.specs.Option.{option_to_list}
use Rattle.std.specs.Str.{bytes_eq}
use Rattle.dq_tables.specs.declared.row.Kind.{Kind}
use Rattle.dq_tables.specs.declared.row.Kind.TheVariants.{Study, Series, Image, Entry, Step}
use Rattle.dq_tables.specs.declared.row.Row.{Row}
use Rattle.dq_tables.specs.declared.change.Change.{Change}
use Rattle.dq_tables.specs.declared.change.Change.TheVariants.{Stored}
use Rattle.dq_tables.specs.Rows.{Record, record_of, same_kind, of}
use Rattle.dq_archive.specs.declared.additions.Addition.{Addition}

-- the record is the one that was added
abbrev pub is_added : Addition → Record → Bool
is_added added r =
    same_kind r.kind added.kind && (bytes_eq r.key added.key && bytes_eq r.above added.above)

-- it is one of those that were added later
abbrev pub is_later : List Addition → Record → Bool
is_later later r = list_any (λ (added : Addition). is_added added r) later

-- those of a kind
abbrev pub of_kind : Kind → List Addition → List Addition
of_kind kind later = filter (λ (added : Addition). same_kind added.kind kind) later

-- The studies, the series and the images last: one is added, and neither changed nor taken away.
abbrev pub is_lasting : Kind → Bool
is_lasting Study = true
is_lasting Series = true
is_lasting Image = true
is_lasting Entry = false
is_lasting Step = false

unfoldable pub lasting_records : List Record → List Record
lasting_records records = filter (λ (r : Record). is_lasting r.kind) records

-- all records but these
unfoldable pub without : List Addition → List Record → List Record
without later records = filter (λ (r : Record). not (is_later later r)) records

-- one was added under the record with a key
abbrev pub is_touched : List Addition → Kind → List ℕ → Bool
is_touched later kind above =
    list_any (λ (added : Addition). same_kind added.kind kind && bytes_eq added.above above) later

-- a row that was looked up, unless it was added later
abbrev pub unless_later : List Addition → Option Row → Option Row
unless_later later None = None
unless_later later (Some row) = if is_later later (record_of row) then None else Some row

-- what a row is kept under
abbrev pub kept_under : Row → Addition
kept_under row = record { kind = row.kind; key = row.key; above = row.above }

-- the studies, the series and the images that a change adds
abbrev pub rows_added : Change → List Row
rows_added (Stored study series image) =
    option_to_list study ++ (option_to_list series ++ image ∷ [])
rows_added change = []

abbrev pub added_by : Change → List Addition
added_by change = map kept_under (rows_added change)

abbrev pub added_if : Option Change → List Addition
added_if None = []
added_if (Some change) = added_by change

-- The additions to an institution's studies, series and images between two moments are told,
-- behind what was told before. Without them the records are those that there were.
pub record IsTold (institution : List ℕ) (before after : List Row) (old new : List Addition)
    : Type 0 where
  pub told : List Addition
  pub behind : new ≡ old ++ told
  pub stays : (later : List Addition) → lasting_records (without (later ++ told) (of institution after))
      ≡ lasting_records (without later (of institution before))
