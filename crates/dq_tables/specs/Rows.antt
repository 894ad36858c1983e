-- The records of one institution, the rows of all, and the effects of changes on them.
use Rattle.std.specs.Prelude.{◌≡◌, ℕ, Bool, true, ◌==◌, ◌&&◌, not, find, List, [], ◌∷◌, ◌++◌, if◌then◌else◌, filter, map, Option, Some, None}
use Rattle.std.specs.declared.cmp.Ordering.{Ordering}
use Rattle.std.specs.declared.cmp.Ordering.TheVariants.{Less}
use Rattle.std.specs.Ordering.{nat_cmp, ordering_then, is_lt, is_eq, is_gt}
use Rattle.std.specs.Cmp.Lexicographic.{slice_cmp}
use Rattle.std.specs.List.{AllByRecursion}
use Rattle.std.specs.Str.{bytes_eq}
use Rattle.dq_tables.specs.declared.row.Kind.{Kind}
use Rattle.dq_tables.specs.declared.row.Kind.TheVariants.{Study, Series, Image, Entry, Step}
use Rattle.dq_tables.specs.declared.row.Row.{Row}
use Rattle.dq_tables.specs.declared.change.Change.{Change}
use Rattle.dq_tables.specs.declared.change.Change.TheVariants.{Stored, EntryAdded, EntryRemoved, StepAdded, StepChanged}

abbrev pub number_of_kind : Kind → ℕ
number_of_kind Study = 1
number_of_kind Series = 2
number_of_kind Image = 3
number_of_kind Entry = 4
number_of_kind Step = 5

-- A record: the data set in Explicit, its key, the key of the record above it, of which there is
-- none but for series and images, and whether a performed procedure step has started it, as may be
-- of entries.
pub record Record : Type 0 where
  pub kind : Kind
  pub key : List ℕ
  pub above : List ℕ
  pub octets : List ℕ
  pub started : Bool

-- where a record stands among those of its institution
pub record Place : Type 0 where
  pub kind : Kind
  pub key : List ℕ

abbrev pub record_place : Record → Place
record_place r = record { kind = r.kind; key = r.key }

-- octet by octet
abbrev pub octet_order : List ℕ → List ℕ → Ordering
octet_order = slice_cmp nat_cmp

abbrev pub kind_order : Kind → Kind → Ordering
kind_order a b = nat_cmp (number_of_kind a) (number_of_kind b)

-- by kind, then by key
abbrev pub place_order : Place → Place → Ordering
place_order p q = ordering_then (kind_order p.kind q.kind) (octet_order p.key q.key)

abbrev pub records_before : Place → List Record → List Record
records_before p records = filter (λ (r : Record). is_lt (place_order (record_place r) p)) records

abbrev pub records_past : Place → List Record → List Record
records_past p records = filter (λ (r : Record). is_gt (place_order (record_place r) p)) records

abbrev pub same_kind : Kind → Kind → Bool
same_kind a b = number_of_kind a == number_of_kind b

-- the record of a kind with a key
unfoldable pub record_at : Kind → List ℕ → List Record → Option Record
record_at kind key records =
    find (λ (r : Record). same_kind r.kind kind && bytes_eq r.key key) records

abbrev pub as_started : Record → Record
as_started r = record r { started = true }

-- A record put in its place, where it replaces the one that was there, the record at a place
-- removed, or the entry with a key started.
pub data Edit : Type 0 where
  Put : Record → Edit
  Remove : Kind → List ℕ → Edit
  Start : List ℕ → Edit

abbrev pub edit_place : Edit → Place
edit_place (Put r) = record_place r
edit_place (Remove kind key) = record { kind = kind; key = key }
edit_place (Start key) = record { kind = Entry; key = key }

-- what stands at that place afterwards, by what stands there before
abbrev pub left_there : Edit → Option Record → List Record
left_there (Put r) there = r ∷ []
left_there (Remove kind key) there = []
left_there (Start key) None = []
left_there (Start key) (Some r) = as_started r ∷ []

abbrev pub records_after_edit : Edit → List Record → List Record
records_after_edit e records =
    left_there e (record_at (edit_place e).kind (edit_place e).key records)

unfoldable pub edited_by : Edit → List Record → List Record
edited_by e records =
    records_before (edit_place e) records ++ records_after_edit e records
    ++ records_past (edit_place e) records

-- the records after some edits in turn
abbrev pub records_after_edits : List Edit → List Record → List Record
records_after_edits [] records = records
records_after_edits (e ∷ es) records = records_after_edits es (edited_by e records)

-- the records after some lists of edits in turn
abbrev pub edited_all : List (List Edit) → List Record → List Record
edited_all [] records = records
edited_all (es ∷ more) records = edited_all more (records_after_edits es records)

-- A row is a record under an institution's name.
abbrev pub row_of : List ℕ → Record → Row
row_of institution r = record {
  kind = r.kind;
  inst = institution;
  key = r.key;
  above = r.above;
  octets = r.octets;
  started = r.started;
}

abbrev pub record_of : Row → Record
record_of row = record {
  kind = row.kind;
  key = row.key;
  above = row.above;
  octets = row.octets;
  started = row.started;
}

-- the rows under an institution's name
abbrev pub rows_named : List ℕ → List Row → List Row
rows_named institution rows = filter (λ (row : Row). bytes_eq row.inst institution) rows

-- the records of an institution
unfoldable pub of : List ℕ → List Row → List Record
of institution rows = map record_of (rows_named institution rows)

-- where a row stands among all
pub record RowPlace : Type 0 where
  pub kind : Kind
  pub institution : List ℕ
  pub key : List ℕ

abbrev pub row_place_of : Row → RowPlace
row_place_of row = record { kind = row.kind; institution = row.inst; key = row.key }

abbrev pub place : Kind → List ℕ → List ℕ → RowPlace
place kind institution key = record { kind = kind; institution = institution; key = key }

-- the place of an institution's record
abbrev pub within : List ℕ → Place → RowPlace
within institution p = record { kind = p.kind; institution = institution; key = p.key }

-- by kind, then by institution
abbrev pub group_order : RowPlace → Kind → List ℕ → Ordering
group_order p kind institution =
    ordering_then (kind_order p.kind kind) (octet_order p.institution institution)

-- by kind, then by institution, then by key
abbrev pub row_place_order : RowPlace → RowPlace → Ordering
row_place_order p q = ordering_then (group_order p q.kind q.institution) (octet_order p.key q.key)

-- The rows stand in that order, no two at one place.
unfoldable pub IsRising : List Row → Type 0
IsRising [] = Unit {0}
IsRising (row ∷ rows) =
    AllByRecursion (λ (later : Row).
    row_place_order (row_place_of row) (row_place_of later) ≡ Less) rows
    × IsRising rows

abbrev pub rows_before : RowPlace → List Row → List Row
rows_before p rows = filter (λ (row : Row). is_lt (row_place_order (row_place_of row) p)) rows

abbrev pub rows_past : RowPlace → List Row → List Row
rows_past p rows = filter (λ (row : Row). is_gt (row_place_order (row_place_of row) p)) rows

abbrev pub rows_elsewhere : RowPlace → List Row → List Row
rows_elsewhere p rows =
    filter (λ (row : Row). not (is_eq (row_place_order (row_place_of row) p))) rows

-- the rows after an edit of an institution's records
unfoldable pub after_edit : List ℕ → Edit → List Row → List Row
after_edit institution e rows =
    rows_before (within institution (edit_place e)) rows
    ++ map (row_of institution) (records_after_edit e (of institution rows))
    ++ rows_past (within institution (edit_place e)) rows

abbrev pub after_edits : List ℕ → List Edit → List Row → List Row
after_edits institution [] rows = rows
after_edits institution (e ∷ es) rows = after_edits institution es (after_edit institution e rows)

-- Edits of the records of one institution, which happen together or not at all.
pub record Operation : Type 0 where
  pub institution : List ℕ
  pub edits : List Edit

abbrev pub by : List ℕ → List Edit → Operation
by institution edits = record { institution = institution; edits = edits }

abbrev pub after : Operation → List Row → List Row
after operation rows = after_edits operation.institution operation.edits rows

-- the rows after some operations in turn
abbrev pub after_all : List Operation → List Row → List Row
after_all [] rows = rows
after_all (o ∷ os) rows = after_all os (after o rows)

-- the edits among them of one institution's records
abbrev pub own_edits : List ℕ → List Operation → List (List Edit)
own_edits institution [] = []
own_edits institution (o ∷ os) =
    if bytes_eq o.institution institution then o.edits ∷ own_edits institution os
    else own_edits institution os

abbrev pub put_if : Option Row → List Edit
put_if None = []
put_if (Some row) = Put (record_of row) ∷ []

-- the row, if there is one, is the institution's
abbrev pub IsOf : List ℕ → Option Row → Type 0
IsOf institution None = Unit {0}
IsOf institution (Some row) = row.inst ≡ institution

-- a change as edits of one institution's records
abbrev pub edits_of : Change → List Edit
edits_of (Stored study series image) = put_if study ++ (put_if series ++ Put (record_of image) ∷ [])
edits_of (EntryAdded row) = Put (record_of row) ∷ []
edits_of (EntryRemoved institution key) = Remove Entry key ∷ []
edits_of (StepAdded row keys) = Put (record_of row) ∷ map Start keys
edits_of (StepChanged row) = Put (record_of row) ∷ []

abbrev pub institution_of : Change → List ℕ
institution_of (Stored study series image) = image.inst
institution_of (EntryAdded row) = row.inst
institution_of (EntryRemoved institution key) = institution
institution_of (StepAdded row keys) = row.inst
institution_of (StepChanged row) = row.inst

abbrev pub operation_of : Change → Operation
operation_of change = by (institution_of change) (edits_of change)
