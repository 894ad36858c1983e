-- Lookups among rows, and among the records of one institution.
use Rattle.std.specs.Prelude.{◌≡◌, ℕ, ◌+◌, ◌<◌, ◌≤◌, take, drop, slice_get, Some, None, Bool, not, ◌&&◌, List, filter, find, length, Option}
use Rattle.std.specs.Ordering.{is_gt}
use Rattle.std.specs.Str.{bytes_eq}
use Rattle.dq_tables.specs.declared.row.Kind.{Kind}
use Rattle.dq_tables.specs.declared.row.Kind.TheVariants.{Entry}
use Rattle.dq_tables.specs.declared.row.Row.{Row}
use Rattle.dq_tables.specs.Rows.{Record, RowPlace, octet_order, rows_before, rows_past}
unfoldable pub use Rattle.dq_tables.specs.Rows.{same_kind, record_at}

-- the records of a kind, and those among them under another record
unfoldable pub records_of : Kind → List Record → List Record
records_of kind records = filter (λ (r : Record). same_kind r.kind kind) records

unfoldable pub records_above : Kind → List ℕ → List Record → List Record
records_above kind above records =
    filter (λ (r : Record). bytes_eq r.above above) (records_of kind records)

-- those of a kind with keys behind a key, octet by octet
unfoldable pub records_after : Kind → List ℕ → List Record → List Record
records_after kind key records =
    filter (λ (r : Record). is_gt (octet_order r.key key)) (records_of kind records)

-- the worklist entries that wait: no performed procedure step has started them (PS3.4 section
-- K.6.1.2)
abbrev pub waiting_among : List Record → List Record
waiting_among records = filter (λ (r : Record). not r.started) (records_of Entry records)

abbrev pub is_of_kind : Kind → List ℕ → Row → Bool
is_of_kind kind institution row = same_kind row.kind kind && bytes_eq row.inst institution

-- the same of an institution's rows
unfoldable pub row_at : Kind → List ℕ → List ℕ → List Row → Option Row
row_at kind institution key rows =
    find (λ (row : Row). is_of_kind kind institution row && bytes_eq row.key key) rows

unfoldable pub rows_of : Kind → List ℕ → List Row → List Row
rows_of kind institution rows = filter (is_of_kind kind institution) rows

unfoldable pub rows_above : Kind → List ℕ → List ℕ → List Row → List Row
rows_above kind institution above rows =
    filter (λ (row : Row). bytes_eq row.above above) (rows_of kind institution rows)

unfoldable pub rows_after : Kind → List ℕ → List ℕ → List Row → List Row
rows_after kind institution key rows =
    filter (λ (row : Row). is_gt (octet_order row.key key)) (rows_of kind institution rows)

abbrev pub waiting_entries : List ℕ → List Row → List Row
waiting_entries institution rows = filter (λ (row : Row). not row.started) (rows_of Entry institution rows)

-- those of some records with keys behind a key, octet by octet; all where there is no key
abbrev pub records_behind : Option (List ℕ) → List Record → List Record
records_behind None records = records
records_behind (Some key) records = filter (λ (r : Record). is_gt (octet_order r.key key)) records

-- the same of rows
abbrev pub rows_behind : Option (List ℕ) → List Row → List Row
rows_behind None rows = rows
rows_behind (Some key) rows = filter (λ (row : Row). is_gt (octet_order row.key key)) rows

-- Among rows in order, the one at an index stands at a place.
pub record IsAtIndex (p : RowPlace) (rows : List Row) (at : ℕ) : Type 0 where
  pub within : at < length rows
  pub before : take at rows ≡ rows_before p rows
  pub past : drop (at + 1) rows ≡ rows_past p rows
  pub found : row_at p.kind p.institution p.key rows ≡ slice_get rows at

-- None stands at the place, and one there would have the index.
pub record IsFree (p : RowPlace) (rows : List Row) (at : ℕ) : Type 0 where
  pub within : at ≤ length rows
  pub before : take at rows ≡ rows_before p rows
  pub past : drop at rows ≡ rows_past p rows
  pub found : row_at p.kind p.institution p.key rows ≡ None
