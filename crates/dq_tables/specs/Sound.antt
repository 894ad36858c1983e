-- Which rows are sound, and which changes fit them.
use Rattle.std.specs.Prelude.{◌≡◌, ℕ, Bool, true, false, not, ◌&&◌, ◌||◌, nat_le, List, [], ◌∷◌, length, Option, Some, None, is_some, Result, Ok, Err}
use Rattle.std.specs.Coded.{Coded-set, coded_bool, ×_prop, Unit-prop}
use Rattle.std.specs.List.{AllByRecursion, AllByRecursion-prop}
use Rattle.std.specs.Ordering.{Ordering-set}
use Rattle.std.specs.Str.{bytes_eq}
use Rattle.dq_vr.specs.Tags.{study_instance_uid, series_instance_uid, sop_instance_uid}
use Rattle.dq_value.specs.Uid.{is_uid}
use Rattle.dq_dataset.specs.declared.fault.ReadFault.{ReadFault}
use Rattle.dq_dataset.specs.declared.header.Syntax.TheVariants.{Explicit}
use Rattle.dq_dataset.specs.Tree.{ElementList}
use Rattle.dq_dataset.specs.DataSetReader.{data_set_read}
use Rattle.dq_dataset.specs.Canonical.{canonical}
use Rattle.dq_tables.specs.declared.row.Kind.{Kind}
use Rattle.dq_tables.specs.declared.row.Kind.TheVariants.{Study, Series, Image, Entry, Step}
use Rattle.dq_tables.specs.declared.row.Row.{Row}
use Rattle.dq_tables.specs.declared.change.Change.{Change}
use Rattle.dq_tables.specs.declared.change.Change.TheVariants.{Stored, EntryAdded, EntryRemoved, StepAdded, StepChanged}
use Rattle.dq_tables.specs.Rows.{IsRising, after_edits, put_if, IsOf}
use Rattle.dq_tables.specs.Lookups.{same_kind, row_at}
use Rattle.dq_tables.specs.Keys.{uid_at, entry_id}

abbrev pub is_value : Option (List ℕ) → List ℕ → Bool
is_value None octets = false
is_value (Some value) octets = bytes_eq value octets

-- The key is the data set's own. A step's is the SOP Instance UID of its N-CREATE, which its data
-- set does not hold.
unfoldable pub has_key : Kind → List ℕ → ElementList → Bool
has_key Study key d = is_value (uid_at study_instance_uid d) key
has_key Series key d = is_value (uid_at series_instance_uid d) key
has_key Image key d = is_value (uid_at sop_instance_uid d) key
has_key Entry key d = is_value (entry_id d) key
has_key Step key d = is_uid key

-- The key above is that of the study of a series and of the series of an image.
unfoldable pub has_above : Kind → List ℕ → ElementList → Bool
has_above Series above d = is_value (uid_at study_instance_uid d) above
has_above Image above d = is_value (uid_at series_instance_uid d) above
has_above kind above d = bytes_eq above []

-- the greatest number of octets of an entry
abbrev pub entry_limit : ℕ
entry_limit = 0x1000000

unfoldable pub is_within_limits : Kind → List ℕ → Bool
is_within_limits Entry octets = nat_le (length octets) entry_limit
is_within_limits kind octets = true

-- An entry alone may be started.
abbrev pub may_be_started : Kind → Bool → Bool
may_be_started kind started = not started || same_kind kind Entry

abbrev pub is_record_of : Result ElementList ReadFault → Row → Bool
is_record_of (Err fault) row = false
is_record_of (Ok d) row =
    bytes_eq (canonical Explicit d) row.octets
    && (has_key row.kind row.key d
    && (has_above row.kind row.above d && is_within_limits row.kind row.octets))

-- The octets are the one Explicit spelling of a data set, the keys are its own, and the row is
-- started only where it may be.
unfoldable pub is_own_row : Row → Bool
is_own_row row =
    may_be_started row.kind row.started && is_record_of (data_set_read Explicit row.octets) row

-- the row above is there
unfoldable pub is_held : List Row → Kind → List ℕ → List ℕ → Bool
is_held rows Series institution above = is_some (row_at Study institution above rows)
is_held rows Image institution above = is_some (row_at Series institution above rows)
is_held rows kind institution above = true

abbrev pub OwnEach : List Row → Type 0
OwnEach rows = AllByRecursion (λ (row : Row). is_own_row row ≡ true) rows

abbrev pub HeldEach : List Row → List Row → Type 0
HeldEach all rows =
    AllByRecursion (λ (row : Row). is_held all row.kind row.inst row.above ≡ true) rows

pub IsRising-prop : (rows : List Row) → IsProp (IsRising rows)
unfolding IsRising
IsRising-prop [] = Unit-prop
IsRising-prop (row ∷ rows) =
    ×_prop (AllByRecursion-prop _ (λ later. Ordering-set _ _) rows) (IsRising-prop rows)

pub OwnEach-prop : (rows : List Row) → IsProp (OwnEach rows)
OwnEach-prop rows = AllByRecursion-prop _ (λ row. Coded-set coded_bool _ _) rows

pub HeldEach-prop : (all rows : List Row) → IsProp (HeldEach all rows)
HeldEach-prop all rows = AllByRecursion-prop _ (λ row. Coded-set coded_bool _ _) rows

-- Rows are sound where each has a place of its own, is its record's own, and has the row above it.
pub record IsSound (rows : List Row) : Type 0 where
  pub rising : IsRising rows
  pub own : OwnEach rows
  pub held : HeldEach rows rows

-- a row that may be added: its place is free
pub record IsNew (rows : List Row) (kind : Kind) (row : Row) : Type 0 where
  pub kind_is : row.kind ≡ kind
  pub free : row_at kind row.inst row.key rows ≡ None
  pub own : is_own_row row ≡ true
  pub held : is_held rows kind row.inst row.above ≡ true

abbrev pub IsNewIf : List Row → Kind → Option Row → Type 0
IsNewIf rows kind None = Unit {0}
IsNewIf rows kind (Some row) = IsNew rows kind row

-- a row that may take the place of another
pub record MayReplace (rows : List Row) (kind : Kind) (row : Row) : Type 0 where
  pub kind_is : row.kind ≡ kind
  pub there : is_some (row_at kind row.inst row.key rows) ≡ true
  pub own : is_own_row row ≡ true

-- A new step, with the keys of entries that are there.
pub record FitsStep (rows : List Row) (row : Row) (keys : List (List ℕ)) : Type 0 where
  pub step_new : IsNew rows Step row
  pub there
      : AllByRecursion (λ (key : List ℕ). is_some (row_at Entry row.inst key rows) ≡ true) keys

-- A stored image, with a study and a series where they are new. Their places are free in turn.
pub record FitsStored (rows : List Row) (study series : Option Row) (image : Row) : Type 0 where
  pub study_of : IsOf image.inst study
  pub series_of : IsOf image.inst series
  pub study_new : IsNewIf rows Study study
  pub series_new : IsNewIf (after_edits image.inst (put_if study) rows) Series series
  pub image_new
      : IsNew (after_edits image.inst (put_if series) (after_edits image.inst (put_if study) rows))
      Image image

-- The conditions on a change: added places are free, changed, removed and started rows are there,
-- rows above are there or added with it, and rows are their records' own.
abbrev pub ChangeFits : List Row → Change → Type 0
ChangeFits rows (Stored study series image) = FitsStored rows study series image
ChangeFits rows (EntryAdded row) = IsNew rows Entry row
ChangeFits rows (EntryRemoved institution key) = is_some (row_at Entry institution key rows) ≡ true
ChangeFits rows (StepAdded row keys) = FitsStep rows row keys
ChangeFits rows (StepChanged row) = MayReplace rows Step row
