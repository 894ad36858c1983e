-- The contents of the files of a store, and what is found there.
use Rattle.std.specs.Prelude.{◌≡◌, ℕ, List}
use Rattle.sqlite_disk.specs.declared.Disk.{Ghosts}
use Rattle.sqlite_store.specs.declared.store.FileStore.{FileStore}
use Rattle.sqlite_trees.specs.Tree.{Trees}
use Rattle.sqlite_wal.specs.Recovery.{Image}
use Rattle.sqlite.specs.Files.{HoldsDatabase, file_state}
use Rattle.sqlite.specs.Held.{Held}
use Rattle.sqlite.specs.State.{State, HasCleanDisk, Opens}
use Rattle.dq_tables.specs.declared.row.Row.{Row}
use Rattle.dq_tables.specs.Sound.{IsSound}
use Rattle.dq_sql.specs.declared.version.Version.{Version}
use Rattle.dq_sql.specs.declared.version.Version.TheVariants.{One}
use Rattle.dq_sql.specs.MigratedRows.{migrated_rows}
use Rattle.dq_sql.specs.Restarts.{ImageHoldsRows}
use Rattle.dq_sql.specs.Schema.{schema_of}
use Rattle.dq_sql.specs.StoreCopies.{copied_rows}
use Rattle.dq_sql.specs.Tie.{HasRowsOf}

-- The two files hold a store of a version, which has these rows. They are sound.
pub record HoldsRowsOf (version : Version) (image : Image) (rows : List Row) : Type 0 where
  pub trees : Trees
  pub holds : HoldsDatabase image trees
  pub has : HasRowsOf version (record { schema = schema_of version; trees = trees }) rows
  pub sound : IsSound rows

-- A store of a version was just opened, and has these rows. They are sound.
pub record ShowsRowsOf (version : Version) (s : State) (rows : List Row) : Type 0 where
  pub opens : Opens s
  pub has : HasRowsOf version s.now rows
  pub sound : IsSound rows

-- It is so as far as the disk returned what was written: a connection was left that says whether it did.
abbrev pub AsFarAsRead : {D : Type 0} → Ghosts D → Type 0 → Type 0
AsFarAsRead {D} g IsSo = (left : Held (FileStore D g)) × (HasCleanDisk (file_state left) → IsSo)

-- The two files hold a store that has these rows. They are sound.
abbrev pub AreHeld : Image → List Row → Type 0
AreHeld image rows = ImageHoldsRows image rows × IsSound rows

module _ {D : Type 0} (g : Ghosts D) (image : Image) where
  -- The rows are those of a copy of the store in these files: of the institutions of some names, or of all where there
  -- is no name.
  abbrev pub AreCopied : List (List ℕ) → List Row → Type 0
  AreCopied names kept = (rows : List Row) → AreHeld image rows
      → AsFarAsRead g (kept ≡ copied_rows names rows)

  -- The rows are those of the store of version 1 in these files, migrated.
  abbrev pub AreMigrated : List Row → Type 0
  AreMigrated kept = (rows : List Row) → HoldsRowsOf One image rows
      → AsFarAsRead g (kept ≡ migrated_rows rows)
