-- Migrations of one store into another, and how they leave both.
use Rattle.std.specs.Prelude.{◌≡◌, ◌⊎◌, ℕ, false, List, [], IsTrue}
use Rattle.sqlite_trees.specs.Tree.{Trees}
use Rattle.sqlite.specs.State.{State, HasCleanDisk, Survives}
use Rattle.dq_tables.specs.declared.row.Row.{Row}
use Rattle.dq_tables.specs.Sound.{IsSound}
use Rattle.dq_sql.specs.declared.fault.StoreFault.{StoreFault}
use Rattle.dq_sql.specs.declared.fault.StoreFault.TheVariants as store
use Rattle.dq_sql.specs.declared.migrate_fault.MigrateFault.{MigrateFault}
use Rattle.dq_sql.specs.declared.migrate_fault.MigrateFault.TheVariants.{NoMemory, Store, WrongVersion, BadRows}
use Rattle.dq_sql.specs.declared.version.Version.TheVariants.{One}
use Rattle.dq_sql.specs.Tie.{IsOfVersion, HasRowsOf, HasRows, IsAtRest, IsSame, Stays}
use Rattle.dq_sql.specs.KeptRows.{under_schema}
use Rattle.dq_sql.specs.FoundStores.{IsFound, ShowsAnother, FailsBy, number_query}
use Rattle.dq_sql.specs.MigratedRows.{migrated_rows}

abbrev pub migrate_fault_number : MigrateFault → ℕ
migrate_fault_number NoMemory = 1
migrate_fault_number Store = 2
migrate_fault_number WrongVersion = 3
migrate_fault_number BadRows = 4

-- a fault of one store as one of the migration
abbrev pub fault_of_migration : StoreFault → MigrateFault
fault_of_migration store.NoMemory = NoMemory
fault_of_migration store.Store = Store
fault_of_migration store.WrongVersion = WrongVersion
fault_of_migration store.BadRows = BadRows

-- The rows are those that were found in a store of version 1, migrated.
pub record IsMigrated (s : State) (rows : List Row) : Type 0 where
  pub kept : List Row
  pub found : IsFound One s kept
  pub is : rows ≡ migrated_rows kept

-- The old store stays as it is. As far as its disk returned what was written, the rows are its own,
-- migrated.
pub record Migrates (old left : State) (rows : List Row) : Type 0 where
  pub stays : Stays old left
  pub are : HasCleanDisk left → IsMigrated old rows

-- Trees that have the rows that were found in a store of version 1, migrated.
pub record HasMigrated (s : State) (trees : Trees) : Type 0 where
  pub rows : List Row
  pub are : IsMigrated s rows
  pub has : HasRows (under_schema trees) rows

-- The old store is not taken by a fault, which is true of it as far as its disk returned what was
-- written: one of a wrong version shows another number than 1, and one with bad rows is of version 1,
-- and no rows that it has are sound.
pub record IsNotTaken (old left : State) (fault : MigrateFault) : Type 0 where
  pub wrong : HasCleanDisk left → fault ≡ WrongVersion → ShowsAnother One old left
  pub said : HasCleanDisk left → fault ≡ BadRows → IsOfVersion One old.now
  pub bad
      : HasCleanDisk left → fault ≡ BadRows
      → (rows : List Row) → HasRowsOf One old.now rows → ¬ IsSound rows

-- Another number in the old store is told as another version, unless the query of the numbers fails.
abbrev pub IsToldOfOld : State → State → MigrateFault → Type 0
IsToldOfOld old left fault = (fault ≡ WrongVersion)
    ⊎ ((cause : StoreFault) × FailsBy number_query [] old left cause × (fault ≡ fault_of_migration cause))

-- A migration is refused. The new store shows what it showed, and a crash leaves of it what it could
-- leave before, or all rows, migrated.
pub record IsNotMigrated (old old_left new left : State) : Type 0 where
  pub survives
      : Survives new left (λ trees. HasCleanDisk old_left → HasMigrated old trees)
  pub mode : new.in_transaction ≡ false → left.in_transaction ≡ false
  pub same : HasCleanDisk left → IsTrue left.is_open → IsAtRest new → IsSame new left
