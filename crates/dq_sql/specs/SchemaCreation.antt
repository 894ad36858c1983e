-- How a store of rows is made: what each statement of the one transaction makes of the database.
use Rattle.std.specs.Prelude.{◌≡◌, List, [], ◌∷◌, ◌++◌, IsTrue}
use Rattle.sqlite_schema.specs.declared.schema.Index.{Index}
use Rattle.sqlite_schema.specs.declared.schema.Schema.{Schema}
use Rattle.sqlite_catalog.specs.Change.{created}
use Rattle.sqlite.specs.Effect.{Database, IsDatabase}
use Rattle.sqlite.specs.State.{State}
use Rattle.dq_sql.specs.declared.version.Version.TheVariants.{Two}
use Rattle.dq_sql.specs.Schema.{kept_table, version_table, key_index, kept_schema}
use Rattle.dq_sql.specs.Tie.{IsOfVersion}

abbrev pub no_schema : Schema
no_schema = record { tables = []; indexes = []; views = [] }

-- the schema with the table `kept`
abbrev pub with_kept : Schema
with_kept = created no_schema (kept_table Two)

-- the schema with both tables, and with some indexes after that of the key
abbrev pub with_indexes : List Index → Schema
with_indexes indexes = record {
  tables = kept_table Two ∷ version_table ∷ [];
  indexes = key_index ∷ indexes;
  views = [];
}

abbrev pub MakesKept : Database → Database → Type 0
MakesKept old new = old.schema ≡ no_schema → (new.schema ≡ with_kept) × (new.trees 0 ≡ [])

abbrev pub MakesVersion : Database → Database → Type 0
MakesVersion old new = old.schema ≡ with_kept
    → (new.schema ≡ with_indexes []) × (new.trees 0 ≡ old.trees 0) × (new.trees 2 ≡ [])

-- the database with another schema, and the tables as they were
abbrev pub TakesSchema : Database → Database → Schema → Type 0
TakesSchema old new schema =
    (new.schema ≡ schema) × (new.trees 0 ≡ old.trees 0) × (new.trees 2 ≡ old.trees 2)

-- an index is made after some others
abbrev pub MakesIndex : List Index → Index → Database → Database → Type 0
MakesIndex indexes index old new =
    old.schema ≡ with_indexes indexes → TakesSchema old new (with_indexes (indexes ++ index ∷ []))

abbrev pub MakesIndexes : Database → Database → Type 0
MakesIndexes old new = old.schema ≡ with_indexes [] → TakesSchema old new kept_schema

abbrev pub SaysVersion : Database → Database → Type 0
SaysVersion old new = old.schema ≡ kept_schema
    → (new.trees 0 ≡ old.trees 0) × (old.trees 2 ≡ [] → IsOfVersion Two new × IsDatabase new)

-- The transaction goes on: the store is open, and what is committed is as it was.
pub record StoreGoesOn (old new : State) : Type 0 where
  pub was_open : IsTrue old.is_open
  pub is_open : IsTrue new.is_open
  pub committed : new.committed ≡ old.committed
  pub inside : IsTrue new.in_transaction
