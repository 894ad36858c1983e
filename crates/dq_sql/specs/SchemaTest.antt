-- Parts of the test whether a store is one of rows.
use Rattle.std.specs.Prelude.{◌≡◌, ℕ, ◌+◌, ℤ, false, [], ◌∷◌, None, codes}
use Rattle.sqlite_value.specs.Keys.{plain}
use Rattle.sqlite_value.specs.declared.value.Value.TheVariants.{Int}
use Rattle.sqlite_value.specs.declared.keys.Collation.TheVariants.{Binary as Bytewise}
use Rattle.sqlite_sql.specs.declared.ops.BinaryOp.TheVariants.{Compare}
use Rattle.sqlite_sql.specs.declared.ops.CompareOp.{CompareOp}
use Rattle.sqlite_schema.specs.declared.code.Op.{Op}
use Rattle.sqlite_schema.specs.declared.code.Op.TheVariants.{Column, Literal, Binary}
use Rattle.sqlite_schema.specs.declared.schema.Table.{Table}
use Rattle.sqlite_schema.specs.declared.schema.Schema.{Schema}
use Rattle.dq_sql.specs.declared.version.Version.{Version}
use Rattle.dq_sql.specs.Schema.{kind_checks, key_index, above_index, further_indexes}

-- what a table of a store of rows does not have
pub record HasNoMore (table : Table) : Type 0 where
  pub key : table.key ≡ None
  pub references : table.references ≡ []
  pub computed : table.computed ≡ []
  pub stamps : table.stamps ≡ record { places = []; terms = []; formats = [] }
  pub uncounted : table.is_counted ≡ false

-- the primary key is of the first three columns, and has the one index
pub record HasKey (table : Table) : Type 0 where
  pub primary : table.primary ≡ 1 ∷ 2 ∷ 3 ∷ []
  pub uniques : table.uniques ≡ (1 ∷ 2 ∷ 3 ∷ []) ∷ []
  pub orders : table.orders ≡ plain ∷ []

pub record HasNoRules (table : Table) : Type 0 where
  pub primary : table.primary ≡ []
  pub uniques : table.uniques ≡ []
  pub orders : table.orders ≡ []
  pub checks : table.checks ≡ []

-- the table `kept`, but for its columns
pub record IsKeptTable (table : Table) : Type 0 where
  pub name : table.name ≡ codes "kept"
  pub tree : table.tree ≡ 0
  pub key : HasKey table
  pub checks : table.checks ≡ kind_checks
  pub more : HasNoMore table

-- what a store of rows has beside its tables
pub record HasOthers (version : Version) (schema : Schema) : Type 0 where
  pub indexes : schema.indexes ≡ key_index ∷ above_index ∷ further_indexes version
  pub views : schema.views ≡ []

-- The nodes are the column `kind`, the number, and that the one compares so to the other.
pub record BoundsKind (kind limit test : Op) (how : CompareOp) (number : ℤ) (place : ℕ) : Type 0 where
  pub kind_is : kind ≡ Column 1 1
  pub limit_is : limit ≡ Literal (Int number)
  pub test_is : test ≡ Binary (Compare how Bytewise) place (place + 1)
