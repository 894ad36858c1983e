-- The schemas of stores of rows.
use Rattle.std.specs.Prelude.{Bool, true, false, List, ℕ, [], ◌∷◌, ◌++◌, None, codes, pos}
use Rattle.sqlite_value.specs.declared.keys.Collation.TheVariants.{Binary}
use Rattle.sqlite_value.specs.declared.value.Value.TheVariants.{Null, Int}
use Rattle.sqlite_value.specs.Keys.{plain}
use Rattle.sqlite_sql.specs.declared.ops.BinaryOp.TheVariants.{And, Compare}
use Rattle.sqlite_sql.specs.declared.ops.CompareOp.TheVariants.{Ge, Le}
use Rattle.sqlite_sql.specs.Term.{Term, lit, col, op2}
use Rattle.sqlite_schema.specs.declared.schema.Kind.{Kind}
use Rattle.sqlite_schema.specs.declared.schema.Kind.TheVariants.{Integer, Text, Blob}
use Rattle.sqlite_schema.specs.declared.schema.Column.{Column}
use Rattle.sqlite_schema.specs.declared.schema.Table.{Table}
use Rattle.sqlite_schema.specs.declared.schema.Index.{Index}
use Rattle.sqlite_schema.specs.declared.schema.Schema.{Schema}
use Rattle.dq_sql.specs.declared.version.Version.{Version}
use Rattle.dq_sql.specs.declared.version.Version.TheVariants.{One, Two}

-- the number by which a store says its version
abbrev pub version_number : Version → ℕ
version_number One = 1
version_number Two = 2

-- a column of a STRICT table without a default
abbrev pub optional : List ℕ → Kind → Column
optional name kind = record {
  name = name;
  kind = kind;
  is_strict = true;
  not_null = false;
  default = Null;
  collation = Binary;
}

abbrev pub required_column : List ℕ → Kind → Column
required_column name kind = record (optional name kind) { not_null = true }

-- the columns of a record, its place and what it says of a study
abbrev pub record_columns : List Column
record_columns =
    required_column (codes "kind") Integer ∷ required_column (codes "inst") Text ∷ required_column (codes "id") Blob
    ∷ required_column (codes "above") Blob ∷ optional (codes "patient") Blob ∷ optional (codes "day") Integer
    ∷ required_column (codes "octets") Blob ∷ []

-- Version 2 says also whether the entry is started.
abbrev pub further_columns : Version → List Column
further_columns One = []
further_columns Two = required_column (codes "started") Integer ∷ []

abbrev pub kept_columns : Version → List Column
kept_columns version = record_columns ++ further_columns version

abbrev pub version_columns : List Column
version_columns = required_column (codes "number") Integer ∷ []

-- a kind is 1 to 5
abbrev pub kind_checks : List Term
kind_checks = op2 And (op2 (Compare Ge Binary) (col 1 1) (lit (Int (pos 1)))) (op2 (Compare Le Binary) (col 1 1) (lit (Int (pos 5)))) ∷ []

abbrev pub kept_table : Version → Table
kept_table version = record {
  name = codes "kept";
  tree = 0;
  columns = kept_columns version;
  key = None;
  primary = 1 ∷ 2 ∷ 3 ∷ [];
  uniques = (1 ∷ 2 ∷ 3 ∷ []) ∷ [];
  orders = plain ∷ [];
  checks = kind_checks;
  references = [];
  computed = [];
  stamps = record { places = []; terms = []; formats = [] };
  is_counted = false;
}

abbrev pub version_table : Table
version_table = record {
  name = codes "version";
  tree = 2;
  columns = version_columns;
  key = None;
  primary = [];
  uniques = [];
  orders = [];
  checks = [];
  references = [];
  computed = [];
  stamps = record { places = []; terms = []; formats = [] };
  is_counted = false;
}

-- an index of the table `kept`, ascending octet by octet
abbrev pub kept_index : List ℕ → ℕ → List ℕ → Bool → Index
kept_index name tree columns is_unique = record {
  name = name;
  tree = tree;
  table = 0;
  columns = columns;
  order = plain;
  is_unique = is_unique;
}

-- that of the PRIMARY KEY
abbrev pub key_index : Index
key_index = kept_index (codes "sqlite_autoindex_kept_1") 1 (1 ∷ 2 ∷ 3 ∷ []) true

-- that by which the rows under another are found
abbrev pub above_index : Index
above_index = kept_index (codes "kept_above") 3 (1 ∷ 2 ∷ 4 ∷ 3 ∷ []) false

-- that by which the studies of a patient are found
abbrev pub patient_index : Index
patient_index = kept_index (codes "kept_patient") 4 (1 ∷ 2 ∷ 5 ∷ 3 ∷ []) false

-- that by which the studies of a day are found
abbrev pub day_index : Index
day_index = kept_index (codes "kept_day") 5 (1 ∷ 2 ∷ 6 ∷ 3 ∷ []) false

-- that by which the entries are found that wait
abbrev pub started_index : Index
started_index = kept_index (codes "kept_started") 6 (1 ∷ 2 ∷ 8 ∷ 3 ∷ []) false

-- Version 2 has three indexes more.
abbrev pub further_indexes : Version → List Index
further_indexes One = []
further_indexes Two = patient_index ∷ day_index ∷ started_index ∷ []

unfoldable pub schema_of : Version → Schema
schema_of version = record {
  tables = kept_table version ∷ version_table ∷ [];
  indexes = key_index ∷ above_index ∷ further_indexes version;
  views = [];
}

-- that in which rows are kept
abbrev pub kept_schema : Schema
kept_schema = schema_of Two
