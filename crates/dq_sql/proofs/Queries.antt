-- What the texts of the queries mean.
use Rattle.std.proofs.Common.{◌≡◌, ℕ, List, [], ◌∷◌, None, Some, Option, codes, false, pos, negsuc, refl}
use Rattle.sqlite_value.specs.declared.value.Value.TheVariants.{Int, Null}
use Rattle.sqlite_value.specs.declared.keys.Collation.TheVariants.{Binary}
use Rattle.sqlite_value.specs.declared.keys.Key.{Key}
use Rattle.sqlite_value.specs.Keys.{ascending}
use Rattle.sqlite_sql.specs.declared.ops.BinaryOp.TheVariants.{Compare}
use Rattle.sqlite_sql.specs.declared.ops.CompareOp.TheVariants.{Eq, Gt}
use Rattle.sqlite_sql.specs.declared.aggregate.AggregateOp.TheVariants.{CountRows}
use Rattle.sqlite_sql.specs.Term.{Term, lit, col, op2}
use Rattle.sqlite_sql.specs.Group.{Grouping}
use Rattle.sqlite_sql.specs.Query.{Query, inner, end}
use Rattle.sqlite_schema.specs.declared.command.Command.TheVariants.{Select}
use Rattle.sqlite.specs.Listing.{understood, reads_listing}
use Rattle.sqlite_tied.specs.Compute.{everything}
use Rattle.sqlite.proofs.Callers.{IsPlain, command_of}
use Rattle.dq_sql.specs.declared.version.Version.{Version}
use Rattle.dq_sql.specs.declared.version.Version.TheVariants.{One, Two}
use Rattle.dq_sql.specs.Schema.{schema_of}
use Rattle.dq_sql.specs.FoundStores.{number_query}

-- each row of a tree that passes these tests, shown by these terms, in this order
abbrev pub selecting : ℕ → List Term → Option Grouping → List Term → List (Term × Key) → Query
selecting tree tests group shown order = record {
  from = inner tree end;
  filter = tests;
  group = group;
  project = shown;
  distinct = false;
  collations = [];
  order = order;
  limit = lit (Int (negsuc 0));
  offset = lit (Int (pos 0));
}

-- a column of the row is a parameter
abbrev pub column_is : ℕ → ℕ → Term
column_is at parameter = op2 (Compare Eq Binary) (col 1 at) (col 0 parameter)

-- the rows of a kind and an institution, those among them with a key, and those under a key
abbrev pub of_tests : List Term
of_tests = column_is 1 0 ∷ column_is 2 1 ∷ []

abbrev pub at_tests : List Term
at_tests = column_is 1 0 ∷ column_is 2 1 ∷ column_is 3 2 ∷ []

abbrev pub above_tests : List Term
above_tests = column_is 1 0 ∷ column_is 2 1 ∷ column_is 4 2 ∷ []

-- those with a key behind one
abbrev pub after_tests : List Term
after_tests = column_is 1 0 ∷ column_is 2 1 ∷ op2 (Compare Gt Binary) (col 1 3) (col 0 2) ∷ []

-- those under a key with a key behind one
abbrev pub above_after_tests : List Term
above_after_tests = column_is 1 0 ∷ column_is 2 1 ∷ column_is 4 2 ∷ op2 (Compare Gt Binary) (col 1 3) (col 0 3) ∷ []

-- those that are not started, with a key behind one
abbrev pub waiting_tests : List Term
waiting_tests =
    column_is 1 0 ∷ column_is 2 1 ∷ op2 (Compare Eq Binary) (col 1 8) (lit (Int (pos 0))) ∷ op2 (Compare Gt Binary) (col 1 3) (col 0 2) ∷ []

abbrev pub shown_columns : List Term
shown_columns = col 1 3 ∷ col 1 4 ∷ col 1 7 ∷ col 1 8 ∷ []

abbrev pub by_id : List (Term × Key)
by_id = (col 1 3, ascending Binary) ∷ []

-- the rows of a kind and an institution by their keys: as many as the third parameter says, behind as many as the fourth says
abbrev pub of_window : Query
of_window = record (selecting 0 of_tests None shown_columns by_id) { limit = col 0 2; offset = col 0 3 }

-- the rows that pass tests, by their keys: as many as a parameter says
abbrev pub of_page : List Term → ℕ → Query
of_page tests limit = record (selecting 0 tests None shown_columns by_id) { limit = col 0 limit }

abbrev pub count_grouping : Grouping
count_grouping = record {
  keys = [];
  collations = [];
  aggregates = (record { op = CountRows; distinct = false; collation = Binary; argument = lit Null }) ∷ [];
  having = [];
}

abbrev pub counted : Option Grouping
counted = Some count_grouping

-- the text is this query under the schema of a version
pub record Means (version : Version) (text : List ℕ) (q : Query) : Type 0 where
  pub names : List (List ℕ)
  pub is : command_of (understood (schema_of version) text) ≡ Select (record { lets = []; body = q }) names
  pub plain : IsPlain (understood (schema_of version) text)
  pub unlisted : reads_listing (schema_of version) text ≡ false

abbrev pub row_text : List ℕ
row_text = codes "SELECT id, above, octets, started FROM kept WHERE kind = ?1 AND inst = ?2 AND id = ?3"

abbrev pub of_text : List ℕ
of_text = codes "SELECT id, above, octets, started FROM kept WHERE kind = ?1 AND inst = ?2 ORDER BY id"

abbrev pub window_text : List ℕ
window_text = codes "SELECT id, above, octets, started FROM kept WHERE kind = ?1 AND inst = ?2 ORDER BY id LIMIT ?3 OFFSET ?4"

abbrev pub after_text : List ℕ
after_text = codes "SELECT id, above, octets, started FROM kept WHERE kind = ?1 AND inst = ?2 AND id > ?3 ORDER BY id LIMIT ?4"

abbrev pub above_text : List ℕ
above_text = codes "SELECT id, above, octets, started FROM kept WHERE kind = ?1 AND inst = ?2 AND above = ?3 ORDER BY id"

abbrev pub above_after_text : List ℕ
above_after_text = codes "SELECT id, above, octets, started FROM kept WHERE kind = ?1 AND inst = ?2 AND above = ?3 AND id > ?4 ORDER BY id LIMIT ?5"

abbrev pub waiting_text : List ℕ
waiting_text = codes "SELECT id, above, octets, started FROM kept WHERE kind = ?1 AND inst = ?2 AND started = 0 AND id > ?3 ORDER BY id LIMIT ?4"

abbrev pub count_text : List ℕ
count_text = codes "SELECT count(*) FROM kept WHERE kind = ?1 AND inst = ?2"

abbrev pub count_above_text : List ℕ
count_above_text = codes "SELECT count(*) FROM kept WHERE kind = ?1 AND inst = ?2 AND above = ?3"

abbrev pub told_text : List ℕ
told_text = codes "SELECT count(*) FROM kept"

abbrev pub all_text : Version → List ℕ
all_text One = codes "SELECT rowid, kind, inst, id, above, patient, day, octets, 0 FROM kept ORDER BY kind, inst, id"
all_text Two = codes "SELECT rowid, kind, inst, id, above, patient, day, octets, started FROM kept ORDER BY kind, inst, id"

abbrev pub version_text : List ℕ
version_text = number_query

-- version 1 has no last column, which would be 0
abbrev pub last_column : Version → Term
last_column One = lit (Int (pos 0))
last_column Two = col 1 8

abbrev pub all_columns : Version → List Term
all_columns version =
    col 1 0 ∷ col 1 1 ∷ col 1 2 ∷ col 1 3 ∷ col 1 4 ∷ col 1 5 ∷ col 1 6 ∷ col 1 7 ∷ last_column version ∷ []

abbrev pub by_place : List (Term × Key)
by_place = (col 1 1, ascending Binary) ∷ (col 1 2, ascending Binary) ∷ (col 1 3, ascending Binary) ∷ []

abbrev pub names : List (List ℕ)
names = codes "id" ∷ codes "above" ∷ codes "octets" ∷ codes "started" ∷ []

abbrev last_name : Version → List ℕ
last_name One = codes "0"
last_name Two = codes "started"

abbrev all_names : Version → List (List ℕ)
all_names version =
    codes "rowid" ∷ codes "kind" ∷ codes "inst" ∷ codes "id" ∷ codes "above" ∷ codes "patient" ∷ codes "day" ∷ codes "octets" ∷ last_name version ∷ []

pub row_means : Means Two row_text (selecting 0 at_tests None shown_columns [])
unfolding understood everything schema_of
row_means = record { names = names; is = refl; plain = (refl, refl); unlisted = refl }

pub of_means : Means Two of_text (selecting 0 of_tests None shown_columns by_id)
unfolding understood everything schema_of
of_means = record { names = names; is = refl; plain = (refl, refl); unlisted = refl }

pub window_means : Means Two window_text of_window
unfolding understood everything schema_of
window_means = record { names = names; is = refl; plain = (refl, refl); unlisted = refl }

pub after_means : Means Two after_text (of_page after_tests 3)
unfolding understood everything schema_of
after_means = record { names = names; is = refl; plain = (refl, refl); unlisted = refl }

pub above_means : Means Two above_text (selecting 0 above_tests None shown_columns by_id)
unfolding understood everything schema_of
above_means = record { names = names; is = refl; plain = (refl, refl); unlisted = refl }

pub above_after_means : Means Two above_after_text (of_page above_after_tests 4)
unfolding understood everything schema_of
above_after_means = record { names = names; is = refl; plain = (refl, refl); unlisted = refl }

pub waiting_means : Means Two waiting_text (of_page waiting_tests 3)
unfolding understood everything schema_of
waiting_means = record { names = names; is = refl; plain = (refl, refl); unlisted = refl }

pub count_means : Means Two count_text (selecting 0 of_tests counted (col 1 0 ∷ []) [])
unfolding understood everything schema_of
count_means = record { names = codes "count(*)" ∷ []; is = refl; plain = (refl, refl); unlisted = refl }

pub count_above_means : Means Two count_above_text (selecting 0 above_tests counted (col 1 0 ∷ []) [])
unfolding understood everything schema_of
count_above_means = record { names = codes "count(*)" ∷ []; is = refl; plain = (refl, refl); unlisted = refl }

pub all_means : (version : Version) → Means version (all_text version) (selecting 0 [] None (all_columns version) by_place)
unfolding understood everything schema_of
all_means One = record { names = all_names One; is = refl; plain = (refl, refl); unlisted = refl }
all_means Two = record { names = all_names Two; is = refl; plain = (refl, refl); unlisted = refl }

pub version_means : (version : Version) → Means version version_text (selecting 2 [] None (col 1 1 ∷ []) [])
unfolding understood everything schema_of
version_means One = record { names = codes "number" ∷ []; is = refl; plain = (refl, refl); unlisted = refl }
version_means Two = record { names = codes "number" ∷ []; is = refl; plain = (refl, refl); unlisted = refl }
