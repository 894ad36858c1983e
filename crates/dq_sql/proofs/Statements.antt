-- What the statements that write mean.
use Rattle.std.proofs.Common.{◌≡◌, ℕ, pos, negsuc, List, [], ◌∷◌, codes, false, None, refl}
use Rattle.sqlite_value.specs.declared.value.Value.TheVariants.{Null, Int}
use Rattle.sqlite_sql.specs.declared.ops.BinaryOp.TheVariants.{Compare}
use Rattle.sqlite_sql.specs.declared.ops.CompareOp.TheVariants.{Eq}
use Rattle.sqlite_value.specs.declared.keys.Collation.TheVariants.{Binary}
use Rattle.sqlite_sql.specs.Term.{Term, lit, col, op2}
use Rattle.sqlite_sql.specs.Query.{Query, inner, end}
use Rattle.sqlite_schema.specs.declared.command.Source.TheVariants.{Values}
use Rattle.sqlite_schema.specs.declared.command.Command.TheVariants.{Insert, Update, Delete}
use Rattle.sqlite_tied.specs.Compute.{everything}
use Rattle.sqlite.specs.Listing.{understood}
use Rattle.sqlite.proofs.Callers.{IsPlain, command_of}
use Rattle.dq_sql.specs.Schema.{schema_of, kept_schema}

abbrev pub insert_text : List ℕ
insert_text = codes "INSERT INTO kept (kind, inst, id, above, patient, day, octets, started) VALUES (?1, ?2, ?3, ?4, ?5, ?6, ?7, ?8)"

abbrev pub update_text : List ℕ
update_text = codes "UPDATE kept SET above = ?4, patient = ?5, day = ?6, octets = ?7, started = ?8 WHERE kind = ?1 AND inst = ?2 AND id = ?3"

abbrev pub start_text : List ℕ
start_text = codes "UPDATE kept SET started = 1 WHERE kind = ?1 AND inst = ?2 AND id = ?3"

abbrev pub delete_text : List ℕ
delete_text = codes "DELETE FROM kept WHERE kind = ?1 AND inst = ?2 AND id = ?3"

abbrev pub terms : List Term
terms = lit Null ∷ col 0 0 ∷ col 0 1 ∷ col 0 2 ∷ col 0 3 ∷ col 0 4 ∷ col 0 5 ∷ col 0 6 ∷ col 0 7 ∷ []

pub insert_is : command_of (understood kept_schema insert_text) ≡ Insert 0 (Values terms 9)
unfolding understood everything schema_of
insert_is = refl

pub insert_plain : IsPlain (understood kept_schema insert_text)
unfolding understood everything schema_of
insert_plain = (refl, refl)

-- the row at a place, by its kind, institution and key
abbrev pub at_place : List Term
at_place = op2 (Compare Eq Binary) (col 1 1) (col 0 0) ∷ op2 (Compare Eq Binary) (col 1 2) (col 0 1)
    ∷ op2 (Compare Eq Binary) (col 1 3) (col 0 2) ∷ []

abbrev pub selecting : List Term → Query
selecting project = record {
  from = inner 0 end;
  filter = at_place;
  group = None;
  project = project;
  distinct = false;
  collations = [];
  order = [];
  limit = lit (Int (negsuc 0));
  offset = lit (Int (pos 0));
}

abbrev pub changed : List Term
changed = col 1 0 ∷ col 1 0 ∷ col 1 1 ∷ col 1 2 ∷ col 1 3 ∷ col 0 3 ∷ col 0 4 ∷ col 0 5 ∷ col 0 6 ∷ col 0 7 ∷ []

-- the same columns, but for the last
abbrev pub begun : List Term
begun =
    col 1 0 ∷ col 1 0 ∷ col 1 1 ∷ col 1 2 ∷ col 1 3 ∷ col 1 4 ∷ col 1 5 ∷ col 1 6 ∷ col 1 7 ∷ lit (Int (pos 1)) ∷ []

pub update_is : command_of (understood kept_schema update_text) ≡ Update 0 (record { lets = []; body = selecting changed })
unfolding understood everything schema_of
update_is = refl

pub start_is : command_of (understood kept_schema start_text) ≡ Update 0 (record { lets = []; body = selecting begun })
unfolding understood everything schema_of
start_is = refl

pub delete_is : command_of (understood kept_schema delete_text) ≡ Delete 0 (record { lets = []; body = selecting (col 1 0 ∷ []) })
unfolding understood everything schema_of
delete_is = refl

pub update_plain : IsPlain (understood kept_schema update_text)
unfolding understood everything schema_of
update_plain = (refl, refl)

pub start_plain : IsPlain (understood kept_schema start_text)
unfolding understood everything schema_of
start_plain = (refl, refl)

pub delete_plain : IsPlain (understood kept_schema delete_text)
unfolding understood everything schema_of
delete_plain = (refl, refl)
