-- What the texts that make a store mean.
use Rattle.std.proofs.Common.{◌≡◌, ℕ, List, [], ◌∷◌, codes, Ok, refl, pos, arith}
use Rattle.std.proofs.lemmas.Fmt.{decimal_digit}
use Rattle.sqlite.specs.declared.types.Value.TheVariants.{Int, Null}
use Rattle.sqlite.specs.Term.{Term, lit}
use Rattle.sqlite.specs.Source.TheVariants.{Values}
use Rattle.sqlite.specs.Command.TheVariants.{Insert, CreateTable, CreateIndex}
use Rattle.sqlite.specs.Compile.{table_defined_by, index_defined_by}
use Rattle.sqlite_tied.specs.Compute.{everything}
use Rattle.sqlite.specs.Listing.{understood}
use Rattle.sqlite.specs.Change.{created}
use Rattle.sqlite_schema.specs.declared.schema.Index.{Index}
use Rattle.sqlite.proofs.Callers.{IsPlain, command_of, statement_of}
use Rattle.dq_sql.specs.declared.version.Version.TheVariants.{Two}
use Rattle.dq_sql.specs.Schema.{schema_of, kept_table, version_table, above_index, patient_index, day_index, started_index, kept_schema}
use Rattle.dq_sql.specs.SchemaCreation.{no_schema, with_kept, with_indexes}

abbrev pub kept_text : List ℕ
kept_text = codes "CREATE TABLE kept (kind INTEGER NOT NULL CHECK (kind BETWEEN 1 AND 5), inst TEXT NOT NULL, id BLOB NOT NULL, above BLOB NOT NULL, patient BLOB, day INTEGER, octets BLOB NOT NULL, started INTEGER NOT NULL, PRIMARY KEY (kind, inst, id)) STRICT"

abbrev pub version_text : List ℕ
version_text = codes "CREATE TABLE version (number INTEGER NOT NULL) STRICT"

abbrev pub above_text : List ℕ
above_text = codes "CREATE INDEX kept_above ON kept (kind, inst, above, id)"

abbrev pub patient_text : List ℕ
patient_text = codes "CREATE INDEX kept_patient ON kept (kind, inst, patient, id)"

abbrev pub day_text : List ℕ
day_text = codes "CREATE INDEX kept_day ON kept (kind, inst, day, id)"

abbrev pub started_text : List ℕ
started_text = codes "CREATE INDEX kept_started ON kept (kind, inst, started, id)"

abbrev pub number_text : List ℕ
number_text = codes "INSERT INTO version (number) VALUES (2)"

pub kept_is : (command_of (understood no_schema kept_text) ≡ CreateTable)
    × (statement_of kept_text (understood no_schema kept_text) ≡ kept_text)
    × (table_defined_by kept_text ≡ Ok (kept_table Two))
unfolding understood everything
kept_is = (refl, refl, refl)

pub version_is : (command_of (understood with_kept version_text) ≡ CreateTable)
    × (statement_of version_text (understood with_kept version_text) ≡ version_text)
    × (table_defined_by version_text ≡ Ok (record version_table { tree = 0 }))
unfolding understood everything
version_is = (refl, refl, refl)

-- the text makes the index of the table `kept`, where some are made
pub record MakesIt (indexes : List Index) (text : List ℕ) (index : Index) : Type 0 where
  pub command : command_of (understood (with_indexes indexes) text) ≡ CreateIndex 0
  pub whole : statement_of text (understood (with_indexes indexes) text) ≡ text
  pub defines : index_defined_by (kept_table Two) text ≡ Ok (record index { tree = 0 })
  pub plain : IsPlain (understood (with_indexes indexes) text)

pub above_is : MakesIt [] above_text above_index
unfolding understood everything
above_is = record { command = refl; whole = refl; defines = refl; plain = (refl, refl) }

pub patient_is : MakesIt (above_index ∷ []) patient_text patient_index
unfolding understood everything
patient_is = record { command = refl; whole = refl; defines = refl; plain = (refl, refl) }

pub day_is : MakesIt (above_index ∷ patient_index ∷ []) day_text day_index
unfolding understood everything
day_is = record { command = refl; whole = refl; defines = refl; plain = (refl, refl) }

pub started_is : MakesIt (above_index ∷ patient_index ∷ day_index ∷ []) started_text started_index
unfolding understood everything
started_is = record { command = refl; whole = refl; defines = refl; plain = (refl, refl) }

pub both_made : created with_kept version_table ≡ with_indexes []
both_made = rw (decimal_digit 1 (omega arith))

pub all_made : with_indexes (above_index ∷ patient_index ∷ day_index ∷ started_index ∷ []) ≡ kept_schema
unfolding schema_of
all_made = refl

abbrev pub number_terms : List Term
number_terms = lit Null ∷ lit (Int (pos 2)) ∷ []

pub number_is : command_of (understood kept_schema number_text) ≡ Insert 1 (Values number_terms 2)
unfolding understood everything schema_of
number_is = refl

pub kept_plain : IsPlain (understood no_schema kept_text)
unfolding understood everything
kept_plain = (refl, refl)

pub version_plain : IsPlain (understood with_kept version_text)
unfolding understood everything
version_plain = (refl, refl)

pub number_plain : IsPlain (understood kept_schema number_text)
unfolding understood everything schema_of
number_plain = (refl, refl)
