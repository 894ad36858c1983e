-- What the texts mean that read the studies which a choice takes.
use Rattle.std.proofs.Common.{ℕ, List, [], ◌∷◌, ◌++◌, None, codes, refl}
use Rattle.sqlite_value.specs.declared.keys.Collation.TheVariants.{Binary}
use Rattle.sqlite_value.specs.Keys.{ascending}
use Rattle.sqlite_sql.specs.declared.ops.BinaryOp.TheVariants.{Compare}
use Rattle.sqlite_sql.specs.declared.ops.CompareOp.TheVariants.{Eq, Le}
use Rattle.sqlite_sql.specs.Term.{Term, col, op2}
use Rattle.sqlite_sql.specs.Query.{Query}
use Rattle.sqlite.specs.Listing.{understood}
use Rattle.sqlite_tied.specs.Compute.{everything}
use Rattle.dq_sql.specs.declared.version.Version.TheVariants.{Two}
use Rattle.dq_sql.specs.Schema.{schema_of}
use Rattle.dq_sql.specs.RowReads.{ShowsNoWrite}
use Rattle.dq_sql.proofs.Queries.{Means, selecting, column_is, of_tests, shown_columns, names}
use Rattle.dq_sql.proofs.Silent.{IsBare, bare_shows}

abbrev pub patient_tests : List Term
patient_tests = column_is 1 0 ∷ column_is 2 1 ∷ op2 (Compare Eq Binary) (col 0 2) (col 1 5) ∷ []

abbrev pub days_tests : List Term
days_tests = column_is 1 0 ∷ column_is 2 1 ∷ op2 (Compare Le Binary) (col 0 2) (col 1 6) ∷ op2 (Compare Le Binary) (col 1 6) (col 0 3) ∷ []

-- the rows that pass tests, in any order: as many as a parameter says
abbrev pub some_of : List Term → ℕ → Query
some_of tests limit = record (selecting 0 tests None shown_columns []) { limit = col 0 limit }

-- the first rows by a column, as many as the third parameter says, with that column after the others
abbrev pub first_by : ℕ → Query
first_by at = record (selecting 0 of_tests None (shown_columns ++ col 1 at ∷ []) ((col 1 at, ascending Binary) ∷ [])) { limit = col 0 2 }

abbrev pub patient_text : List ℕ
patient_text = codes "SELECT id, above, octets, started FROM kept WHERE kind = ?1 AND inst = ?2 AND ?3 = patient LIMIT ?4"

abbrev pub days_text : List ℕ
days_text = codes "SELECT id, above, octets, started FROM kept WHERE kind = ?1 AND inst = ?2 AND ?3 <= day AND day <= ?4 LIMIT ?5"

abbrev pub no_patient_text : List ℕ
no_patient_text = codes "SELECT id, above, octets, started, patient FROM kept WHERE kind = ?1 AND inst = ?2 ORDER BY patient LIMIT ?3"

abbrev pub no_day_text : List ℕ
no_day_text = codes "SELECT id, above, octets, started, day FROM kept WHERE kind = ?1 AND inst = ?2 ORDER BY day LIMIT ?3"

pub patient_means : Means Two patient_text (some_of patient_tests 3)
unfolding understood everything schema_of
patient_means = record { names = names; is = refl; plain = (refl, refl); unlisted = refl }

patient_bare : IsBare patient_text
unfolding everything
patient_bare schema base = refl

pub patient_silent : ShowsNoWrite patient_text
patient_silent = bare_shows patient_text patient_bare

pub days_means : Means Two days_text (some_of days_tests 4)
unfolding understood everything schema_of
days_means = record { names = names; is = refl; plain = (refl, refl); unlisted = refl }

days_bare : IsBare days_text
unfolding everything
days_bare schema base = refl

pub days_silent : ShowsNoWrite days_text
days_silent = bare_shows days_text days_bare

pub no_patient_means : Means Two no_patient_text (first_by 5)
unfolding understood everything schema_of
no_patient_means = record { names = names ++ codes "patient" ∷ []; is = refl; plain = (refl, refl); unlisted = refl }

no_patient_bare : IsBare no_patient_text
unfolding everything
no_patient_bare schema base = refl

pub no_patient_silent : ShowsNoWrite no_patient_text
no_patient_silent = bare_shows no_patient_text no_patient_bare

pub no_day_means : Means Two no_day_text (first_by 6)
unfolding understood everything schema_of
no_day_means = record { names = names ++ codes "day" ∷ []; is = refl; plain = (refl, refl); unlisted = refl }

no_day_bare : IsBare no_day_text
unfolding everything
no_day_bare schema base = refl

pub no_day_silent : ShowsNoWrite no_day_text
no_day_silent = bare_shows no_day_text no_day_bare
