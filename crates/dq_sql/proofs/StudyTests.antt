-- Which studies the tests find by which those of a patient, and of some days, are read.
use Rattle.std.proofs.Common.{◌≡◌, ℕ, ℤ, ◌≤ℤ◌, int_cmp, int_le, is_le, pos, Option, Bool, true, false, not, ◌&&◌, List, ◌∷◌, None, Some, is_some, unwrap_or, refl, sym, ◌∙◌, ap, arith}
use Rattle.std.specs.Str.{bytes_eq}
use Rattle.std.proofs.lemmas.Map.Text.{is_eq-slice_cmp}
use Rattle.std.proofs.lemmas.Int.{ints}
use Rattle.sqlite_value.specs.declared.value.Value.{Value}
use Rattle.sqlite_value.specs.declared.value.Value.TheVariants.{Int, Blob}
use Rattle.sqlite_value.specs.Order.{Row as Values, column, value_cmp}
use Rattle.sqlite_value.specs.declared.keys.Collation.TheVariants.{Binary}
use Rattle.sqlite_value.proofs.OrderLemmas.{value_cmp-Int}
use Rattle.sqlite_sql.specs.declared.ops.BinaryOp.TheVariants.{Compare}
use Rattle.sqlite_sql.specs.declared.ops.CompareOp.TheVariants.{Le}
use Rattle.sqlite_sql.specs.Ops.{binary, is_true, from_truth, is_null}
use Rattle.sqlite.specs.Values.{or_null, bound_value}
use Rattle.dq_tables.specs.declared.row.Kind.TheVariants.{Study}
use Rattle.dq_tables.specs.declared.row.Row.{Row}
use Rattle.dq_tables.specs.Labels.{patient_of, day_of}
use Rattle.dq_tables.specs.StudyChoices.{is_open_or}
use Rattle.dq_tables.specs.Lookups.{same_kind, is_of_kind}
use Rattle.dq_sql.specs.declared.study_index.Label.TheVariants.{Patient, Day}
use Rattle.dq_sql.specs.Cells as cells
use Rattle.dq_sql.specs.Tie.{row_of_cells, IsKeptRow}
use Rattle.dq_sql.specs.StudyIndex.{says, is_of_patient, is_of_days, last_day_or_blob}
use Rattle.dq_sql.proofs.WhereTests.{equals, equals-Blob}
use Rattle.dq_sql.proofs.SelectAnswers.{passes}
use Rattle.dq_sql.proofs.ChoiceTexts.{patient_tests, days_tests}
use Rattle.dq_sql.proofs.ReadRows.{of_params, kind_test, text_test, three}

-- a comparison that fails where a side of it is null
abbrev at_most : Value → Value → Bool
at_most a b = is_true (binary (Compare Le Binary) a b)

is_le_int : (a b : ℤ) → is_le (int_cmp a b) ≡ int_le a b
is_le_int a b = grind (arith, ints)

from_test : (b : Bool) → is_true (from_truth (Some b)) ≡ b
from_test true = refl
from_test false = refl

and_true : (b : Bool) → b ≡ (b && true)
and_true true = refl
and_true false = refl

pub and_false : (b : Bool) → false ≡ (b && false)
and_false true = refl
and_false false = refl

-- a patient that is said and is the one that is asked for
patient_said : (asked : List ℕ) (said : Option (List ℕ)) → equals (Blob asked) (or_null Blob said) ≡ (is_open_or bytes_eq (Some asked) said && is_some said)
unfolding binary
patient_said asked None = refl
patient_said asked (Some s) = equals-Blob asked s ∙ is_eq-slice_cmp asked s ∙ and_true (bytes_eq asked s)

abbrev pub is_from : Option ℕ → Option ℤ → Bool
is_from = is_open_or (λ first day. int_le (pos first) day)

abbrev pub is_until : Option ℕ → Option ℤ → Bool
is_until = is_open_or (λ last day. int_le day (pos last))

-- what a law of tables says of days
abbrev pub AreNatural : Type 0
AreNatural = (row : Row) (z : ℤ) → day_of row ≡ Some z → pos 0 ≤ℤ z

from_zero : (z : ℤ) → pos 0 ≤ℤ z → int_le (pos 0) z ≡ true
from_zero z h = grind (arith, ints)

from_said : (first : Option ℕ) (z : ℤ) → pos 0 ≤ℤ z → at_most (Int (pos (unwrap_or first 0))) (Int z) ≡ is_from first (Some z)
unfolding binary
from_said (Some n) z natural = from_test _ ∙ ap is_le (value_cmp-Int (pos n) z) ∙ is_le_int (pos n) z
from_said None z natural = from_test _ ∙ ap is_le (value_cmp-Int (pos 0) z) ∙ is_le_int (pos 0) z ∙ from_zero z natural

until_said : (last : Option ℕ) (z : ℤ) → at_most (Int z) (last_day_or_blob last) ≡ is_until last (Some z)
unfolding binary value_cmp
until_said (Some n) z = from_test _ ∙ ap is_le (value_cmp-Int z (pos n)) ∙ is_le_int z (pos n)
until_said None z = refl

days_said : (first last : Option ℕ) (said : Option ℤ) → ((z : ℤ) → said ≡ Some z → pos 0 ≤ℤ z)
    → (at_most (Int (pos (unwrap_or first 0))) (or_null Int said) && at_most (or_null Int said) (last_day_or_blob last)) ≡ ((is_from first said && is_until last said) && is_some said)
unfolding binary
days_said first last None natural = and_false (is_from first None && is_until last None)
days_said first last (Some z) natural =
    ap (λ b. b && at_most (Int z) (last_day_or_blob last)) (from_said first z (natural z refl)) ∙ ap (λ b. is_from first (Some z) && b) (until_said last z) ∙ and_true _

-- values are bound as they are
pub bound_last : (o : Option ℕ) → bound_value (last_day_or_blob o) ≡ last_day_or_blob o
bound_last None = refl
bound_last (Some n) = refl

four : (k i a b c : Bool) → (a && b) ≡ c → (k && (i && (a && (b && true)))) ≡ ((k && i) && c)
four true true true b c e = sym (and_true b) ∙ e
four true true false b c e = e
four true false a b c e = refl
four false i a b c e = refl

null_patient : (v : Value) (said : Option (List ℕ)) → v ≡ or_null Blob said → is_null v ≡ not (is_some said)
null_patient v None e = ap is_null e
null_patient v (Some s) e = ap is_null e

null_day : (v : Value) (said : Option ℤ) → v ≡ or_null Int said → is_null v ≡ not (is_some said)
null_day v None e = ap is_null e
null_day v (Some z) e = ap is_null e

module _ (inst : List ℕ) (r : Values) (h : IsKeptRow r) where
  abbrev row : Row
  row = row_of_cells r

  patient_is : column r 5 ≡ or_null Blob (patient_of row)
  unfolding cells.patient_cell
  patient_is = h.patient

  day_is : column r 6 ≡ or_null Int (day_of row)
  unfolding cells.day_cell
  day_is = h.day

  -- a study does not say what its column has as null
  pub unsaid_patient : is_null (column r 5) ≡ not (says Patient row)
  unsaid_patient = null_patient (column r 5) (patient_of row) patient_is

  pub unsaid_day : is_null (column r 6) ≡ not (says Day row)
  unsaid_day = null_day (column r 6) (day_of row) day_is

  pub patient_finds : (patient : List ℕ) (more : Values) → passes patient_tests (of_params Study inst (Blob patient ∷ more)) r
      ≡ (is_of_kind Study inst row && (is_of_patient patient row && says Patient row))
  patient_finds patient more =
      rw (kind_test (column r 1) row.kind Study h.kind, text_test (column r 2) row.inst inst h.inst, patient_is, patient_said patient (patient_of row))
      (three (same_kind row.kind Study) (bytes_eq row.inst inst) (is_of_patient patient row && says Patient row))

  pub days_find : AreNatural → (first last : Option ℕ) (more : Values) → passes days_tests (of_params Study inst (Int (pos (unwrap_or first 0)) ∷ last_day_or_blob last ∷ more)) r
      ≡ (is_of_kind Study inst row && (is_of_days first last row && says Day row))
  days_find natural first last more =
      rw (kind_test (column r 1) row.kind Study h.kind, text_test (column r 2) row.inst inst h.inst, day_is)
      (four (same_kind row.kind Study) (bytes_eq row.inst inst) (at_most (Int (pos (unwrap_or first 0))) (or_null Int (day_of row)))
      (at_most (or_null Int (day_of row)) (last_day_or_blob last)) (is_of_days first last row && says Day row) (days_said first last (day_of row) (natural row)))
