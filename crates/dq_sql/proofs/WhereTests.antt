-- Which rows of the table the statements find.
use Rattle.std.proofs.Common.{◌≡◌, ℕ, pos, Bool, true, false, ◌&&◌, List, [], ◌∷◌, refl, sym, ◌∙◌, ap, arith}
use Rattle.std.specs.List.{list_all}
use Rattle.std.specs.Ordering.{is_eq, is_gt, nat_cmp, int_cmp, ordering_then}
use Rattle.std.proofs.lemmas.Bool.Decides.{nat_tests}
use Rattle.sqlite_value.specs.declared.value.Value.{Value}
use Rattle.sqlite_value.specs.declared.value.Value.TheVariants.{Int, Text, Blob}
use Rattle.sqlite_value.specs.declared.keys.Collation.TheVariants.{Binary}
use Rattle.sqlite_value.specs.Order.{Row as Values, column}
use Rattle.sqlite_value.proofs.OrderLemmas.{value_cmp-Int, value_cmp-Text, value_cmp-Blob}
use Rattle.sqlite_sql.specs.declared.ops.BinaryOp.TheVariants.{Compare}
use Rattle.sqlite_sql.specs.declared.ops.CompareOp.TheVariants.{Eq, Gt}
use Rattle.sqlite_sql.specs.Ops.{binary, is_true, from_truth}
use Rattle.sqlite_sql.specs.Term.{holds}
use Rattle.std.proofs.Common.{Some}
use Rattle.dq_tables.specs.declared.row.Kind.{Kind}
use Rattle.dq_tables.specs.declared.row.Row.{Row}
use Rattle.dq_tables.specs.Rows.{place, number_of_kind, octet_order, kind_order}
use Rattle.dq_tables.proofs.Order.{is_at}
use Rattle.dq_tables.proofs.InOrder.{is_eq_then}
use Rattle.dq_sql.specs.Tie.{row_of_cells, IsKeptRow}
use Rattle.dq_sql.proofs.Statements.{at_place}

-- whether two values are equal, as WHERE tests it
abbrev pub equals : Value → Value → Bool
equals a b = is_true (binary (Compare Eq Binary) a b)

from_test : (b : Bool) → is_true (from_truth (Some b)) ≡ b
from_test true = refl
from_test false = refl

same_order : (m n : ℕ) → is_eq (int_cmp (pos m) (pos n)) ≡ is_eq (nat_cmp m n)
same_order m n = grind (arith, nat_tests)

pub equals-Int : (m n : ℕ) → equals (Int (pos m)) (Int (pos n)) ≡ is_eq (nat_cmp m n)
unfolding binary
equals-Int m n = from_test _ ∙ ap is_eq (value_cmp-Int (pos m) (pos n)) ∙ same_order m n

pub equals-Text : (s t : List ℕ) → equals (Text s) (Text t) ≡ is_eq (octet_order s t)
unfolding binary
equals-Text s t = from_test _ ∙ ap is_eq (value_cmp-Text s t)

pub equals-Blob : (s t : List ℕ) → equals (Blob s) (Blob t) ≡ is_eq (octet_order s t)
unfolding binary
equals-Blob s t = from_test _ ∙ ap is_eq (value_cmp-Blob s t)

-- whether a value is behind another, as WHERE tests it
abbrev pub is_behind : Value → Value → Bool
is_behind a b = is_true (binary (Compare Gt Binary) a b)

pub is_behind-Blob : (s t : List ℕ) → is_behind (Blob s) (Blob t) ≡ is_gt (octet_order s t)
unfolding binary
is_behind-Blob s t = from_test _ ∙ ap is_gt (value_cmp-Blob s t)

grouped : (a b c : Bool) → (a && (b && (c && true))) ≡ ((a && b) && c)
grouped true true true = refl
grouped true true false = refl
grouped true false c = refl
grouped false b c = refl

tests_are : (kind : Kind) (inst key : List ℕ) (row : Row) (a b c : Value) → a ≡ Int (pos (number_of_kind row.kind)) → b ≡ Text row.inst → c ≡ Blob row.key
    → (equals a (Int (pos (number_of_kind kind))) && (equals b (Text inst) && (equals c (Blob key) && true))) ≡ is_at (place kind inst key) row
tests_are kind inst key row a b c p q r =
    rw (p, q, r, equals-Int (number_of_kind row.kind) (number_of_kind kind), equals-Text row.inst inst, equals-Blob row.key key)
    (grouped (is_eq (kind_order row.kind kind)) (is_eq (octet_order row.inst inst)) (is_eq (octet_order row.key key)) ∙ ap (λ b. b && is_eq (octet_order row.key key)) (sym (is_eq_then (kind_order row.kind kind) (octet_order row.inst inst)))
    ∙ sym (is_eq_then (ordering_then (kind_order row.kind kind) (octet_order row.inst inst)) (octet_order row.key key)))

-- WHERE finds the rows at the place
pub finds_place : (kind : Kind) (inst key : List ℕ) (more : Values) (r : Values) → IsKeptRow r
    → list_all (holds ((Int (pos (number_of_kind kind)) ∷ Text inst ∷ Blob key ∷ more) ∷ r ∷ [])) at_place ≡ is_at (place kind inst key) (row_of_cells r)
finds_place kind inst key more r h =
    tests_are kind inst key (row_of_cells r) (column r 1) (column r 2) (column r 3) h.kind h.inst h.key
