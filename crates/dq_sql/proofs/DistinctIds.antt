-- Numbers in order are apart where each is below the next.
use Rattle.std.proofs.Common.{◌≡◌, ℕ, suc, ◌+◌, ◌-◌, ◌<◌, ◌≤◌, ℤ, pos, Bool, true, false, List, [], ◌∷◌, map, length, slice_index_or, IsTrue, MatchBool, refl, sym, ◌∙◌, ap, subst, arith}
use Rattle.std.specs.List.{AllByRecursion, IsDistinct, AllAdjacentBelow, IsAllAdjacentAnswer}
use Rattle.std.specs.List.Sorted.{IsPermutation, IsSorted, IsStrictlySortedBy}
use Rattle.std.specs.Ordering.{int_cmp, is_lt, is_eq, is_ge, ordering_reverse}
use Rattle.std.specs.declared.cmp.Ordering.{Ordering}
use Rattle.std.specs.declared.cmp.Ordering.TheVariants.{Less, Equal, Greater}
use Rattle.std.proofs.lemmas.Cmp.{int_cmp_total}
use Rattle.std.proofs.lemmas.List.{get_or_default}
use Rattle.std.proofs.lemmas.List.Sorted.{IsPermutation-sym}
use Rattle.std.proofs.lemmas.Map.Keys.{IsDistinct-IsPermutation, IsDistinct-from_sorted, apart_from_distinct}
use Rattle.sqlite_value.specs.declared.value.Value.{Value}
use Rattle.sqlite_value.specs.declared.value.Value.TheVariants.{Null, Int, Real, Text, Blob}
use Rattle.sqlite_value.specs.Order.{Row as Values, value_cmp}
use Rattle.sqlite_value.proofs.OrderLemmas.{value_cmp-Int}
use Rattle.sqlite_trees.specs.Tree.{rowid}
use Rattle.sqlite_trees.specs.View.{is_int}
use Rattle.sqlite_rules.specs.Edit.{id_in}
use Rattle.dq_tables.proofs.Order.{each_weaker}
use Rattle.dq_sql.specs.Tie.{same_id}
use Rattle.dq_sql.specs.FoundStores.{AreApart, HasWholeRowid, rowid_of}

abbrev same_int : ℤ → ℤ → Bool
same_int a b = is_eq (int_cmp a b)

is_eq_reverse : (o : Ordering) → is_eq o ≡ is_eq (ordering_reverse o)
is_eq_reverse Less = refl
is_eq_reverse Equal = refl
is_eq_reverse Greater = refl

flips : (a b : ℤ) → same_int a b ≡ same_int b a
flips a b = is_eq_reverse (int_cmp a b) ∙ ap is_eq (sym (int_cmp_total.antisymm b a))

abbrev Rise : List ℤ → Type 0
Rise ids = AllAdjacentBelow (λ a b. true ≡ is_lt (int_cmp a b)) ids (length ids)

less_from : (o : Ordering) → true ≡ is_lt o → o ≡ Less
less_from Less h = refl
less_from Equal h = absurd cc
less_from Greater h = absurd cc

rise_tail : (a : ℤ) (ids : List ℤ) → Rise (a ∷ ids) → Rise ids
rise_tail a ids h k d within =
    let next : suc k + 1 ≡ suc (k + 1) = omega arith in
    subst (λ n. true ≡ is_lt (int_cmp (slice_index_or ids k d) (slice_index_or (a ∷ ids) n d))) next (h (suc k) d (omega arith))

above : (a b : ℤ) → int_cmp a b ≡ Less → (rest : List ℤ) → AllByRecursion (λ c. int_cmp b c ≡ Less) rest → AllByRecursion (λ c. int_cmp a c ≡ Less) rest
above a b less rest = each_weaker _ _ (λ c next. int_cmp_total.trans a b c less next) rest

strict : (ids : List ℤ) → Rise ids → IsStrictlySortedBy int_cmp ids
unfolding IsStrictlySortedBy
strict [] h = tt
strict (a ∷ []) h = (tt, tt)
strict (a ∷ b ∷ rest) h =
    let less = less_from (int_cmp a b) (h 0 a (omega arith)) in
    let on = strict (b ∷ rest) (rise_tail a (b ∷ rest) h) in
    ((less, above a b less rest on.0), on)

-- numbers that rise are apart
rise_apart : (ids : List ℤ) → Rise ids → IsDistinct same_int ids
rise_apart ids h = IsDistinct-from_sorted int_cmp ids (strict ids h)

not_less : (a b : ℤ) (o : Ordering) → int_cmp a b ≡ o → false ≡ is_lt (int_cmp a b) → is_lt (int_cmp b a) ≡ false → same_int a b ≡ true
not_less a b Less e h k = absurd (let f = ap is_lt e in cc)
not_less a b Equal e h k = ap is_eq e
not_less a b Greater e h k = absurd (let f = ap is_lt (int_cmp_total.antisymm b a ∙ ap ordering_reverse e) in cc)

-- where one in order is not below the next, they are alike
fall_alike : (ids : List ℤ) → IsSorted int_cmp ids → (k : ℕ) → k + 1 < length ids
    → ((d : ℤ) → false ≡ is_lt (int_cmp (slice_index_or ids k d) (slice_index_or ids (k + 1) d))) → ¬ IsDistinct same_int ids
fall_alike ids sorted k within falls apart =
    let d : ℤ = pos 0 in
    let a = slice_index_or ids k d in
    let b = slice_index_or ids (k + 1) d in
    let same = not_less a b (int_cmp a b) refl (falls d) (sorted k d (omega arith) within) in
    let differ = apart_from_distinct same_int ids k (k + 1) d apart (omega arith) within in
    let wrong : true ≡ false = sym same ∙ differ in cc

-- two numbers side by side, read with any default
pub beside : (ids : List ℤ) (at : ℕ) (d e : ℤ) → 1 ≤ at → at < length ids
    → int_cmp (slice_index_or ids (at - 1) d) (slice_index_or ids at d) ≡ int_cmp (slice_index_or ids (at - 1) e) (slice_index_or ids at e)
beside ids at d e low high = λ i. int_cmp (get_or_default ids (at - 1) d e (omega arith) i) (get_or_default ids at d e high i)

pub no_rise : (o : Ordering) → is_ge o ≡ true → false ≡ is_lt o
no_rise Less h = absurd cc
no_rise Equal h = refl
no_rise Greater h = refl

pub a_rise : (o : Ordering) → is_ge o ≡ false → true ≡ is_lt o
a_rise Less h = refl
a_rise Equal h = absurd cc
a_rise Greater h = absurd cc

-- ---- rowids

id_alike : (v w : Value) → IsTrue (is_int v) → IsTrue (is_int w) → is_eq (value_cmp v w) ≡ same_int (id_in v) (id_in w)
id_alike (Int m) (Int n) a b = ap is_eq (value_cmp-Int m n)
id_alike Null w a b = absurd (let e = a in cc)
id_alike (Real x) w a b = absurd (let e = a in cc)
id_alike (Text t) w a b = absurd (let e = a in cc)
id_alike (Blob t) w a b = absurd (let e = a in cc)
id_alike (Int m) Null a b = absurd (let e = b in cc)
id_alike (Int m) (Real x) a b = absurd (let e = b in cc)
id_alike (Int m) (Text t) a b = absurd (let e = b in cc)
id_alike (Int m) (Blob t) a b = absurd (let e = b in cc)

each_alike : (r : Values) → HasWholeRowid r → (rest : List Values) → AllByRecursion HasWholeRowid rest
    → AllByRecursion (λ n. same_int (rowid_of r) n ≡ false) (map rowid_of rest) → AllByRecursion (λ s. same_id r s ≡ false) rest
each_alike r a [] all h = tt
each_alike r a (s ∷ rest) all h = (id_alike (rowid r) (rowid s) a all.0 ∙ h.0, each_alike r a rest all.1 h.1)

each_back : (r : Values) → HasWholeRowid r → (rest : List Values) → AllByRecursion HasWholeRowid rest
    → AllByRecursion (λ s. same_id r s ≡ false) rest → AllByRecursion (λ n. same_int (rowid_of r) n ≡ false) (map rowid_of rest)
each_back r a [] all h = tt
each_back r a (s ∷ rest) all h = (sym (id_alike (rowid r) (rowid s) a all.0) ∙ h.0, each_back r a rest all.1 h.1)

ids_to_rows : (found : List Values) → AllByRecursion HasWholeRowid found → IsDistinct same_int (map rowid_of found) → IsDistinct same_id found
unfolding IsDistinct
ids_to_rows [] all h = tt
ids_to_rows (r ∷ rest) all h = (each_alike r all.0 rest all.1 h.0, ids_to_rows rest all.1 h.1)

rows_to_ids : (found : List Values) → AllByRecursion HasWholeRowid found → IsDistinct same_id found → IsDistinct same_int (map rowid_of found)
unfolding IsDistinct
rows_to_ids [] all h = tt
rows_to_ids (r ∷ rest) all h = (each_back r all.0 rest all.1 h.0, rows_to_ids rest all.1 h.1)

-- what the test of the sorted rowids says of the rows
pub apart_answer : (found : List Values) (ids : List ℤ) (b : Bool) → AllByRecursion HasWholeRowid found → IsPermutation (map rowid_of found) ids → IsSorted int_cmp ids
    → IsAllAdjacentAnswer (λ x y rises. rises ≡ is_lt (int_cmp x y)) ids b → MatchBool b (AreApart found) (¬ AreApart found)
apart_answer found ids true all same sorted h = record {
  whole = all;
  apart = ids_to_rows found all (IsDistinct-IsPermutation same_int flips ids (map rowid_of found) (IsPermutation-sym _ _ same) (rise_apart ids h));
}
apart_answer found ids false all same sorted h = λ are.
    fall_alike ids sorted h.0 h.1 h.2 (IsDistinct-IsPermutation same_int flips (map rowid_of found) ids same (rows_to_ids found are.whole are.apart))
