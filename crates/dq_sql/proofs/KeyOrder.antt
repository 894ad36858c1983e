-- Rows of a kind and an institution that are put in the order of their keys.
use Rattle.std.proofs.Common.{◌≡◌, ℕ, Bool, Bor, List, [], ◌∷◌, filter, refl, ◌∙◌, ap, arith}
use Rattle.std.specs.List.{AllByRecursion}
use Rattle.std.specs.List.Sorted.{IsPermutation, IsSortedByKey, IsSortedByClosure}
use Rattle.std.specs.Ordering.{is_lt, ordering_then}
use Rattle.std.specs.declared.cmp.Ordering.{Ordering}
use Rattle.std.specs.Fn.{Mut, Called}
use Rattle.std.proofs.lemmas.Fn.{always_returns_same}
use Rattle.std.proofs.lemmas.Cmp.{tied_itself, nat_cmp_total, nat_list_cmp_total}
use Rattle.std.proofs.lemmas.List.MinMax.{ranks_by}
use Rattle.std.proofs.lemmas.List.Sorted.{IsPermutation-trans, All-permutation}
use Rattle.std.proofs.lemmas.List.Elements.{recursion_from_All, All-from_recursion}
use Rattle.dq_tables.specs.declared.row.Kind.{Kind}
use Rattle.dq_tables.specs.declared.row.Row.{Row}
use Rattle.dq_tables.specs.Rows.{row_place_of, row_place_order, octet_order, kind_order, number_of_kind, IsRising}
use Rattle.dq_tables.specs.Lookups.{is_of_kind, rows_of}
use Rattle.dq_tables.proofs.Order.{each_passed, each_filtered, IsRising-filter}
use Rattle.dq_tables.proofs.OneOrder.{NeverFalls, in_order}
use Rattle.dq_sql.proofs.FoundRows.{sorted_tail}
use Rattle.dq_sql.proofs.ReadRows.{of_own}

abbrev pub key_of : Row → List ℕ
key_of row = row.key

-- where each call compares the keys of two rows, they are sorted by their keys
pub sorted_by_keys : {F : Type 0} {g : Mut F (Bor Row × (Bor Row × Unit {0})) Ordering} {f : F} (rows : List Row) → IsSortedByClosure g f rows
    → ((a : Bor Row × (Bor Row × Unit {0})) (r : Ordering) (f' : F) → Called g f a r f' → (r ≡ octet_order a.0.now.key a.1.0.now.key) × (f' ≡ f))
    → IsSortedByKey key_of octet_order rows
sorted_by_keys {g = g} {f = f} rows sorted h =
    sorted (λ x y. is_lt (octet_order x.key y.key)) (ranks_by nat_list_cmp_total key_of)
    (always_returns_same g (λ a r. is_lt r ≡ is_lt (octet_order a.0.now.key a.1.0.now.key)) f (λ a r f' k. (ap is_lt (h a r f' k).0, (h a r f' k).1)))

module _ (kind : Kind) (inst : List ℕ) where
  abbrev pub IsIn : Row → Type 0
  IsIn row = (row.kind ≡ kind) × (row.inst ≡ inst)

  by_keys : (a b : Row) → IsIn a → IsIn b → row_place_order (row_place_of a) (row_place_of b) ≡ octet_order a.key b.key
  by_keys a b p q =
      (λ i. ordering_then (ordering_then (kind_order (p.0 i) (q.0 i)) (octet_order (p.1 i) (q.1 i))) (octet_order a.key b.key))
      ∙ (rw (tied_itself nat_cmp_total (number_of_kind kind), tied_itself nat_list_cmp_total inst) refl)

  falls_never : (rows : List Row) → AllByRecursion IsIn rows → IsSortedByKey key_of octet_order rows → NeverFalls rows
  falls_never [] own s = tt
  falls_never (a ∷ []) own s = tt
  falls_never (a ∷ b ∷ rest) own s =
      (ap is_lt (by_keys b a own.1.0 own.0) ∙ s 0 a (omega arith) (omega arith), falls_never (b ∷ rest) own.1 (sorted_tail (λ x y. octet_order x.key y.key) a (b ∷ rest) s))

  -- those that pass a test, in the order of their keys
  pub in_key_order : (test : Row → Bool) (rows found sorted : List Row) → IsRising rows → IsPermutation (filter test (rows_of kind inst rows)) found
      → IsPermutation found sorted → IsSortedByKey key_of octet_order sorted → sorted ≡ filter test (rows_of kind inst rows)
  unfolding rows_of
  in_key_order test rows found sorted rising shown same s =
      let those : List Row = filter (is_of_kind kind inst) rows in
      let whole = IsPermutation-trans _ _ _ shown same in
      let own = each_filtered IsIn test those (each_passed IsIn (is_of_kind kind inst) (of_own kind inst) rows) in
      let all = recursion_from_All IsIn sorted (All-permutation IsIn _ sorted whole (All-from_recursion IsIn _ own)) in
      in_order (filter test those) sorted (IsRising-filter test those (IsRising-filter (is_of_kind kind inst) rows rising)) whole (falls_never sorted all s)
