-- Which rows a query on the table of rows finds.
use Rattle.std.proofs.Common.{◌≡◌, ℕ, suc, ◌+◌, Bool, true, false, List, [], ◌∷◌, None, map, filter, slice_index_or, if◌then◌else◌, refl, sym, ◌∙◌, ap, ap₂, subst, arith}
use Rattle.std.specs.List.{AllByRecursion}
use Rattle.std.specs.List.Sorted.{IsPermutation, IsSorted}
use Rattle.std.specs.Ordering.{is_lt, ordering_then}
use Rattle.std.specs.declared.cmp.Ordering.{Ordering}
use Rattle.std.specs.declared.cmp.Ordering.TheVariants.{Less, Equal, Greater}
use Rattle.std.proofs.lemmas.Cmp.{tied_itself, nat_cmp_total, nat_list_cmp_total}
use Rattle.std.proofs.lemmas.List.Sorted.{IsPermutation-map, IsPermutation-sym, IsPermutation-trans, All-permutation}
use Rattle.std.proofs.lemmas.List.Elements.{recursion_from_All, All-from_recursion}
use Rattle.sqlite_value.specs.declared.value.Value.TheVariants.{Blob}
use Rattle.sqlite_value.specs.Order.{Row as Values, column, bytes, value_cmp}
use Rattle.sqlite_value.proofs.OrderLemmas.{value_cmp-Blob}
use Rattle.sqlite_value.specs.declared.keys.Key.{Key}
use Rattle.sqlite_trees.proofs.ListLemmas.{IsPermutation-filter}
use Rattle.sqlite_sql.specs.Term.{Term, eval_all}
use Rattle.sqlite_sql.specs.Query.{Output, output, output_cmp}
use Rattle.sqlite.specs.Effect.{Database}
use Rattle.dq_tables.specs.declared.row.Kind.{Kind}
use Rattle.dq_tables.specs.declared.row.Row.{Row}
use Rattle.dq_tables.specs.Rows.{row_place_of, row_place_order, octet_order, number_of_kind}
use Rattle.dq_tables.proofs.Order.{each_filtered, IsRising-filter}
use Rattle.dq_sql.specs.Tie.{is_set, row_of_cells, IsKeptRow, HasRows}
use Rattle.dq_sql.specs.RowReads.{row_shown}
use Rattle.dq_tables.proofs.OneOrder.{NeverFalls, in_order}
use Rattle.dq_sql.proofs.Queries.{selecting, shown_columns, by_id}
use Rattle.dq_sql.proofs.SelectAnswers.{with_row, passes, chosen, IsSelection, selection_rows, map_map}

-- what is shown has the key that it is sorted by
abbrev IsKeyed : Output → Type 0
IsKeyed o = o.0 ≡ Blob (bytes (column o.1 0)) ∷ []

pub at_most_last : (o : Ordering) → is_lt (ordering_then o Equal) ≡ is_lt o
at_most_last Less = refl
at_most_last Equal = refl
at_most_last Greater = refl

-- rows of one kind and institution stand by their keys
by_keys : (kind : Kind) (inst : List ℕ) (a b : Values)
    → row_place_order (row_place_of (row_shown kind inst a)) (row_place_of (row_shown kind inst b)) ≡ octet_order (bytes (column a 0)) (bytes (column b 0))
by_keys kind inst a b = rw (tied_itself nat_cmp_total (number_of_kind kind), tied_itself nat_list_cmp_total inst) refl

pub sorted_tail : {X : Type 0} (cmp : X → X → Ordering) (x : X) (xs : List X) → IsSorted cmp (x ∷ xs) → IsSorted cmp xs
sorted_tail cmp x xs s i d low high =
    let next : suc i + 1 ≡ suc (i + 1) = omega arith in
    subst (λ n. is_lt (cmp (slice_index_or (x ∷ xs) n d) (slice_index_or xs i d)) ≡ false) next (s (suc i) d (omega arith) (omega arith))

module _ (tests : List Term) (params : Values) (kind : Kind) (inst : List ℕ) (keeps : Row → Bool)
    (finds : (r : Values) → IsKeptRow r → passes tests params r ≡ keeps (row_of_cells r))
    (own : (row : Row) → keeps row ≡ true → (row.kind ≡ kind) × (row.inst ≡ inst)) where
  abbrev back : Values → Row
  back r = row_shown kind inst (eval_all shown_columns (with_row params r))

  back_is : (r : Values) → keeps (row_of_cells r) ≡ true → back r ≡ row_of_cells r
  back_is r e =
      let whose = own (row_of_cells r) e in
      ap₂ (λ k i. record { kind = k; inst = i; key = bytes (column r 3); above = bytes (column r 4); octets = bytes (column r 7); started = is_set (column r 8) }) (sym whose.0) (sym whose.1)

  back_step : (r : Values) (rest : List Values) (b : Bool) → keeps (row_of_cells r) ≡ b
      → map back (filter (passes tests params) rest) ≡ filter keeps (map row_of_cells rest)
      → map back (if b then r ∷ filter (passes tests params) rest else filter (passes tests params) rest)
      ≡ (if b then row_of_cells r ∷ filter keeps (map row_of_cells rest) else filter keeps (map row_of_cells rest))
  back_step r rest true e on = ap₂ ◌∷◌ (back_is r e) on
  back_step r rest false e on = on

  all_back : (tree : List Values) → AllByRecursion IsKeptRow tree → map back (filter (passes tests params) tree) ≡ filter keeps (map row_of_cells tree)
  all_back [] h = refl
  all_back (r ∷ rest) h = rw (finds r h.0) (back_step r rest (keeps (row_of_cells r)) refl (all_back rest h.1))

  pub found_rows : (order : List (Term × Key)) (d : Database) (rows : List Row) (answer : List Values)
      → HasRows d rows → IsSelection 0 tests shown_columns order d.trees params answer
      → IsPermutation (filter keeps rows) (map (row_shown kind inst) answer)
  found_rows order d rows answer has s =
      let shown = IsPermutation-map (row_shown kind inst) _ _ (selection_rows 0 tests shown_columns order d.trees params answer s) in
      let here = map_map (λ r. eval_all shown_columns (with_row params r)) (row_shown kind inst) (chosen 0 tests d.trees params) ∙ all_back (d.trees 0) has.table.kept in
      IsPermutation-trans (filter keeps rows) (filter keeps (map row_of_cells (d.trees 0))) _
      (IsPermutation-sym _ _ (IsPermutation-filter keeps _ _ has.table.same))
      (subst (λ l. IsPermutation l (map (row_shown kind inst) answer)) here shown)

  all_keyed : (tree : List Values) → AllByRecursion IsKeptRow tree → AllByRecursion IsKeyed (map (λ r. output (selecting 0 tests None shown_columns by_id) (with_row params r)) tree)
  all_keyed [] h = tt
  all_keyed (r ∷ rest) h = (ap (λ v. v ∷ []) h.0.key, all_keyed rest h.1)

  abbrev by_output : Output → Output → Ordering
  by_output = output_cmp (selecting 0 tests None shown_columns by_id)

  not_below : (a b : Output) → IsKeyed a → IsKeyed b → is_lt (by_output b a) ≡ false
      → is_lt (row_place_order (row_place_of (row_shown kind inst b.1)) (row_place_of (row_shown kind inst a.1))) ≡ false
  not_below a b ka kb h =
      ap is_lt (by_keys kind inst b.1 a.1)
      ∙ sym (ap is_lt (value_cmp-Blob (bytes (column b.1 0)) (bytes (column a.1 0))))
      ∙ sym (at_most_last (value_cmp (Blob (bytes (column b.1 0))) (Blob (bytes (column a.1 0)))))
      ∙ (rw (ka, kb) at h)

  falls_never : (ordered : List Output) → AllByRecursion IsKeyed ordered → IsSorted by_output ordered → NeverFalls (map (λ o. row_shown kind inst o.1) ordered)
  falls_never [] k s = tt
  falls_never (a ∷ []) k s = tt
  falls_never (a ∷ b ∷ rest) k s =
      (not_below a b k.0 k.1.0 (s 0 a (omega arith) (omega arith)), falls_never (b ∷ rest) k.1 (sorted_tail by_output a (b ∷ rest) s))

  pub listed_rows : (d : Database) (rows : List Row) (answer : List Values)
      → HasRows d rows → IsSelection 0 tests shown_columns by_id d.trees params answer
      → map (row_shown kind inst) answer ≡ filter keeps rows
  listed_rows d rows answer has s =
      let keyed = recursion_from_All IsKeyed s.ordered (All-permutation IsKeyed _ s.ordered s.same
      (All-from_recursion IsKeyed _ (all_keyed (chosen 0 tests d.trees params) (each_filtered IsKeptRow (passes tests params) (d.trees 0) has.table.kept)))) in
      let same : map (row_shown kind inst) answer ≡ map (λ (o : Output). row_shown kind inst o.1) s.ordered =
      ap (map (row_shown kind inst)) s.is ∙ map_map (λ (o : Output). o.1) (row_shown kind inst) s.ordered in
      in_order (filter keeps rows) (map (row_shown kind inst) answer) (IsRising-filter keeps rows has.table.rising) (found_rows by_id d rows answer has s)
      (subst NeverFalls (sym same) (falls_never s.ordered keyed s.sorted))
