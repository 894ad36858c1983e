-- Rows that come first in an order because a column of them is null.
use Rattle.std.proofs.Common.{◌≡◌, ℕ, zero, suc, ◌<◌, ◌≤◌, pos, Bool, true, false, not, ◌&&◌, List, [], ◌∷◌, ◌++◌, map, filter, take, length, slice_index_or, if◌then◌else◌, refl, sym, ◌∙◌, ap, ap₂, subst, arith}
use Rattle.std.specs.List.{AllByRecursion}
use Rattle.std.specs.List.Sorted.{IsPermutation, IsSorted}
use Rattle.std.specs.Ordering.{is_lt}
use Rattle.std.specs.declared.cmp.Ordering.{Ordering}
use Rattle.std.proofs.lemmas.List.Sorted.{IsPermutation-map, IsPermutation-sym, IsPermutation-trans, All-permutation}
use Rattle.std.proofs.lemmas.List.Elements.{recursion_from_All, All-from_recursion}
use Rattle.sqlite_value.specs.declared.value.Value.{Value}
use Rattle.sqlite_value.specs.declared.value.Value.TheVariants.{Null, Int, Real, Text, Blob}
use Rattle.sqlite_value.specs.Order.{Row as Values, column, value_cmp}
use Rattle.sqlite_trees.proofs.ListLemmas.{IsPermutation-filter, filter-map}
use Rattle.sqlite_sql.specs.Ops.{is_null}
use Rattle.sqlite_sql.specs.Term.{col, eval, eval_all}
use Rattle.sqlite_sql.specs.Query.{Output, output, output_cmp, IsAnswer}
use Rattle.sqlite_sql.specs.Program.{overlay}
use Rattle.sqlite.specs.Effect.{Database}
use Rattle.dq_tables.specs.declared.row.Kind.{Kind}
use Rattle.dq_tables.specs.declared.row.Row.{Row}
use Rattle.dq_tables.proofs.Order.{both_tests}
use Rattle.dq_sql.specs.Tie.{row_of_cells, IsKeptRow, HasRows}
use Rattle.dq_sql.specs.RowReads.{row_shown}
use Rattle.dq_sql.specs.StudyIndex.{leading_nulls, EndsWithin}
use Rattle.dq_sql.proofs.Queries.{of_tests, shown_columns}
use Rattle.dq_sql.proofs.ChoiceTexts.{first_by}
use Rattle.dq_sql.proofs.SelectAnswers.{with_row, passes, chosen, each_match, map_map}
use Rattle.dq_sql.proofs.FoundRows.{sorted_tail, at_most_last}

abbrev ends_null : Values → Bool
ends_null r = is_null (column r 4)

-- after a row with a value none is null
NullsFirst : List Values → Type 0
NullsFirst [] = Unit {0}
NullsFirst (r ∷ rows) = (ends_null r ≡ false → filter ends_null rows ≡ []) × NullsFirst rows

leading_step : (n : ℕ) (r : Values) (rows : List Values) (b : Bool) → ends_null r ≡ b → (length (leading_nulls (take n rows)) < n → leading_nulls (take n rows) ≡ filter ends_null rows)
    → (ends_null r ≡ false → filter ends_null rows ≡ []) → length (leading_nulls (r ∷ take n rows)) < suc n → leading_nulls (r ∷ take n rows) ≡ filter ends_null (r ∷ rows)
leading_step n r rows true e on last fewer =
    let shorter : suc (length (leading_nulls (take n rows))) < suc n =
    subst (λ (b : Bool). length (if b then r ∷ leading_nulls (take n rows) else []) < suc n) e fewer in
    rw e (ap (λ l. r ∷ l) (on (omega (arith, shorter))))
leading_step n r rows false e on last fewer = rw e (sym (last e))

-- what leads, where it is shorter than what was taken, is all that is null
all_leading : (n : ℕ) (rows : List Values) → NullsFirst rows → length (leading_nulls (take n rows)) < n → leading_nulls (take n rows) ≡ filter ends_null rows
unfolding NullsFirst
all_leading zero rows first fewer = absurd (omega (arith, fewer))
all_leading (suc n) [] first fewer = refl
all_leading (suc n) (r ∷ rows) first fewer = leading_step n r rows (ends_null r) refl (all_leading n rows first.1) first.0 fewer

-- what was gone over before a row that is not null, or before the end
pub stops_at : (n : ℕ) (rows : List Values) → ((k : ℕ) → k < n → ends_null (slice_index_or rows k []) ≡ true) → n ≤ length rows
    → (n < length rows → ends_null (slice_index_or rows n []) ≡ false) → take n rows ≡ leading_nulls rows
stops_at zero [] null within last = refl
stops_at zero (r ∷ rows) null within last = rw (last (omega arith)) refl
stops_at (suc n) [] null within last = absurd (omega (arith, within))
stops_at (suc n) (r ∷ rows) null within last =
    rw (null 0 (omega arith)) (ap (λ l. r ∷ l) (stops_at n rows (λ k p. null (suc k) (omega arith)) (omega (arith, within)) (λ p. last (omega arith))))

null_first : (v w : Value) → is_null v ≡ false → is_lt (value_cmp Null v) ≡ true
unfolding value_cmp
null_first Null w e = absurd cc
null_first (Int z) w e = refl
null_first (Real x) w e = refl
null_first (Text t) w e = refl
null_first (Blob b) w e = refl

-- a value that is not below one that is not null is not null
null_after : (v w : Value) → is_null v ≡ false → is_lt (value_cmp w v) ≡ false → is_null w ≡ false
null_after v Null e below = absurd (let less = null_first v v e in cc)
null_after v (Int z) e below = refl
null_after v (Real x) e below = refl
null_after v (Text t) e below = refl
null_after v (Blob b) e below = refl

abbrev IsLed : Output → Type 0
IsLed o = o.0 ≡ column o.1 4 ∷ []

module _ (at : ℕ) where
  abbrev by_output : Output → Output → Ordering
  by_output = output_cmp (first_by at)

  none_after : (a b : Output) → IsLed a → IsLed b → is_lt (by_output b a) ≡ false → ends_null a.1 ≡ false → ends_null b.1 ≡ false
  none_after a b la lb below value =
      null_after (column a.1 4) (column b.1 4) value
      (sym (at_most_last (value_cmp (column b.1 4) (column a.1 4))) ∙ (rw (la, lb) at below))

  nulls_first : (ordered : List Output) → AllByRecursion IsLed ordered → IsSorted by_output ordered → NullsFirst (map (λ o. o.1) ordered)
  unfolding NullsFirst
  nulls_first [] led s = tt
  nulls_first (a ∷ []) led s = (λ value. refl, tt)
  nulls_first (a ∷ b ∷ rest) led s =
      let on = nulls_first (b ∷ rest) led.1 (sorted_tail by_output a (b ∷ rest) s) in (
        λ value.
            let next = none_after a b led.0 led.1.0 (s 0 a (omega arith) (omega arith)) value in
            rw next (on.0 next),
        on,
      )

  module _ (params : Values) (most : ℕ) (limit : eval (col 0 2) (params ∷ []) ≡ Int (pos most)) (kind : Kind) (inst : List ℕ) (keeps says : Row → Bool)
      (finds : (r : Values) → IsKeptRow r → passes of_tests params r ≡ keeps (row_of_cells r))
      (said : (r : Values) → IsKeptRow r → is_null (column r at) ≡ not (says (row_of_cells r)))
      (own : (row : Row) → (keeps row && not (says row)) ≡ true → (row.kind ≡ kind) × (row.inst ≡ inst)) where
    abbrev shown : Values → Values
    shown r = eval_all (shown_columns ++ col 1 at ∷ []) (with_row params r)

    abbrev back : Values → Row
    back r = row_shown kind inst (shown r)

    abbrev silent_one : Values → Bool
    silent_one r = passes of_tests params r && is_null (column r at)

    abbrev silent_row : Row → Bool
    silent_row row = keeps row && not (says row)

    back_is : (r : Values) → silent_row (row_of_cells r) ≡ true → back r ≡ row_of_cells r
    back_is r e =
        let whose = own (row_of_cells r) e in
        ap₂ (λ k i. record { kind = k; inst = i; key = (row_of_cells r).key; above = (row_of_cells r).above; octets = (row_of_cells r).octets; started = (row_of_cells r).started })
        (sym whose.0) (sym whose.1)

    back_step : (r : Values) (rest : List Values) (b : Bool) → silent_row (row_of_cells r) ≡ b
        → map back (filter silent_one rest) ≡ filter silent_row (map row_of_cells rest)
        → map back (if b then r ∷ filter silent_one rest else filter silent_one rest)
        ≡ (if b then row_of_cells r ∷ filter silent_row (map row_of_cells rest) else filter silent_row (map row_of_cells rest))
    back_step r rest true e on = ap₂ ◌∷◌ (back_is r e) on
    back_step r rest false e on = on

    all_back : (tree : List Values) → AllByRecursion IsKeptRow tree → map back (filter silent_one tree) ≡ filter silent_row (map row_of_cells tree)
    all_back [] h = refl
    all_back (r ∷ rest) h = rw (finds r h.0, said r h.0) (back_step r rest (silent_row (row_of_cells r)) refl (all_back rest h.1))

    all_led : (tree : List Values) → AllByRecursion IsLed (map (λ r. output (first_by at) (with_row params r)) tree)
    all_led [] = tt
    all_led (r ∷ rest) = (refl, all_led rest)

    -- the rows without the value, where an answer that is not full shows them
    pub silent_rows : (d : Database) (rows : List Row) (answer silent : List Values) → HasRows d rows
        → IsAnswer (first_by at) (overlay d.trees []) params answer → EndsWithin most answer silent
        → IsPermutation (filter silent_row rows) (map (row_shown kind inst) silent)
    silent_rows d rows answer silent has a ends =
        let q = first_by at in
        let tree : List Values = d.trees 0 in
        let passed : List Values = chosen 0 of_tests d.trees params in
        let all = λ (r : Values). output q (with_row params r) in
        let kept : a.kept ≡ map all passed =
        a.distinct ∙ ap (map (output q)) (a.grouped ∙ each_match of_tests params tree) ∙ map_map (with_row params) (output q) passed in
        let same : IsPermutation (map all passed) a.ordered = subst (λ l. IsPermutation l a.ordered) kept a.same in
        let led = recursion_from_All IsLed a.ordered (All-permutation IsLed _ a.ordered same (All-from_recursion IsLed _ (all_led passed))) in
        let first = nulls_first a.ordered led a.sorted in
        let those : List Values = map (λ (o : Output). o.1) a.ordered in
        let taken : answer ≡ take most those = a.shown ∙ (rw limit refl) in
        let leads : leading_nulls (take most those) ≡ silent = ap leading_nulls (sym taken) ∙ sym ends.leading in
        let whole : silent ≡ filter ends_null those = sym leads ∙ all_leading most those first (subst (λ (l : List Values). length l < most) (sym leads) ends.fewer) in
        let each : IsPermutation (map shown passed) those =
        subst (λ l. IsPermutation l those) (map_map all (λ (o : Output). o.1) passed) (IsPermutation-map (λ (o : Output). o.1) _ _ same) in
        let nulls : filter ends_null (map shown passed) ≡ map shown (filter silent_one tree) =
        filter-map ends_null shown passed ∙ ap (map shown) (both_tests (passes of_tests params) (λ (r : Values). is_null (column r at)) tree) in
        let seen : IsPermutation (map shown (filter silent_one tree)) silent =
        subst (λ l. IsPermutation (map shown (filter silent_one tree)) l) (sym whole) (subst (λ l. IsPermutation l (filter ends_null those)) nulls (IsPermutation-filter ends_null _ _ each)) in
        let here : map (row_shown kind inst) (map shown (filter silent_one tree)) ≡ filter silent_row (map row_of_cells tree) =
        map_map shown (row_shown kind inst) (filter silent_one tree) ∙ all_back tree has.table.kept in
        IsPermutation-trans (filter silent_row rows) (filter silent_row (map row_of_cells tree)) _
        (IsPermutation-sym _ _ (IsPermutation-filter silent_row _ _ has.table.same))
        (subst (λ l. IsPermutation l (map (row_shown kind inst) silent)) here (IsPermutation-map (row_shown kind inst) _ _ seen))
