-- Which row of the table a statement finds by its place, and which rows are the others.
use Rattle.std.proofs.Common.{◌≡◌, ◌⊎◌, inl, inr, ℕ, pos, ◌≤◌, Bool, true, false, not, List, [], ◌∷◌, ◌++◌, length, map, filter, flat_map, if◌then◌else◌, slice_get, None, Some, IsTrue, ℤ, refl, sym, ap, subst, ◌∙◌, arith}
use Rattle.std.specs.List.{AllByRecursion, IsDistinct, list_all, find}
use Rattle.std.specs.Option.{is_some}
use Rattle.std.proofs.lemmas.List.{length-map}
use Rattle.std.specs.Ordering.{is_eq, ordering_reverse}
use Rattle.std.specs.declared.cmp.Ordering.{Ordering}
use Rattle.std.specs.declared.cmp.Ordering.TheVariants.{Less, Equal, Greater}
use Rattle.std.specs.List.Sorted.{IsPermutation}
use Rattle.std.proofs.lemmas.List.Sorted.{length_permutation, IsPermutation-map}
use Rattle.sqlite_value.specs.declared.value.Value.{Value}
use Rattle.sqlite_value.specs.declared.value.Value.TheVariants.{Null, Int, Real, Text, Blob}
use Rattle.sqlite_value.specs.Order.{Row as Values, value_cmp}
use Rattle.sqlite_value.proofs.OrderLemmas.{value_cmp_total}
use Rattle.sqlite_trees.specs.Tree.{Trees, rowid, has_rowid}
use Rattle.sqlite_trees.specs.View.{is_int}
use Rattle.sqlite_trees.proofs.ListLemmas.{map-map, filter-map, IsPermutation-filter}
use Rattle.sqlite_sql.specs.Term.{Term, Env, holds, eval_all}
use Rattle.sqlite_sql.specs.Query.{IsAnswer, output, Output}
use Rattle.sqlite_sql.specs.Program.{overlay}
use Rattle.sqlite_rules.specs.Edit.{id_in}
use Rattle.sqlite.proofs.Callers.{one_permutation}
use Rattle.dq_tables.specs.declared.row.Kind.{Kind}
use Rattle.dq_tables.specs.declared.row.Row.{Row}
use Rattle.dq_tables.specs.Rows.{IsRising, RowPlace, place, number_of_kind, row_place_of, rows_elsewhere}
use Rattle.dq_tables.specs.Lookups.{row_at}
use Rattle.dq_tables.proofs.Order.{is_at, filter_all, each_passed, each_filtered, rows_total, IsRising-filter}
use Rattle.dq_tables.proofs.InOrder.{row_at_is}
use Rattle.dq_sql.specs.Tie.{row_of_cells, IsKeptRow, same_id}
use Rattle.dq_sql.proofs.Statements.{at_place, selecting}
use Rattle.dq_sql.proofs.WhereTests.{finds_place}
use Rattle.dq_sql.proofs.AddedRows.{apart_back, each}

-- a row of the table holds the row at a place
abbrev pub holds_at : RowPlace → Values → Bool
holds_at p r = is_at p (row_of_cells r)

module _ (kind : Kind) (inst key : List ℕ) (more : Values) where
  abbrev given : Values
  given = Int (pos (number_of_kind kind)) ∷ Text inst ∷ Blob key ∷ more

  abbrev found_here : Bool → Values → List Env
  found_here b r = if b then (given ∷ r ∷ []) ∷ [] else []

  matched_step : (b : Bool) (r : Values) (rows : List Values)
      → flat_map (λ x. found_here (list_all (holds (given ∷ x ∷ [])) at_place) x) rows ≡ map (λ x. given ∷ x ∷ []) (filter (holds_at (place kind inst key)) rows)
      → found_here b r ++ flat_map (λ x. found_here (list_all (holds (given ∷ x ∷ [])) at_place) x) rows
      ≡ map (λ x. given ∷ x ∷ []) (if b then r ∷ filter (holds_at (place kind inst key)) rows else filter (holds_at (place kind inst key)) rows)
  matched_step true r rows on = ap (λ l. (given ∷ r ∷ []) ∷ l) on
  matched_step false r rows on = on

  matched : (rows : List Values) → AllByRecursion IsKeptRow rows
      → flat_map (λ r. found_here (list_all (holds (given ∷ r ∷ [])) at_place) r) rows ≡ map (λ r. given ∷ r ∷ []) (filter (holds_at (place kind inst key)) rows)
  matched [] kept = refl
  matched (r ∷ rows) kept =
      ap (λ b. found_here b r ++ flat_map (λ x. found_here (list_all (holds (given ∷ x ∷ [])) at_place) x) rows) (finds_place kind inst key more r kept.0)
      ∙ matched_step (holds_at (place kind inst key) r) r rows (matched rows kept.1)

  -- what a statement shows of the row at the place
  pub selected : (project : List Term) (db : Trees) (rows : List Values) → AllByRecursion IsKeptRow (db 0) → IsAnswer (selecting project) (overlay db []) given rows
      → IsPermutation (map (λ r. eval_all project (given ∷ r ∷ [])) (filter (holds_at (place kind inst key)) (db 0))) rows
  selected project db rows kept a =
      let q = selecting project in
      let at_it : List Values = filter (holds_at (place kind inst key)) (db 0) in
      let f : Values → Values = λ r. eval_all project (given ∷ r ∷ []) in
      let staged : a.staged ≡ map (λ (r : Values). given ∷ r ∷ []) at_it = a.grouped ∙ matched (db 0) kept in
      let shown : map (λ (o : Output). o.1) a.kept ≡ map f at_it =
      ap (map (λ (o : Output). o.1)) (a.distinct ∙ ap (map (output q)) staged ∙ map-map (output q) (λ (r : Values). given ∷ r ∷ []) at_it)
      ∙ map-map (λ (o : Output). o.1) (λ (r : Values). output q (given ∷ r ∷ [])) at_it in
      subst (λ (l : List Values). IsPermutation (map f at_it) l) (sym a.shown)
      (subst (λ (l : List Values). IsPermutation l (map (λ (o : Output). o.1) a.ordered)) shown (IsPermutation-map (λ (o : Output). o.1) a.kept a.ordered a.same))

equal_is : (o : Ordering) → is_eq o ≡ true → o ≡ Equal
equal_is Less e = absurd cc
equal_is Equal e = refl
equal_is Greater e = absurd cc

not_more : (p : RowPlace) (rows : List Row) → IsRising rows → AllByRecursion (λ (row : Row). is_at p row ≡ true) rows → length rows ≤ 1
unfolding IsRising
not_more p [] rising at = omega arith
not_more p (x ∷ []) rising at = omega arith
not_more p (x ∷ y ∷ rows) rising at =
    let first = rows_total.congr (row_place_of x) p (row_place_of y) (equal_is _ at.0) in
    let second = rows_total.antisymm p (row_place_of y) ∙ ap ordering_reverse (equal_is _ at.1.0) in
    let both : Less ≡ Equal = sym rising.0.0 ∙ first ∙ second in
    absurd cc

-- at most one row stands at a place
one_at : (p : RowPlace) (rows : List Row) → IsRising rows → length (filter (is_at p) rows) ≤ 1
one_at p rows rising = not_more p (filter (is_at p) rows) (IsRising-filter (is_at p) rows rising) (each_passed _ (is_at p) (λ row h. h) rows)

none_or_one : {X : Type 0} (xs : List X) → length xs ≤ 1 → (xs ≡ []) ⊎ ((x : X) × (xs ≡ x ∷ []))
none_or_one [] few = inl refl
none_or_one (x ∷ []) few = inr (x, refl)
none_or_one (x ∷ y ∷ xs) few = absurd (omega arith)

pub none_if : {X : Type 0} (xs : List X) → length xs ≡ 0 → xs ≡ []
none_if [] few = refl
none_if (x ∷ xs) few = absurd (omega arith)

none_step : {X : Type 0} (q : X → Bool) (x : X) (xs : List X) (b : Bool) → q x ≡ b → filter q (x ∷ xs) ≡ [] → (filter q xs ≡ [] → find q xs ≡ None) → find q (x ∷ xs) ≡ None
none_step q x xs true e none on = absurd (let f = rw e at none in cc)
none_step q x xs false e none on = rw e (on (rw e at none))

pub nothing_found : {X : Type 0} (q : X → Bool) (xs : List X) → filter q xs ≡ [] → find q xs ≡ None
nothing_found q [] none = refl
nothing_found q (x ∷ xs) none = none_step q x xs (q x) refl none (nothing_found q xs)

others_step : {X : Type 0} (q : X → Bool) (x : X) (xs : List X) (b : Bool) → q x ≡ b → filter q (x ∷ xs) ≡ []
    → (filter q xs ≡ [] → filter (λ y. not (q y)) xs ≡ xs) → filter (λ y. not (q y)) (x ∷ xs) ≡ x ∷ xs
others_step q x xs true e none on = absurd (let f = rw e at none in cc)
others_step q x xs false e none on = rw e (ap (λ l. x ∷ l) (on (rw e at none)))

pub none_others : {X : Type 0} (q : X → Bool) (xs : List X) → filter q xs ≡ [] → filter (λ x. not (q x)) xs ≡ xs
none_others q [] none = refl
none_others q (x ∷ xs) none = others_step q x xs (q x) refl none (none_others q xs)

pub first_kept : {X : Type 0} (p : X → Bool) (xs : List X) → find p xs ≡ slice_get (filter p xs) 0
first_kept p [] = refl
first_kept p (x ∷ xs) = elim (p x) as (λ b. (if b then Some x else find p xs) ≡ slice_get (if b then x ∷ filter p xs else filter p xs) 0) [
  | true ↦ refl
  | false ↦ first_kept p xs
]

module _ (p : RowPlace) (t : List Values) (rows : List Row) (same : IsPermutation (map row_of_cells t) rows) where
  -- the others are the rows that are not at the place
  pub others_same : IsPermutation (map row_of_cells (filter (λ r. not (holds_at p r)) t)) (rows_elsewhere p rows)
  others_same =
      subst (λ (l : List Row). IsPermutation l (rows_elsewhere p rows)) (filter-map (λ (row : Row). not (is_at p row)) row_of_cells t)
      (IsPermutation-filter (λ (row : Row). not (is_at p row)) (map row_of_cells t) rows same)

  as_many : length (filter (is_at p) rows) ≡ length (filter (holds_at p) t)
  as_many =
      length_permutation _ _ (subst (λ (l : List Row). IsPermutation l (filter (is_at p) rows)) (filter-map (is_at p) row_of_cells t)
      (IsPermutation-filter (is_at p) (map row_of_cells t) rows same)) ∙ length-map (filter (holds_at p) t) row_of_cells

  -- where none of the table holds a row at the place, there is none
  pub none_at : filter (holds_at p) t ≡ [] → filter (is_at p) rows ≡ []
  none_at none = none_if (filter (is_at p) rows) (as_many ∙ ap length none)

  -- where one of the table holds a row at the place, it is that row
  pub one_there : (x : Values) → filter (holds_at p) t ≡ x ∷ [] → row_at p.kind p.institution p.key rows ≡ Some (row_of_cells x)
  one_there x one =
      let here : IsPermutation (row_of_cells x ∷ []) (filter (is_at p) rows) =
      subst (λ (l : List Values). IsPermutation (map row_of_cells l) (filter (is_at p) rows)) one
      (subst (λ (l : List Row). IsPermutation l (filter (is_at p) rows)) (filter-map (is_at p) row_of_cells t)
      (IsPermutation-filter (is_at p) (map row_of_cells t) rows same)) in
      row_at_is p rows ∙ first_kept (is_at p) rows ∙ ap (λ (l : List Row). slice_get l 0) (one_permutation (row_of_cells x) (filter (is_at p) rows) here)

  -- at most one row of the table holds the row at a place
  pub one_found : IsRising rows → (filter (holds_at p) t ≡ []) ⊎ ((x : Values) × (filter (holds_at p) t ≡ x ∷ []))
  one_found rising = let few = one_at p rows rising in none_or_one (filter (holds_at p) t) (omega (arith, as_many))

  -- and it does where there is one
  pub is_found : is_some (row_at p.kind p.institution p.key rows) ≡ true → filter (holds_at p) t ≡ [] → ⊥
  is_found there none =
      let found = sym there ∙ ap is_some (row_at_is p rows ∙ nothing_found (is_at p) rows (none_at none)) in
      absurd cc

pub int_of : (v : Value) → IsTrue (is_int v) → v ≡ Int (id_in v)
int_of Null h = absurd cc
int_of (Int n) h = refl
int_of (Real x) h = absurd cc
int_of (Text s) h = absurd cc
int_of (Blob b) h = absurd cc

its_own : (o : Ordering) → o ≡ ordering_reverse o → o ≡ Equal
its_own Less e = absurd cc
its_own Equal e = refl
its_own Greater e = absurd cc

-- the row that passes a test, where one does, is the row with its rowid
module _ (q : Values → Bool) (x : Values) (id : ℤ) (is : rowid x ≡ Int id) where
  by_id : (r : Values) → has_rowid id r ≡ same_id r x
  by_id r = ap (λ v. is_eq (value_cmp (rowid r) v)) (sym is)

  named_step : (y : Values) (t : List Values) (b : Bool) → q y ≡ b → IsDistinct same_id (y ∷ t) → filter q (y ∷ t) ≡ x ∷ []
      → (filter q t ≡ x ∷ [] → filter (λ r. not (has_rowid id r)) t ≡ filter (λ r. not (q r)) t)
      → filter (λ r. not (has_rowid id r)) (y ∷ t) ≡ filter (λ r. not (q r)) (y ∷ t)
  unfolding IsDistinct
  named_step y t true e apart one on =
      let got : y ∷ filter q t ≡ x ∷ [] = rw e at one in
      let first : y ≡ x = cc in
      let none : filter q t ≡ [] = cc in
      let here : has_rowid id y ≡ true = by_id y ∙ ap (same_id y) (sym first) ∙ ap is_eq (its_own (value_cmp (rowid y) (rowid y)) (value_cmp_total.antisymm (rowid y) (rowid y))) in
      let away : AllByRecursion (λ r. not (has_rowid id r) ≡ true) t =
      each (λ r. same_id y r ≡ false) (λ r. not (has_rowid id r) ≡ true)
      (λ r h. ap not (by_id r ∙ ap (same_id r) (sym first) ∙ apart_back y r h)) t apart.0 in
      rw (e, here) (filter_all _ t away ∙ sym (none_others q t none))
  named_step y t false e apart one on =
      let got : filter q t ≡ x ∷ [] = rw e at one in
      let seen = subst (AllByRecursion (λ r. same_id y r ≡ false)) got (each_filtered (λ r. same_id y r ≡ false) q t apart.0) in
      let away : has_rowid id y ≡ false = by_id y ∙ seen.0 in
      rw (e, away) (ap (λ l. y ∷ l) (on got))

  pub named : (t : List Values) → IsDistinct same_id t → filter q t ≡ x ∷ [] → filter (λ r. not (has_rowid id r)) t ≡ filter (λ r. not (q r)) t
  unfolding IsDistinct
  named [] apart one = absurd cc
  named (y ∷ t) apart one = named_step y t (q y) refl apart one (named t apart.1)
