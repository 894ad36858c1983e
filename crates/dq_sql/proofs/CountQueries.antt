-- What a count answers.
use Rattle.std.proofs.Common.{◌≡◌, suc, if◌then◌else◌, Bool, true, false, List, [], ◌∷◌, Some, Option, map, filter, length, refl, sym, ◌∙◌, ap, subst}
use Rattle.std.specs.List.{AllByRecursion, AllZip}
use Rattle.std.specs.List.Sorted.{IsPermutation}
use Rattle.std.proofs.lemmas.List.{length-map}
use Rattle.std.proofs.lemmas.List.Sorted.{length_permutation}
use Rattle.sqlite_value.specs.declared.value.Value.{Value}
use Rattle.sqlite_value.specs.declared.value.Value.TheVariants.{Null}
use Rattle.sqlite_value.specs.Order.{Row as Values}
use Rattle.sqlite_trees.specs.Tree.{Trees}
use Rattle.sqlite_trees.proofs.ListLemmas.{IsPermutation-filter}
use Rattle.sqlite_sql.specs.Aggregate.{count}
use Rattle.sqlite_sql.specs.Term.{Term, Env, lit, col, eval}
use Rattle.sqlite_sql.specs.Group.{IsSummary, Summarizes, value_over}
use Rattle.sqlite_sql.specs.Query.{Output, output, IsAnswer}
use Rattle.sqlite_sql.specs.Program.{overlay}
use Rattle.sqlite.specs.Effect.{Database}
use Rattle.sqlite.proofs.Callers.{one_permutation}
use Rattle.dq_tables.specs.declared.row.Row.{Row}
use Rattle.dq_sql.specs.Tie.{row_of_cells, IsKeptRow, HasRows}
use Rattle.dq_sql.proofs.Queries.{selecting, counted, count_grouping}
use Rattle.dq_sql.proofs.SelectAnswers.{with_row, passes, chosen, each_match}

one_value : (order : List Env) (values : Values) → AllZip (λ a v. value_over order a ≡ Some v) count_grouping.aggregates values → values ≡ count (length order) ∷ []
one_value order [] h = absurd h
one_value order (v ∷ []) h =
    let is : ◌≡◌ {A = Option Value} (Some (count (length (map (eval (lit Null)) order)))) (Some v) = h.0 in
    let same : count (length (map (eval (lit Null)) order)) ≡ v = cc in
    ap (λ w. w ∷ []) (sym same ∙ ap count (length-map order (eval (lit Null))))
one_value order (v ∷ w ∷ more) h = absurd h.1

one_summary : (order : List Env) (rows : List Values) → AllZip (IsSummary count_grouping) (order ∷ []) rows → rows ≡ (count (length order) ∷ []) ∷ []
one_summary order [] h = absurd h
one_summary order (row ∷ []) h = ap (λ r. r ∷ []) (h.0.2 ∙ one_value order h.0.0 h.0.1)
one_summary order (row ∷ next ∷ more) h = absurd h.1

all_kept : {X : Type 0} (xs : List X) → filter (λ x. true) xs ≡ xs
all_kept [] = refl
all_kept (x ∷ xs) = ap (λ l. x ∷ l) (all_kept xs)

summary_of : (params : Values) (all staged : List Env) → Summarizes count_grouping params all staged → staged ≡ (params ∷ (count (length all) ∷ []) ∷ []) ∷ []
summary_of params all staged s =
    let order = s.grouping.0 in
    let rows = one_summary order s.rows (subst (λ groups. AllZip (IsSummary count_grouping) groups s.rows) s.grouping.2 s.summaries) in
    let size : length order ≡ length all = length_permutation all order s.grouping.1 in
    s.having ∙ all_kept (map (λ r. params ∷ r ∷ []) s.rows) ∙ ap (map (λ r. params ∷ r ∷ [])) (rows ∙ ap (λ n. (count n ∷ []) ∷ []) size)

-- the one answer is how many rows pass
pub count_answer : (tests : List Term) (db : Trees) (params : Values) (answer : List Values)
    → IsAnswer (selecting 0 tests counted (col 1 0 ∷ []) []) (overlay db []) params answer
    → answer ≡ (count (length (chosen 0 tests db params)) ∷ []) ∷ []
count_answer tests db params answer a =
    let q = selecting 0 tests counted (col 1 0 ∷ []) [] in
    let found = each_match tests params (db 0) in
    let n = length (chosen 0 tests db params) in
    let staged : a.staged ≡ (params ∷ (count n ∷ []) ∷ []) ∷ [] =
    summary_of params _ a.staged a.grouped
    ∙ ap (λ k. (params ∷ (count k ∷ []) ∷ []) ∷ []) (ap length found ∙ length-map (chosen 0 tests db params) (with_row params)) in
    let o : Output = ([], count n ∷ []) in
    let kept : a.kept ≡ o ∷ [] = a.distinct ∙ ap (map (output q)) staged in
    let ordered = one_permutation o a.ordered (subst (λ k. IsPermutation k a.ordered) kept a.same) in
    a.shown ∙ ap (map (λ (p : Output). p.1)) ordered

size_kept : (tests : List Term) (params : Values) (keeps : Row → Bool) → ((r : Values) → IsKeptRow r → passes tests params r ≡ keeps (row_of_cells r))
    → (tree : List Values) → AllByRecursion IsKeptRow tree → length (filter (passes tests params) tree) ≡ length (filter keeps (map row_of_cells tree))
size_kept tests params keeps finds [] h = refl
size_kept tests params keeps finds (r ∷ rest) h =
    rw (finds r h.0) (elim (keeps (row_of_cells r)) as (λ b. length (if b then r ∷ filter (passes tests params) rest else filter (passes tests params) rest)
    ≡ length (if b then row_of_cells r ∷ filter keeps (map row_of_cells rest) else filter keeps (map row_of_cells rest))) [
      | true ↦ ap suc (size_kept tests params keeps finds rest h.1)
      | false ↦ size_kept tests params keeps finds rest h.1
    ])

pub size_found : (tests : List Term) (params : Values) (keeps : Row → Bool) → ((r : Values) → IsKeptRow r → passes tests params r ≡ keeps (row_of_cells r))
    → (d : Database) (rows : List Row) → HasRows d rows → length (chosen 0 tests d.trees params) ≡ length (filter keeps rows)
size_found tests params keeps finds d rows has =
    size_kept tests params keeps finds (d.trees 0) has.table.kept
    ∙ sym (length_permutation _ _ (IsPermutation-filter keeps _ _ has.table.same))
