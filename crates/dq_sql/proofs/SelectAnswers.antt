-- What a query on one table answers.
use Rattle.std.proofs.Common.{◌≡◌, ℕ, Bool, true, false, List, [], ◌∷◌, ◌++◌, None, map, filter, take, pos, if◌then◌else◌, refl, sym, ◌∙◌, ap, subst}
use Rattle.std.specs.List.{list_all, flat_map}
use Rattle.std.specs.List.Sorted.{IsPermutation, IsSorted}
use Rattle.std.proofs.lemmas.List.Sorted.{IsPermutation-map}
use Rattle.sqlite_value.specs.declared.keys.Key.{Key}
use Rattle.sqlite_value.specs.declared.value.Value.TheVariants.{Int}
use Rattle.sqlite_value.specs.Order.{Row as Values}
use Rattle.sqlite_trees.specs.Tree.{Trees}
use Rattle.sqlite_sql.specs.Term.{Term, Env, eval, eval_all, holds}
use Rattle.sqlite_sql.specs.Query.{Output, output, output_cmp, IsAnswer}
use Rattle.sqlite_sql.specs.Program.{overlay}
use Rattle.dq_sql.proofs.Queries.{selecting}

-- the parameters, and a row
abbrev pub with_row : Values → Values → Env
with_row params r = params ∷ r ∷ []

abbrev pub passes : List Term → Values → Values → Bool
passes tests params r = list_all (holds (with_row params r)) tests

abbrev pub step_to : List Term → Values → Values → List Env
step_to tests params r = if passes tests params r then with_row params r ∷ [] else []

pub each_match : (tests : List Term) (params : Values) (rows : List Values)
    → flat_map (step_to tests params) rows ≡ map (with_row params) (filter (passes tests params) rows)
each_match tests params [] = refl
each_match tests params (r ∷ rows) =
    elim (passes tests params r) as (λ b. (if b then with_row params r ∷ [] else []) ++ flat_map (step_to tests params) rows
    ≡ map (with_row params) (if b then r ∷ filter (passes tests params) rows else filter (passes tests params) rows)) [
      | true ↦ ap (λ l. with_row params r ∷ l) (each_match tests params rows)
      | false ↦ each_match tests params rows
    ]

-- the rows of a tree that pass, as the query finds them
abbrev pub chosen : ℕ → List Term → Trees → Values → List Values
chosen tree tests db params = filter (passes tests params) (db tree)

-- what is shown, in an order that ORDER BY allows
pub record IsSelection (tree : ℕ) (tests : List Term) (shown : List Term) (order : List (Term × Key)) (db : Trees) (params : Values) (answer : List Values) : Type 0 where
  pub ordered : List Output
  pub same : IsPermutation (map (λ r. output (selecting tree tests None shown order) (with_row params r)) (chosen tree tests db params)) ordered
  pub sorted : IsSorted (output_cmp (selecting tree tests None shown order)) ordered
  pub is : answer ≡ map (λ o. o.1) ordered

pub map_map : {X Y Z : Type 0} (f : X → Y) (g : Y → Z) (xs : List X) → map g (map f xs) ≡ map (λ x. g (f x)) xs
map_map f g [] = refl
map_map f g (x ∷ xs) = ap (λ l. g (f x) ∷ l) (map_map f g xs)

pub selection : (tree : ℕ) (tests shown : List Term) (order : List (Term × Key)) (db : Trees) (params : Values) (answer : List Values)
    → overlay db [] tree ≡ db tree → IsAnswer (selecting tree tests None shown order) (overlay db []) params answer
    → IsSelection tree tests shown order db params answer
selection tree tests shown order db params answer at a =
    let q = selecting tree tests None shown order in
    let found : a.staged ≡ map (with_row params) (chosen tree tests db params) = a.grouped ∙ each_match tests params (overlay db [] tree) ∙ ap (λ rows. map (with_row params) (filter (passes tests params) rows)) at in
    let kept : a.kept ≡ map (λ r. output q (with_row params r)) (chosen tree tests db params) =
    a.distinct ∙ ap (map (output q)) found ∙ map_map (with_row params) (output q) (chosen tree tests db params) in
    record {
      ordered = a.ordered;
      same = subst (λ l. IsPermutation l a.ordered) kept a.same;
      sorted = a.sorted;
      is = a.shown;
    }

module _ (tree : ℕ) (tests shown : List Term) (order : List (Term × Key)) (limit : Term) (db : Trees) (params : Values) (answer : List Values)
    (a : IsAnswer (record (selecting tree tests None shown order) { limit = limit }) (overlay db []) params answer) where
  -- what would be answered without the limit
  abbrev pub unlimited : List Values
  unlimited = map (λ (o : Output). o.1) a.ordered

  pub without_limit : IsAnswer (selecting tree tests None shown order) (overlay db []) params unlimited
  without_limit = record {
    staged = a.staged;
    grouped = a.grouped;
    kept = a.kept;
    distinct = a.distinct;
    ordered = a.ordered;
    same = a.same;
    sorted = a.sorted;
    shown = refl;
  }

  -- the answer is the first of it
  pub limited_to : (most : ℕ) → eval limit (params ∷ []) ≡ Int (pos most) → answer ≡ take most unlimited
  limited_to most is = a.shown ∙ (rw is refl)

-- the rows that are answered, in some order
pub selection_rows : (tree : ℕ) (tests shown : List Term) (order : List (Term × Key)) (db : Trees) (params : Values) (answer : List Values)
    → IsSelection tree tests shown order db params answer
    → IsPermutation (map (λ r. eval_all shown (with_row params r)) (chosen tree tests db params)) answer
selection_rows tree tests shown order db params answer s =
    let q = selecting tree tests None shown order in
    let all = λ (r : Values). output q (with_row params r) in
    subst (λ l. IsPermutation (map (λ r. eval_all shown (with_row params r)) (chosen tree tests db params)) l) (sym s.is)
    (subst (λ l. IsPermutation l (map (λ (o : Output). o.1) s.ordered)) (map_map all (λ (o : Output). o.1) (chosen tree tests db params))
    (IsPermutation-map (λ (o : Output). o.1) _ _ s.same))
