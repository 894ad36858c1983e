-- How many rows a query with a limit answers.
use Rattle.std.proofs.Common.{◌≡◌, ℕ, ◌<◌, ◌≤◌, min, pos, Bool, List, [], ◌∷◌, None, filter, take, length, refl, sym, ◌∙◌, ap, arith}
use Rattle.std.proofs.lemmas.List.{length-map, length-take, take_all}
use Rattle.std.proofs.lemmas.List.Sorted.{length_permutation}
use Rattle.sqlite_value.specs.declared.value.Value.TheVariants.{Int}
use Rattle.sqlite_value.specs.declared.keys.Key.{Key}
use Rattle.sqlite_value.specs.Order.{Row as Values}
use Rattle.sqlite_sql.specs.Term.{Term, eval, eval_all}
use Rattle.sqlite_sql.specs.Query.{IsAnswer}
use Rattle.sqlite_sql.specs.Program.{overlay}
use Rattle.sqlite.specs.Effect.{Database}
use Rattle.dq_tables.specs.declared.row.Row.{Row}
use Rattle.dq_sql.specs.Tie.{row_of_cells, IsKeptRow, HasRows}
use Rattle.dq_sql.proofs.Queries.{selecting}
use Rattle.dq_sql.proofs.SelectAnswers.{with_row, passes, chosen, selection, selection_rows, unlimited, without_limit, limited_to}
use Rattle.dq_sql.proofs.CountQueries.{size_found}

-- fewer rows than a limit are all rows
pub all_of_fewer : {X : Type 0} (most : ℕ) (xs : List X) → length (take most xs) < most → take most xs ≡ xs
all_of_fewer most xs fewer =
    let n : length (take most xs) ≡ min most (length xs) = length-take most xs in
    take_all most xs (omega (arith, n, fewer))

module _ (tests shown : List Term) (order : List (Term × Key)) (limit : Term) (params : Values) (most : ℕ) (is : eval limit (params ∷ []) ≡ Int (pos most))
    (keeps : Row → Bool) (finds : (r : Values) → IsKeptRow r → passes tests params r ≡ keeps (row_of_cells r))
    (d : Database) (rows : List Row) (answer : List Values) (has : HasRows d rows)
    (a : IsAnswer (record (selecting 0 tests None shown order) { limit = limit }) (overlay d.trees []) params answer) where
  abbrev pub all : List Values
  all = unlimited 0 tests shown order limit d.trees params answer a

  taken : answer ≡ take most all
  taken = limited_to 0 tests shown order limit d.trees params answer a most is

  all_counted : length all ≡ length (filter keeps rows)
  all_counted =
      let show = λ (r : Values). eval_all shown (with_row params r) in
      let s = selection 0 tests shown order d.trees params all refl (without_limit 0 tests shown order limit d.trees params answer a) in
      length_permutation _ _ (selection_rows 0 tests shown order d.trees params all s)
      ∙ length-map (chosen 0 tests d.trees params) show
      ∙ size_found tests params keeps finds d rows has

  pub no_more : length answer ≤ length (filter keeps rows)
  no_more =
      let n : length answer ≡ min most (length all) = ap length taken ∙ length-take most all in
      omega (arith, n, all_counted)

  pub all_answered : length answer < most → answer ≡ all
  all_answered fewer =
      let less : length (take most all) < most = rw (sym taken) fewer in
      taken ∙ all_of_fewer most all less
