use Rattle.std.proofs.Common.{◌≡◌, ◌==◌, ℕ, false, List, [], ◌∷◌, length, map, ap, sym, ◌∙◌, rules}
use Rattle.std.specs.Prelude.{filter}
use Rattle.std.specs.Borrow.{Bor}
use Rattle.std.proofs.lemmas.Fn.{filter_same}
use Rattle.dq_tables.specs.declared.row.Row.{Row}
use Rattle.dq_sql.specs.StoreCopies.{is_row_of, copied_rows}
use Rattle.dq_sql.proofs.copied_store.keep_named.Goals as goal

-- where there is a name
of_names : (names : List (Bor (List ℕ))) (rows kept : List Row) → (length names == 0) ≡ false
    → kept ≡ filter (is_row_of (map (λ name. name.now) names)) rows → kept ≡ copied_rows (map (λ name. name.now) names) rows
of_names [] rows kept some is = cc
of_names (name ∷ names) rows kept some is = is

pub returns : goal.returns
returns c =
    of_names c.args.names.now c.args.rows.now.items c.retain.new.self.items (sym c.is_empty.ensures ∙ c.if-is_empty.false)
    (filter_same _ (is_row_of (map (λ name. name.now) c.args.names.now)) _ (λ x b q k. search rules) _ _ c.retain.ensures.filtered)
