use Rattle.std.proofs.Common.{◌≡◌, ◌||◌, ℕ, Bool, List, [], ◌∷◌, map, refl, ap, ◌∙◌, rules, tests}
use Rattle.std.specs.Borrow.{Bor}
use Rattle.std.specs.List.{list_any}
use Rattle.std.specs.Str.{bytes_eq}
use Rattle.std.proofs.lemmas.Iterator.{YieldsList-from_slice}
use Rattle.std.proofs.lemmas.Iterator.Search.{any_from_yields_List}
use Rattle.dq_sql.proofs.copied_store.is_named.Goals as goal

-- a test of what names stand for
at-names : (test : List ℕ → Bool) (names : List (Bor (List ℕ))) → list_any (λ name. test name.now) names ≡ list_any test (map (λ name. name.now) names)
at-names test [] = refl
at-names test (name ∷ names) = ap (λ later. test name.now || later) (at-names test names)

pub returns : goal.returns
returns c =
    let inst = c.args.row.now.inst in
    any_from_yields_List (λ (name : Bor (List ℕ)). bytes_eq inst name.now) _ _ c.any.result c.any.ensures.ran (YieldsList-from_slice c.args.names.now cc)
    (λ x b q k. search (rules, tests))
    ∙ at-names (bytes_eq inst) c.args.names.now
