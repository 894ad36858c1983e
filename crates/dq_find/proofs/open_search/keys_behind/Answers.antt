use Rattle.std.proofs.Common.{◌∙◌, ℕ, List, Option, Some, sym, ap, rules}
use Rattle.std.specs.Borrow.{Bor}
use Rattle.std.specs.Ordering.{is_gt}
use Rattle.std.specs.Option.{option_copied}
use Rattle.std.proofs.lemmas.Fn.{filter_same}
use Rattle.dq_tables.specs.Rows.{octet_order}
use Rattle.dq_find.specs.OpenSearches.{keys_behind}
use Rattle.dq_find.proofs.open_search.keys_behind.Goals as goal

pub returns : goal.returns
returns c =
    c.from_inner.ensures
    ∙ filter_same _ (λ (key : List ℕ). is_gt (octet_order key c.in-Some.after.now)) _ (λ x b q k. search rules) _ _ c.retain.ensures.filtered
    ∙ ap (keys_behind (Some c.in-Some.after.now)) c.into_inner-keys.ensures
    ∙ ap (λ (after : Option (Bor (List ℕ))). keys_behind (option_copied after) c.args.keys) (sym c.in-Some.is)
