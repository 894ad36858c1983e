use Rattle.std.proofs.Common.{◌∙◌, ℕ, List, Option, Some, sym, ap, rules}
use Rattle.std.specs.Borrow.{Bor}
use Rattle.std.specs.Ordering.{is_gt}
use Rattle.std.specs.Option.{option_copied}
use Rattle.std.proofs.lemmas.Fn.{filter_same}
use Rattle.dq_tables.specs.declared.row.Row.{Row}
use Rattle.dq_tables.specs.Rows.{octet_order}
use Rattle.dq_tables.specs.Lookups.{rows_behind}
use Rattle.dq_tables.proofs.scan.behind.Goals as goal

pub returns : goal.returns
returns c =
    c.from_inner.ensures
    ∙ filter_same _ (λ (row : Row). is_gt (octet_order row.key c.in-Some.after.now)) _ (λ x b q k. search rules) _ _ c.retain.ensures.filtered
    ∙ ap (rows_behind (Some c.in-Some.after.now)) c.into_inner-rows.ensures
    ∙ ap (λ (after : Option (Bor (List ℕ))). rows_behind (option_copied after) c.args.rows) (sym c.in-Some.is)
