use Rattle.std.proofs.Common.{rules}
use Rattle.std.proofs.lemmas.Fn.{always_returns_same}
use Rattle.dq_tables.specs.declared.row.Row.{Row}
use Rattle.dq_tables.specs.Rows.{row_place_order, row_place_of, place}
use Rattle.dq_tables.proofs.InOrder.{located}
use Rattle.dq_tables.proofs.search.search.Goals as goal

pub returns : goal.returns
returns c =
    let p = place c.args.kind c.args.institution.now c.args.key.now in
    let facts = c.binary_search_by.ensures in
    located p c.args.rows.now c.requires c.binary_search_by.result facts.bound
    (facts.position (λ (row : Row). row_place_order (row_place_of row) p) (always_returns_same _ _ _ (λ a r f called. search rules)))
