use Rattle.std.proofs.Common.{◌∙◌, map, take, drop, List, ℕ, sym, ap}
use Rattle.std.specs.List.{filter_map}
use Rattle.dq_tables.specs.Rows.{row_of}
use Rattle.dq_archive.specs.PastArchives.{records_in}
use Rattle.dq_archive.proofs.PastLookups.{looks_alike}
use Rattle.dq_find.specs.declared.open_search.SearchCursor.{SearchCursor}
use Rattle.dq_find.specs.Candidates.{named_record}
use Rattle.dq_find.specs.OpenSearches.{next_candidates}
use Rattle.dq_find.proofs.NamedLookups.{rows_are}
use Rattle.dq_find.proofs.open_search.SearchCursor.next_rows.Goals as goal

pub returns-in-Named : goal.returns-in-Named
returns-in-Named g c =
    let it = c.args.archive.now in
    let name = it.institution.now.name in
    let query = c.args.search.now.query.now in
    let records = records_in g.T.Tables.state it in
    looks_alike g.T.Tables.state it c.rows_with.new.archive _ _ c.rows_with.result c.rows_with.ensures
    (λ h. rows_are name records query c.part-next.result.now
    ∙ ap (λ (keys : List (List ℕ)). map (row_of name) (filter_map (named_record records query) keys))
    (c.part-next.ensures ∙ ap (λ (keys : List (List ℕ)). take c.args.most (drop c.in-Named.from keys)) c.as_slice.ensures)
    ∙ ap (λ (left : SearchCursor). map (row_of name) (next_candidates c.args.most records query left)) (sym c.in-Named.is))
