use Rattle.std.proofs.Common.{◌<◌}
use Rattle.dq_find.proofs.FilledPages.{TakenSoFar}
use Rattle.dq_find.proofs.open_search.OpenSearch.fill.Given as goal

abbrev pub invariant-loop : goal.invariant-loop
invariant-loop g l = TakenSoFar g.T.Tables.state l.fn.archive l.archive l.fn.self l.self l.fn.page l.page × (0 < l.most)
