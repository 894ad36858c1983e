use Rattle.std.proofs.Common.{◌≡◌, ◌++◌, drop}
use Rattle.dq_find.specs.Candidates.{named_rows}
use Rattle.dq_archive.proofs.PastLookups.{LooksSoFar}
use Rattle.dq_find.proofs.search.Search.rows_with.Given as goal

abbrev pub invariant-loop-key : goal.invariant-loop-key
invariant-loop-key g l =
    let name = l.fn.archive.institution.now.name in
    LooksSoFar g.T.Tables.state l.fn.archive l.archive l.rows
    (λ records. l.rows ++ named_rows name records l.self.query.now (drop l.key-index l.keys) ≡ named_rows name records l.self.query.now l.keys)
