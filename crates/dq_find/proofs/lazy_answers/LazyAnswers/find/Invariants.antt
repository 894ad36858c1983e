use Rattle.std.proofs.Common.{◌<◌}
use Rattle.dq_find.proofs.FoundAnswers.{FoundSoFar}
use Rattle.dq_find.proofs.lazy_answers.LazyAnswers.find.Given as goal

abbrev pub invariant-loop : goal.invariant-loop
invariant-loop g l = FoundSoFar g.T.Tables.state l.fn.archive l.archive l.fn.self l.self × (0 < l.most)
